-- What a call makes of a sound clock is sound: its elapsed time is a NaN or not below 0, its scale not below 0.
use mathlib.Core.Path.{◌≡◌}
use mathlib.Core.Bool.{Bool, true, false, cond}
use lib.Ieee.{Float}
use Rattle.float32.specs.Helpers.{nonneg_f}
use Rattle.float32.proofs.Nonneg.{zero_nonneg, max-zero_nonneg}
use Rattle.clock.specs.declared.Clock.{Clock}
use Rattle.clock.specs.declared.TimelineState.{TimelineState}
use Rattle.clock.specs.Clocks.{is_completed, with_state, scaled, cleared, started, play_state, played, sought, advanced_clock}
use Rattle.history.specs.Invariant.{NotBelow}

pub record SoundClock (c : Clock) : Type 0 where
  pub elapsed : NotBelow c.elapsed
  pub scale : nonneg_f c.time_scale ≡ true

module _ (c : Clock) (h : SoundClock c) where
  pub state-sound : (s : TimelineState) → SoundClock (with_state c s)
  unfolding with_state
  state-sound s = record { elapsed = h.elapsed; scale = h.scale }

  pub scaled-sound : (scale : Float) → SoundClock (scaled c scale)
  unfolding scaled
  scaled-sound scale = record { elapsed = h.elapsed; scale = max-zero_nonneg scale }

  pub cleared-sound : SoundClock (cleared c)
  unfolding cleared
  cleared-sound = record { elapsed = λ p. zero_nonneg; scale = h.scale }

  pub started-sound : SoundClock (started c)
  unfolding started
  started-sound = go (is_completed c.state)
    where
      go : (b : Bool) → SoundClock (cond b (cleared c) c)
      go true = cleared-sound
      go false = h

  pub sought-sound : (total elapsed : Float) → nonneg_f elapsed ≡ true → SoundClock (sought c total elapsed)
  unfolding sought
  sought-sound total elapsed k = record { elapsed = λ p. k; scale = h.scale }

  pub advanced-sound : (elapsed : Float) (ended : Bool) → NotBelow elapsed → SoundClock (advanced_clock c elapsed ended)
  unfolding advanced_clock
  advanced-sound elapsed ended k = record { elapsed = k; scale = h.scale }

pub played-sound : (c : Clock) → SoundClock c → (base : Float) → SoundClock (played c base)
unfolding played
played-sound c h base = state-sound (started c) (started-sound c h) (play_state base)
