-- What an update while Playing comes to: a step for each entry, and an elapsed time that is a NaN or not below 0.
use mathlib.Core.Path.{◌≡◌, refl, ap}
use mathlib.Core.Bool.{Bool, true, false, cond}
use mathlib.Core.List.{List, [], ◌∷◌, map}
use Prim.Native.Nat.{ℕ, suc}
use lib.ListN.{length, drop, length-map}
use lib.Ieee.{Float, eq}
use Rattle.float32.specs.Helpers.{zero_f, min_f}
use Rattle.tween.specs.LoopMode.{is_once}
use Rattle.steps.specs.declared.Entry.{Entry}
use Rattle.steps.specs.declared.Rule.TheVariants.{Sync}
use Rattle.steps.specs.Times.{local_time}
use Rattle.steps.specs.Rows.{ruled}
use Rattle.clock.specs.Clocks.{next_elapsed, reach_of}
use Rattle.track.specs.declared.track.Track.{Track}
use Rattle.track.specs.Tracks.{live, track_base, track_run}
use Rattle.track.specs.Updates.{ticks, Advance, advanced, ended_at, playing}
use Rattle.history.specs.Invariant.{NotBelow}
use Rattle.history.proofs.Runs.{base_nonneg, run_nonneg, next_not_below, min-not_below, reach_by}
use Rattle.history.proofs.Clocks.{SoundClock}

pub record SoundAdvance (k : Track) (a : Advance) : Type 0 where
  pub each : length a.steps ≡ length (live k)
  pub elapsed : NotBelow a.reach.elapsed

ticks-length : (prev next : Float) (es : List Entry) (rs : List ℕ) → length (ticks prev next es rs) ≡ length es
unfolding ticks
ticks-length prev next [] rs = refl
ticks-length prev next (e ∷ es) rs = ap suc (ticks-length prev next es (drop 1 rs))

module _ (k : Track) (prev next : Float) (h : NotBelow next) (z : eq (track_base k) zero_f ≡ false) (rs : List ℕ) where
  abbrev to : Float
  to = (reach_of k.looping (track_base k) next).elapsed

  advance : SoundAdvance k (advanced k.looping (live k) (track_base k) prev next rs)
  unfolding advanced
  advance =
      record {
        each = each (is_once k.looping);
        elapsed =
            reach_by NotBelow k.looping (track_base k) next z
            (min-not_below next (track_run k) h (run_nonneg k.looping (track_base k) (base_nonneg (live k)))) (λ e. h);
      }
    where
      each : (b : Bool) → length (cond b (ticks (min_f prev (track_base k)) to (live k) rs) (map (ruled (Sync (local_time k.looping (track_base k) to))) (live k))) ≡ length (live k)
      each true = ticks-length (min_f prev (track_base k)) to (live k) rs
      each false = length-map (live k) _

pub playing-advance : (k : Track) → SoundClock k.clock → (dt : Float) (rs : List ℕ) → SoundAdvance k (playing k dt rs)
unfolding playing
playing-advance k h dt rs = go (eq (track_base k) zero_f) refl
  where
    go : (b : Bool) → eq (track_base k) zero_f ≡ b
        → SoundAdvance k (cond b (ended_at (live k) k.clock.elapsed) (advanced k.looping (live k) (track_base k) k.clock.elapsed (next_elapsed k.clock dt) rs))
    go true z = record { each = length-map (live k) _; elapsed = h.elapsed }
    go false z = advance k k.clock.elapsed (next_elapsed k.clock dt) (next_not_below k.clock dt h.elapsed h.scale) z rs
