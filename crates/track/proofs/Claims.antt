-- The claims: no row of an update depends on the replies; only the live entries count; the calls on a playhead.
use Prim.Native.Nat.{ℕ}
use mathlib.Core.Path.{◌≡◌, refl}
use mathlib.Core.Bool.{Bool, true, false, cond}
use mathlib.Core.List.{List}
use lib.Ieee.{Float, eq}
use Rattle.float32.specs.Helpers.{zero_f, min_f}
use Rattle.tween.specs.LoopMode.{is_once}
use Rattle.tween.specs.declared.loop_mode.Loop.{Loop}
use Rattle.steps.specs.declared.Entry.{Entry}
use Rattle.steps.specs.declared.Stepped.{Stepped}
use Rattle.clock.specs.Clocks.{is_playing, next_elapsed, reach_of}
use Rattle.track.specs.declared.track.Track.{Track}
use Rattle.track.specs.Tracks.{live, track_base, rows_of}
use Rattle.track.specs.Columns.{track_of}
use Rattle.track.specs.Updates.{ticks, advanced, ended_at, playing}
use Rattle.track.specs.Calls.{advanced_to, rested, updated, track_step}
use Rattle.track.specs.Claims.{Claims}
use Rattle.track.proofs.Replies.{ticks-rows}
use Rattle.track.proofs.Trimmed.{whole, part}

advanced-rows : (mode : Loop) (es : List Entry) (base prev next : Float) (rs rs' : List ℕ) → rows_of (advanced mode es base prev next rs).steps ≡ rows_of (advanced mode es base prev next rs').steps
unfolding advanced
advanced-rows mode es base prev next rs rs' = go (is_once mode) _
  where
    go : (b : Bool) (ss : List Stepped) → rows_of (cond b (ticks (min_f prev base) (reach_of mode base next).elapsed es rs) ss) ≡ rows_of (cond b (ticks (min_f prev base) (reach_of mode base next).elapsed es rs') ss)
    go true ss = ticks-rows (min_f prev base) (reach_of mode base next).elapsed es rs rs'
    go false ss = refl

module _ (k : Track) (dt : Float) (rs rs' : List ℕ) where
  playing-rows : rows_of (playing k dt rs).steps ≡ rows_of (playing k dt rs').steps
  unfolding playing
  playing-rows = go (eq (track_base k) zero_f)
    where
      go : (b : Bool)
          → rows_of (cond b (ended_at (live k) k.clock.elapsed) (advanced k.looping (live k) (track_base k) k.clock.elapsed (next_elapsed k.clock dt) rs)).steps
          ≡ rows_of (cond b (ended_at (live k) k.clock.elapsed) (advanced k.looping (live k) (track_base k) k.clock.elapsed (next_elapsed k.clock dt) rs')).steps
      go true = refl
      go false = advanced-rows k.looping (live k) (track_base k) k.clock.elapsed (next_elapsed k.clock dt) rs rs'

  updated-rows : (updated k dt rs).rows ≡ (updated k dt rs').rows
  unfolding updated advanced_to
  updated-rows = go (is_playing k.clock.state)
    where
      go : (b : Bool) → (cond b (advanced_to k (playing k dt rs)) (rested k)).rows ≡ (cond b (advanced_to k (playing k dt rs')) (rested k)).rows
      go true = playing-rows
      go false = refl

pub claims : Claims
unfolding track_of track_step
claims =
    record {
      rows = updated-rows;
      whole = whole;
      part = part;
      looping = λ h ss ds ms mode. refl;
      scale = λ h ss ds ms x. refl;
      pause = λ h ss ds ms. refl;
      resume = λ h ss ds ms. refl;
    }
