-- `update`: how far it goes, what it sends and what it completes. Definitions only.
use Rattle.std.specs.Prelude.{ℕ, suc, Bool, true, false, not, ◌&&◌, ◌||◌, cond, List, [], ◌∷◌, map, ltb, length, take, drop, get_or, Float}
use Rattle.std.specs.Float.Ieee.{eq}
use Rattle.float32.specs.Helpers.{zero_f, min_f}
use Rattle.tween.specs.LoopMode.{is_once}
use Rattle.tween.specs.declared.loop_mode.Loop.{Loop}
use Rattle.steps.specs.declared.Entry.{Entry}
use Rattle.steps.specs.declared.Stepped.{Stepped}
use Rattle.steps.specs.declared.Rule.TheVariants.{Keep, Sync}
use Rattle.steps.specs.Times.{local_time}
use Rattle.steps.specs.Rows.{ticked, ruled}
use Rattle.completions.specs.Completions.{keep, completions_between}
use Rattle.clock.specs.declared.Reach.{Reach}
use Rattle.clock.specs.Clocks.{next_elapsed, reach_of}
use Rattle.track.specs.declared.track.Track.{Track}
use Rattle.track.specs.Tracks.{live, track_base}

-- 4: "one of those bytes is above 1"
unfoldable pub above_one : List ℕ → Bool
above_one [] = false
above_one (r ∷ rs) = ltb 1 r || above_one rs

-- 4: "the reply slice is shorter than the entries, or one of those bytes is above 1", of n entries
abbrev pub replies_bad_in : ℕ → List ℕ → Bool
replies_bad_in n rs = ltb (length rs) n || above_one (take n rs)

abbrev pub replies_bad : List ℕ → Track → Bool
replies_bad rs k = replies_bad_in (length (live k)) rs

-- `tick_forward`: each entry with its leaf's reply; where there is none it counts as running
unfoldable pub ticks : Float → Float → List Entry → List ℕ → List Stepped
ticks prev next [] rs = []
ticks prev next (e ∷ es) rs = ticked prev next e (get_or rs 0 1) ∷ ticks prev next es (drop 1 rs)

-- `!was_completed && entry.completed`: the numbers, from i, of the entries that were not done and now are
unfoldable pub newly_done : ℕ → List Entry → List Stepped → List ℕ
newly_done i [] ss = []
newly_done i (e ∷ es) [] = []
newly_done i (e ∷ es) (s ∷ ss) = keep (not e.done && s.done) i (newly_done (suc i) es ss)

-- what an update that plays sends to each entry, which entries it completes, and where it comes to
pub record Advance : Type 0 where
  pub steps : List Stepped
  pub listed : List ℕ
  pub reach : Reach

-- `match self.looping`, from prev to next: Once ticks within the base; the other modes list what completes on the way and synchronise
unfoldable pub advanced : Loop → List Entry → Float → Float → Float → List ℕ → Advance
advanced mode es base prev next rs =
    let to = reach_of mode base next in
    let ss = cond (is_once mode) (ticks (min_f prev base) to.elapsed es rs) (map (ruled (Sync (local_time mode base to.elapsed))) es) in
    record { steps = ss; listed = cond (is_once mode) (newly_done 0 es ss) (completions_between mode es prev next); reach = to }

-- a base of 0 ends the run where it stands, and no entry is sent anything
abbrev pub ended_at : List Entry → Float → Advance
ended_at es elapsed = record { steps = map (ruled Keep) es; listed = []; reach = record { elapsed = elapsed; ended = true } }

-- `update` while Playing
unfoldable pub playing : Track → Float → List ℕ → Advance
playing k dt rs =
    cond (eq (track_base k) zero_f) (ended_at (live k) k.clock.elapsed)
    (advanced k.looping (live k) (track_base k) k.clock.elapsed (next_elapsed k.clock dt) rs)
