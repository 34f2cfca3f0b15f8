-- The timelines that the claim covers: those that lists of calls make, however the calls are made. The proof is `coverage` of proofs/Covered.antt.
use Rattle.std.specs.Prelude.{◌≡◌, List, Float}
use Rattle.clock.specs.Clocks.{paused, resumed, scaled}
use Rattle.track.specs.Calls.{TrackCall, track_step}
use Rattle.timeline.specs.declared.timeline.Timeline.{Timeline}
use Rattle.timeline.specs.Placements.{empty}
use Rattle.timeline.specs.Calls.{Call, with_track, step, after}
use Rattle.history.specs.Invariant.{Invariant}
use Rattle.history.specs.Claim.{OwnBuilt, Seeks}
use Rattle.history.specs.Lent.{lent}
use Rattle.history.specs.InPlace.{in_columns, gathered, StandsWhole, PlayedInPlace}

-- a list of calls makes the timeline from the empty one
pub record Covered (t : Timeline) : Type 0 where
  pub calls : List Call
  pub made : t ≡ after empty calls

-- what is covered, and what holds of it
pub record Coverage : Type 0 where
  -- what a list of calls makes
  pub lists : (calls : List Call) → Covered (after empty calls)
  -- what a call leaves of a covered timeline
  pub calls : (t : Timeline) (call : Call) → Covered t → Covered (step t call).timeline
  -- what a call on its track leaves, with the labels of before
  pub tracks : (t : Timeline) (call : TrackCall) → Covered t → Covered (with_track t (track_step t.track call).track)
  -- what the calls on its clock leave, lent
  pub pauses : (t : Timeline) → Covered t → Covered (lent t (paused t.track.clock))
  pub resumes : (t : Timeline) → Covered t → Covered (lent t (resumed t.track.clock))
  pub scales : (t : Timeline) (x : Float) → Covered t → Covered (lent t (scaled t.track.clock x))
  -- calls made in place, in columns that it is laid out in, are calls of the lists; and what they leave there, gathered
  pub lays : (t : Timeline) → Covered t → StandsWhole t
  pub columns : (t : Timeline) (calls : List TrackCall) → Covered t → PlayedInPlace t calls
  pub gathers : (t : Timeline) (calls : List TrackCall) → Covered t → Covered (gathered t (in_columns t calls))
  -- the claim and the invariant hold of a covered timeline
  pub own : (t : Timeline) (c : Covered t) → OwnBuilt c.calls t
  pub seeks : (t : Timeline) → Covered t → Seeks t
  pub sound : (t : Timeline) → Covered t → Invariant t
