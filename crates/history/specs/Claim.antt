-- The claim about whole lists of calls (paper 01, "Agreed between us"): `Claim`, at the end, says it in words. Its proof is `claim` of
-- proofs/Claim.antt. Covered.antt says which timelines come of such lists.
use Rattle.std.specs.Prelude.{◌≡◌, ◌⊎◌, Bool, true, false, not, ◌&&◌, cond, List, [], ◌∷◌, eqb, length, Float}
use Rattle.std.specs.Float.Ieee.{lt, le, eq, is_nan}
use Rattle.float32.specs.Helpers.{zero_f, finite_f}
use Rattle.refusal.specs.Refusal.{accepted}
use Rattle.tween.specs.LoopMode.{is_once}
use Rattle.steps.specs.declared.Row.{Row}
use Rattle.steps.specs.Rows.{row}
use Rattle.clock.specs.declared.TimelineState.{TimelineState}
use Rattle.clock.specs.declared.TimelineState.TheVariants.{Idle, Playing, Paused, Completed}
use Rattle.clock.specs.Clocks.{is_playing}
use Rattle.track.specs.Tracks.{live, track_base, track_run}
use Rattle.track.specs.Calls.{Room, Looping, SetTimeScale, Play, Pause, Resume, Reset, Seek, SeekAbs, Update, Preview}
use Rattle.timeline.specs.declared.timeline.Timeline.{Timeline}
use Rattle.timeline.specs.Placements.{empty}
use Rattle.timeline.specs.Calls.{Call, Add, AddBoxed, AddAtLabel, On, Out, step, after}
use Rattle.history.specs.Entries.{done_marks, SameEntries}

-- the elapsed time of a timeline
abbrev pub elapsed_of : Timeline → Float
elapsed_of t = t.track.clock.elapsed

-- its state
abbrev pub state_of : Timeline → TimelineState
state_of t = t.track.clock.state

-- "0 means accepted"
abbrev pub is_accepted : Timeline → Call → Bool
is_accepted t call = eqb (step t call).refusal accepted

-- ---- newly built

-- the calls that add an entry, and `looping`
abbrev pub builds : Call → Bool
builds (Add label at duration) = true
builds (AddBoxed label at duration) = true
builds (AddAtLabel label target duration) = true
builds (On (Looping mode)) = true
builds (On (SetTimeScale scale)) = false
builds (On (Play room)) = false
builds (On Pause) = false
builds (On Resume) = false
builds (On (Reset room)) = false
builds (On (Seek share room)) = false
builds (On (SeekAbs secs room)) = false
builds (On (Update dt replies list room)) = false
builds (On (Preview dt room)) = false

-- every call of the list is one of these, and is accepted
abbrev pub AllBuild : Timeline → List Call → Type 0
AllBuild t [] = Unit
AllBuild t (call ∷ calls) = (builds call ≡ true) × (is_accepted t call ≡ true) × AllBuild (step t call).timeline calls

-- "Newly built: from it by accepted `add` and `looping` alone"
pub record NewlyBuilt (t : Timeline) : Type 0 where
  pub calls : List Call
  pub build : AllBuild empty calls
  pub made : t ≡ after empty calls

-- the call in front, where the test passes
abbrev pub keep_call : Bool → Call → List Call → List Call
keep_call true call calls = call ∷ calls
keep_call false call calls = calls

-- "the list's own such calls"
unfoldable pub own_build : Timeline → List Call → List Call
own_build t [] = []
own_build t (call ∷ calls) = keep_call (builds call && is_accepted t call) call (own_build (step t call).timeline calls)

-- "the list's own such calls make one": each is accepted, and they make the entries and the loop mode of the timeline t that the list made
pub record OwnBuilt (calls : List Call) (t : Timeline) : Type 0 where
  pub build : AllBuild empty (own_build empty calls)
  pub same : SameEntries t (after empty (own_build empty calls))

-- ---- noted places

-- an accepted seek of either kind, or an accepted update while Playing in a mode other than Once
abbrev pub notes : Timeline → Call → Bool
notes t (Add label at duration) = false
notes t (AddBoxed label at duration) = false
notes t (AddAtLabel label target duration) = false
notes t (On (Looping mode)) = false
notes t (On (SetTimeScale scale)) = false
notes t (On (Play room)) = false
notes t (On Pause) = false
notes t (On Resume) = false
notes t (On (Reset room)) = false
notes t (On (Seek share room)) = is_accepted t (On (Seek share room))
notes t (On (SeekAbs secs room)) = is_accepted t (On (SeekAbs secs room))
notes t (On (Update dt replies list room)) =
    is_accepted t (On (Update dt replies list room)) && (is_playing (state_of t) && not (is_once t.track.looping))
notes t (On (Preview dt room)) = false

-- n is the timeline right after such a call, after any list; the base is above 0, and the elapsed time is no NaN
pub record Noted (n : Timeline) : Type 0 where
  pub before : List Call
  pub call : Call
  pub noted : notes (after empty before) call ≡ true
  pub left : n ≡ (step (after empty before) call).timeline
  pub base : lt zero_f (track_base n.track) ≡ true
  pub number : is_nan (elapsed_of n) ≡ false

-- ---- what is claimed of a seek

-- the same elapsed time and done marks; a Float has one NaN, so NaN equals NaN
pub record SamePlace (t u : Timeline) : Type 0 where
  pub elapsed : elapsed_of t ≡ elapsed_of u
  pub marks : done_marks t ≡ done_marks u

-- two seeks come to the same place, and send each entry the same row
pub record Alike (o o' : Out) : Type 0 where
  pub place : SamePlace o.timeline o'.timeline
  pub rows : o.rows ≡ o'.rows

-- what the seek to secs, which gave o, makes of the place that n noted; `eq` takes zeros of either sign for one second
pub record ComesBack (secs : Float) (o : Out) (n : Timeline) : Type 0 where
  -- a seek to the noted second, given to the bit, leaves it to the bit, and the marks noted
  pub exact : secs ≡ elapsed_of n → SamePlace o.timeline n
  -- a seek to a second equal to it goes there
  pub there : eq secs (elapsed_of n) ≡ true → eq (elapsed_of o.timeline) (elapsed_of n) ≡ true
  -- a seek to any second that goes there leaves the marks noted
  pub marks : eq (elapsed_of o.timeline) (elapsed_of n) ≡ true → done_marks o.timeline ≡ done_marks n

-- one step and no more. Of "a byte (number of resets 0 to 2, plus 4 for an update, plus 8 for a seek), the update amount, and the seek
-- place; absent amounts are 0.0" a row has one reset, or one seek and its place
abbrev pub OneStep : Row → Type 0
OneStep r = (r ≡ row 1 zero_f zero_f) ⊎ (r ≡ row 8 zero_f r.place)

-- each row is that
abbrev pub AllOneStep : List Row → Type 0
AllOneStep [] = Unit
AllOneStep (r ∷ rs) = OneStep r × AllOneStep rs

-- the state after a seek that does not reach the end
abbrev pub going_on : TimelineState → TimelineState
going_on Idle = Idle
going_on Playing = Playing
going_on Paused = Paused
going_on Completed = Playing

-- the absolute seek that is claimed of, with its slices
abbrev pub seek_abs : Float → Room → Call
seek_abs secs room = On (SeekAbs secs room)

-- what the seek to secs gives on the timeline t: o
pub record Sought (t : Timeline) (secs : Float) (room : Room) (o : Out) : Type 0 where
  -- 1. as every newly built timeline
  pub as-new : (u : Timeline) → NewlyBuilt u → SameEntries t u
      → (is_accepted u (seek_abs secs room) ≡ true) × ((room' : Room) → is_accepted u (seek_abs secs room') ≡ true → Alike o (step u (seek_abs secs room')))
  -- 2. a row for each entry, and one step in each row
  pub each : length o.rows ≡ length (live t.track)
  pub steps : AllOneStep o.rows
  -- 3. no NaN, at least 0, at most the run
  pub number : is_nan (elapsed_of o.timeline) ≡ false
  pub least : le zero_f (elapsed_of o.timeline) ≡ true
  pub most : le (elapsed_of o.timeline) (track_run t.track) ≡ true
  -- 4. Completed exactly at the end of a finite run
  pub state : state_of o.timeline ≡ cond (finite_f (track_run t.track) && eq (track_run t.track) (elapsed_of o.timeline)) Completed (going_on (state_of t))
  -- 5. noted places come back
  pub back : (n : Timeline) → Noted n → SameEntries t n → ComesBack secs o n

-- what is claimed of seeks on the timeline t: every accepted one gives that
abbrev pub Seeks : Timeline → Type 0
Seeks t = (secs : Float) (room : Room) → is_accepted t (seek_abs secs room) ≡ true → Sought t secs room (step t (seek_abs secs room))

-- Take any list of calls, with any arguments and any lent slices, refused calls included, each on the timeline that the one before left,
-- from the empty timeline on. The list's own calls that add an entry or set the loop mode, as far as accepted, make a newly built timeline of
-- the same entries and loop mode. And after the list, one accepted absolute seek to any second
-- 1. gives the elapsed time, the done marks and the whole row of each entry that every newly built timeline of the same entries and loop
--    mode gives, sought to the same second; that seek is accepted with the same slices, and gives the same with any others that it is
--    accepted with;
-- 2. sends each entry one row, and in it one step: a reset, or a seek, and nothing else;
-- 3. leaves an elapsed time that is no NaN, at least 0 and at most the run;
-- 4. leaves the state Completed exactly where the run is finite and the elapsed time equals it; elsewhere it leaves the state of before,
--    but Playing where that was Completed;
-- 5. brings noted places back. A place is noted, in any such list, right after an accepted seek of either kind, or right after an accepted
--    update while Playing in a mode other than Once, where the base is above 0 and the elapsed time is no NaN. On any timeline of the same
--    entries and loop mode, a seek that goes to the elapsed time noted leaves the marks noted, whatever second it was asked for, zeros of
--    either sign being the same second. A seek to that second goes there, and one that is given it to the bit leaves it to the bit.
abbrev pub Claim : Type 0
Claim = (calls : List Call) → OwnBuilt calls (after empty calls) × Seeks (after empty calls)

-- The steward's question. Two timelines have any histories, and the same entries and loop mode. One notes its place, the other takes a
-- seek. Where that goes to the place, both show the same elapsed time and the same marks; and a seek to it goes there.
abbrev pub PlacesAgree : Type 0
PlacesAgree = (calls : List Call) (n : Timeline) (secs : Float) (room : Room) → Noted n → SameEntries (after empty calls) n
    → is_accepted (after empty calls) (seek_abs secs room) ≡ true → ComesBack secs (step (after empty calls) (seek_abs secs room)) n
