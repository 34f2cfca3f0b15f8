-- Calls made in place. A timeline's track is laid out in columns (`Track::lay_out`), and the calls are made there: each answers what
-- `track_step` answers for the track that stood in the columns, and leaves in them what that leaves, by its contract or, where it is on the
-- playhead alone, by track/specs/Claims.antt. Then the track is gathered from the columns (`Track::gather`). What holds of this is
-- `StandsWhole` and `PlayedInPlace`, which proofs/InPlace.antt proves.
use Rattle.std.specs.Prelude.{◌≤◌, ◌≡◌, Bool, true, List, [], ◌∷◌, map, eqb, length, Float}
use Rattle.refusal.specs.Refusal.{accepted}
use Rattle.track.specs.declared.track.Track.{Track}
use Rattle.track.specs.declared.track.Playhead.{Playhead}
use Rattle.track.specs.Tracks.{live}
use Rattle.track.specs.Columns.{track_of, trimmed, laid_over}
use Rattle.track.specs.Calls.{Room, TrackCall, SeekAbs, TrackOut, track_step}
use Rattle.track.specs.Answers.{LentMut, LaidOut}
use Rattle.timeline.specs.declared.timeline.Timeline.{Timeline}
use Rattle.timeline.specs.Calls.{On, Out, with_track, step, after}
use Rattle.history.specs.Claim.{Sought}

-- the track that a list of calls leaves, each on what the one before left
unfoldable pub track_after : Track → List TrackCall → Track
track_after k [] = k
track_after k (call ∷ calls) = track_after (track_step k call).track calls

-- what stands in the columns that the timeline t was laid out in, after these calls there: before them its live entries alone
abbrev pub in_columns : Timeline → List TrackCall → Track
in_columns t calls = track_after (trimmed t.track) calls

-- the timeline that the same calls make by value
abbrev pub by_value : Timeline → List TrackCall → Timeline
by_value t calls = after t (map On calls)

-- the timeline t with the track k of the columns, gathered
abbrev pub gathered : Timeline → Track → Timeline
gathered t k = with_track t (laid_over t.track k)

-- the outcome of a call in the columns, as one on the timeline t
abbrev pub gathered_out : Timeline → TrackOut → Out
gathered_out t o =
    record { refusal = o.refusal; timeline = gathered t o.track; rows = o.rows; running = o.running; completed = o.completed; listed = o.listed }

-- the outcome of one call more there
abbrev pub in_place : Timeline → List TrackCall → TrackCall → Out
in_place t calls call = gathered_out t (track_step (in_columns t calls) call)

-- Laid out in columns that have room for its live entries, a timeline stands in them with all of these.
abbrev pub StandsWhole : Timeline → Type 0
StandsWhole t = (head : Playhead) (starts durations : LentMut Float) (marks : LentMut Bool) →
    let n = length (live t.track) in
    n ≤ length starts.entry.now → n ≤ length durations.entry.now → n ≤ length marks.entry.now → LaidOut t.track head starts durations marks
    → track_of head starts.exit.now durations.exit.now marks.exit.now ≡ in_columns t []

-- What holds after these calls, made in columns that the timeline t was laid out in.
pub record PlayedInPlace (t : Timeline) (calls : List TrackCall) : Type 0 where
  -- in the columns stand the live entries of the timeline that the calls make by value, with its clock and its mode
  pub columns : in_columns t calls ≡ trimmed (by_value t calls).track
  -- gathered, what stands there is that timeline, to the last slot
  pub back : gathered t (in_columns t calls) ≡ by_value t calls
  -- one call more refuses, sends, lists, answers and leaves what it does on that timeline
  pub answers : (call : TrackCall) → in_place t calls call ≡ step (by_value t calls) (On call)
  -- so what is claimed of an accepted absolute seek on that timeline, its rows, elapsed time, marks and state, holds of one made in place
  pub seeks : (secs : Float) (room : Room) →
      let o = in_place t calls (SeekAbs secs room) in
      eqb o.refusal accepted ≡ true → Sought (by_value t calls) secs room o
