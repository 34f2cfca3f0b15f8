-- What a player's calls leave and answer, and the two courses of an update while it plays. Definitions only.
use Rattle.std.specs.Prelude.{ℕ, ◌≡◌, Bool, List, map, length, drop, Float, Result, Ok, Err}
use Rattle.float32.specs.Helpers.{min_f}
use Rattle.refusal.specs.declared.Refusal.{Refusal}
use Rattle.refusal.specs.Refusal.{accepted, number, number_in}
use Rattle.steps.specs.declared.Rule.TheVariants.{Sync}
use Rattle.steps.specs.Rows.{ruled}
use Rattle.steps.specs.Times.{local_time}
use Rattle.completions.specs.Completions.{completions_between}
use Rattle.completions.specs.declared.Spans.{Spans}
use Rattle.clock.specs.declared.Clock.{Clock}
use Rattle.clock.specs.Clocks.{within, reach_of}
use Rattle.track.specs.declared.rows.Rows.{Rows}
use Rattle.track.specs.declared.track.Track.{Track}
use Rattle.track.specs.declared.track.Playhead.{Playhead}
use Rattle.track.specs.Tracks.{live}
use Rattle.track.specs.Columns.{track_of, with_clock_at}
use Rattle.track.specs.Updates.{ticks, newly_done, Advance}
use Rattle.track.specs.Calls.{Room, room_of, TrackCall, Update, Preview, TrackOut, fitted, advanced_to, track_step}
use Rattle.track.specs.Answers.{SameSlices, Answer, refused_by, MovesBy, UpdatesBy, ShowsBy}
use Rattle.player.specs.declared.engine.Player.{Player}
use Rattle.player.specs.declared.engine.Updated.{Updated}

-- the track that a player plays
abbrev pub playing_in : Player → Track
playing_in p = track_of p.head p.spans.starts.now p.spans.durations.now p.marks.now

-- the player with another clock
abbrev pub at_clock : Player → Clock → Player
at_clock p c = record { head = with_clock_at p.head c; spans = p.spans; marks = p.marks }

-- a call has left q of the player p: it plays as many entries, in the same mode and columns; the marks are the same slice, and those
-- behind the entries that count stay
pub record SameColumns (p q : Player) : Type 0 where
  pub head : q.head ≡ with_clock_at p.head q.head.clock
  pub spans : q.spans ≡ p.spans
  pub marks : q.marks.ghost_name ≡ p.marks.ghost_name
  pub len : length q.marks.now ≡ length p.marks.now
  pub spare : let n = length (live (playing_in p)) in drop n q.marks.now ≡ drop n p.marks.now

-- how many places the row slices have
abbrev pub room_in : Rows → Room
room_in r = room_of r.kinds.now r.amounts.now r.places.now

-- play, reset and the seeks of the player p answer x, and leave q, and s of the rows r
abbrev pub MovesInPlace : Player → (Room → TrackCall) → Result Unit Refusal → Player → Rows → Rows → Type 0
MovesInPlace p call x q r s =
    SameColumns p q × SameSlices r s
    × MovesBy (track_step (playing_in p) (call (room_in r))) (number_in x) (playing_in q) r.kinds.now s.kinds.now r.amounts.now s.amounts.now r.places.now s.places.now

-- what `update` answers, as a track's
abbrev pub answer_of : Updated → Answer
answer_of u = record { refusal = accepted; running = u.running; completed = u.completed; listed = u.listed }

abbrev pub answer_in : Result Updated Refusal → Answer
answer_in (Ok u) = answer_of u
answer_in (Err r) = refused_by (number r)

-- an update with the outcome o of the player p answers x, and leaves q, l of the list l₀, and s of the rows r
abbrev pub Updates : TrackOut → Player → Result Updated Refusal → Player → List ℕ → List ℕ → Rows → Rows → Type 0
Updates o p x q l₀ l r s =
    SameColumns p q × SameSlices r s
    × UpdatesBy o (answer_in x) (playing_in q) l₀ l r.kinds.now s.kinds.now r.amounts.now s.amounts.now r.places.now s.places.now

-- the update by dt, with these replies
abbrev pub UpdatesInPlace : Player → Float → List ℕ → Result Updated Refusal → Player → List ℕ → List ℕ → Rows → Rows → Type 0
UpdatesInPlace p dt replies x q l₀ l r s = Updates (track_step (playing_in p) (Update dt replies (length l₀) (room_in r))) p x q l₀ l r s

-- the preview of an update by dt answers x, and leaves s of the rows r
abbrev pub ShowsInPlace : Playhead → Spans → List Bool → Float → Result Unit Refusal → Rows → Rows → Type 0
ShowsInPlace head spans marks dt x r s =
    SameSlices r s
    × ShowsBy (track_step (track_of head spans.starts.now spans.durations.now marks) (Preview dt (room_in r))) (number_in x) r.kinds.now s.kinds.now r.amounts.now s.amounts.now r.places.now s.places.now

-- ---- the courses of an update, which the code works out by themselves

-- the tick of an update to next, in Once
abbrev pub ticked_to : Track → Float → Float → List ℕ → Advance
ticked_to k base next rs =
    let ss = ticks (min_f k.clock.elapsed base) (within base next).elapsed (live k) rs in
    record { steps = ss; listed = newly_done 0 (live k) ss; reach = within base next }

-- the course of an update to next, in the other modes
abbrev pub synced_to : Track → Float → Float → Advance
synced_to k base next =
    let to = reach_of k.looping base next in
    record { steps = map (ruled (Sync (local_time k.looping base to.elapsed))) (live k); listed = completions_between k.looping (live k) k.clock.elapsed next; reach = to }

-- the update with this course, unless the list is too short for it
abbrev pub UpdatesTo : Player → Advance → Result Updated Refusal → Player → List ℕ → List ℕ → Rows → Rows → Type 0
UpdatesTo p course x q l₀ l r s = Updates (fitted (length l₀) (playing_in p) (advanced_to (playing_in p) course)) p x q l₀ l r s
