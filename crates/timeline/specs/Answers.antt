-- What a call on a timeline answers, and what it leaves in the slices lent to it, by its outcome. A contract cites `Adds`, `Moves`, `Updates` or `Shows`.
use denote.MutBor.{MutBor}
use Rattle.std.specs.Prelude.{ℕ, ◌≡◌, Bool, List, length, Float, Result, Ok, Err}
use Rattle.refusal.specs.declared.Refusal.{Refusal}
use Rattle.refusal.specs.Refusal.{number, number_in, held_or}
use Rattle.steps.specs.Slices.{over}
use Rattle.track.specs.declared.rows.Rows.{Rows}
use Rattle.clock.specs.declared.Clock.{Clock}
use Rattle.track.specs.Tracks.{with_marks, Sent}
use Rattle.track.specs.Calls.{Room, TrackCall, Update, Preview}
use Rattle.track.specs.Answers.{Lent, LentMut, LentRows, SameSlices, Answer, refused_by, lent_room}
use Rattle.player.specs.declared.engine.Player.{Player}
use Rattle.player.specs.declared.engine.Updated.{Updated}
use Rattle.player.specs.Answered.{answer_of, MovesInPlace}
use Rattle.timeline.specs.declared.timeline.Timeline.{Timeline}
use Rattle.timeline.specs.Calls.{Call, On, Out, with_track, step}

-- The call with the outcome o, made on the timeline t, answers r: its refusal, or the timeline that it leaves. "panel and builder are
-- unchanged": a refused call leaves t.
pub record Adds (o : Out) (t : Timeline) (r : Result Timeline Refusal) : Type 0 where
  pub refusal : number_in r ≡ o.refusal
  pub timeline : held_or t r ≡ o.timeline

-- play, reset and the seeks, likewise, and the row slices before and after
pub record MoveAnswer (o : Out) (t : Timeline) (r : Result Timeline Refusal) (k₀ k : List ℕ) (a₀ a p₀ p : List Float) : Type 0 where
  pub refusal : number_in r ≡ o.refusal
  pub timeline : held_or t r ≡ o.timeline
  pub rows : Sent o.rows k₀ k a₀ a p₀ p

-- what `update` answers beside the timeline, and the timeline that it leaves
abbrev pub answer_in : Result (Updated × Timeline) Refusal → Answer
answer_in (Ok (u, t)) = answer_of u
answer_in (Err r) = refused_by (number r)

abbrev pub timeline_in : Timeline → Result (Updated × Timeline) Refusal → Timeline
timeline_in t (Ok (u, q)) = q
timeline_in t (Err r) = t

-- the answer of an update with the outcome o
abbrev pub answer_by : Out → Answer
answer_by o = record { refusal = o.refusal; running = o.running; completed = o.completed; listed = length o.listed }

-- `update` with the outcome o, made on t: the answer r, the list and the row slices before and after
pub record UpdateAnswer (o : Out) (t : Timeline) (r : Result (Updated × Timeline) Refusal) (l₀ l k₀ k : List ℕ) (a₀ a p₀ p : List Float) : Type 0 where
  pub answer : answer_in r ≡ answer_by o
  pub timeline : timeline_in t r ≡ o.timeline
  pub list : l ≡ over o.listed l₀
  pub rows : Sent o.rows k₀ k a₀ a p₀ p

-- the preview with the outcome o: the answer r, and the row slices before and after
pub record ShowAnswer (o : Out) (r : Result Unit Refusal) (k₀ k : List ℕ) (a₀ a p₀ p : List Float) : Type 0 where
  pub refusal : number_in r ≡ o.refusal
  pub rows : Sent o.rows k₀ k a₀ a p₀ p

-- the call, with the room of the lent slices, answers r
abbrev pub MovesOn : Timeline → (Room → Call) → Result Timeline Refusal → LentRows → Type 0
MovesOn t call r rows =
    SameSlices rows.entry.now rows.exit.now
    × MoveAnswer (step t (call (lent_room rows))) t r
    rows.entry.now.kinds.now rows.exit.now.kinds.now rows.entry.now.amounts.now rows.exit.now.amounts.now rows.entry.now.places.now rows.exit.now.places.now

-- what a call of a closure over a player and rows can come to: the answer, and what is left of both
abbrev pub Course : Type 1
Course = MutBor Player → MutBor Rows → Result Unit Refusal → MutBor Player → MutBor Rows → Type 0

-- it leaves the player with the slice of marks that it had
abbrev pub KeepsMarks : Course → Type 0
KeepsMarks post = (p : MutBor Player) (r : MutBor Rows) (x : Result Unit Refusal) (q : MutBor Player) (s : MutBor Rows) → post p r x q s → q.now.marks.ghost_name ≡ p.now.marks.ghost_name

-- it is this call of the player
abbrev pub Makes : Course → (Room → TrackCall) → Type 0
Makes post call = (p : MutBor Player) (r : MutBor Rows) (x : Result Unit Refusal) (q : MutBor Player) (s : MutBor Rows) → post p r x q s → MovesInPlace p.now call x q.now r.now s.now

-- what a call answers that leaves a clock and these marks in the columns of the timeline's track, or refuses
abbrev pub left_by : Timeline → Result Clock Refusal → List Bool → Result Timeline Refusal
left_by t (Ok clock) marks = Ok (with_track t (with_marks t.track clock marks))
left_by t (Err r) marks = Err r

abbrev pub Moves : Timeline → (Room → TrackCall) → Result Timeline Refusal → LentRows → Type 0
Moves t call = MovesOn t (λ (room : Room). On (call room))

-- the update by dt answers r
abbrev pub Updates : Timeline → Float → Lent ℕ → Result (Updated × Timeline) Refusal → LentMut ℕ → LentRows → Type 0
Updates t dt replies r list rows =
    SameSlices rows.entry.now rows.exit.now
    × UpdateAnswer (step t (On (Update dt replies.entry.now (length list.entry.now) (lent_room rows)))) t r
    list.entry.now list.exit.now rows.entry.now.kinds.now rows.exit.now.kinds.now rows.entry.now.amounts.now rows.exit.now.amounts.now rows.entry.now.places.now rows.exit.now.places.now

-- the preview of an update by dt answers r
abbrev pub Shows : Timeline → Float → Result Unit Refusal → LentRows → Type 0
Shows t dt r rows =
    SameSlices rows.entry.now rows.exit.now
    × ShowAnswer (step t (On (Preview dt (lent_room rows)))) r
    rows.entry.now.kinds.now rows.exit.now.kinds.now rows.entry.now.amounts.now rows.exit.now.amounts.now rows.entry.now.places.now rows.exit.now.places.now
