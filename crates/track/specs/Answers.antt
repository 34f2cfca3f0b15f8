-- What a call answers, what it leaves in all that was lent to it, and the columns that a track is laid out in.
use denote.Triple.Both.{Both}
use denote.MutBor.{MutBor}
use Rattle.std.specs.Borrow.{Bor}
use Rattle.std.specs.Prelude.{ℕ, min, ◌≡◌, Bool, true, false, not, cond, List, map, length, take, replicate, Float, Result, Ok, Err}
use Rattle.steps.specs.declared.Entry.{Entry}
use Rattle.float32.specs.Helpers.{zero_f}
use Rattle.steps.specs.Slices.{over}
use Rattle.steps.specs.Times.{max_entries}
use Rattle.refusal.specs.declared.Refusal.{Refusal}
use Rattle.refusal.specs.Refusal.{accepted}
use Rattle.completions.specs.declared.Spans.{Spans}
use Rattle.clock.specs.declared.Clock.{Clock}
use Rattle.clock.specs.Clocks.{is_playing, is_completed, fires}
use Rattle.track.specs.declared.rows.Rows.{Rows}
use Rattle.track.specs.declared.track.Track.{Track}
use Rattle.track.specs.declared.track.Playhead.{Playhead}
use Rattle.track.specs.declared.track.Columns.{Columns}
use Rattle.track.specs.Tracks.{live, with_only, Sent}
use Rattle.track.specs.Columns.{track_of}
use Rattle.track.specs.Calls.{Room, room_of, TrackOut}

-- a slice lent to be read, as a contract has it: `s.entry.now` is what it held when it was lent, `s.exit.now` what it holds after the call
abbrev pub Lent : Type 0 → Type 0
Lent A = Both (Bor (List A)) (Bor (List A))

-- a slice lent to be written, likewise
abbrev pub LentMut : Type 0 → Type 0
LentMut A = Both (MutBor (List A)) (MutBor (List A))

-- the three row slices, likewise
abbrev pub LentRows : Type 0
LentRows = Both (MutBor Rows) (MutBor Rows)

-- they are the same three slices as before
pub record SameSlices (r s : Rows) : Type 0 where
  pub kinds : s.kinds.ghost_name ≡ r.kinds.ghost_name
  pub amounts : s.amounts.ghost_name ≡ r.amounts.ghost_name
  pub places : s.places.ghost_name ≡ r.places.ghost_name

-- refused by r, where the test says so
abbrev pub refused_where : Bool → Refusal → Result Unit Refusal
refused_where refused r = cond refused (Err r) (Ok tt)

-- what `update` answers: of the completed entries, how many it wrote to the lent list
pub record Answer : Type 0 where
  pub refusal : ℕ
  pub running : Bool
  pub completed : Bool
  pub listed : ℕ

abbrev pub answer_of : TrackOut → Answer
answer_of o = record { refusal = o.refusal; running = o.running; completed = o.completed; listed = length o.listed }

-- of an update that is refused by n; of one at rest; of one that ends the run, or does not
abbrev pub refused_by : ℕ → Answer
refused_by n = record { refusal = n; running = false; completed = false; listed = 0 }

abbrev pub resting_in : Clock → Answer
resting_in c = record { refusal = accepted; running = not (is_completed c.state); completed = false; listed = 0 }

abbrev pub reached_from : Clock → Bool → ℕ → Answer
reached_from c ended listed = record { refusal = accepted; running = not ended; completed = fires c ended; listed = listed }

-- of one that does not go on: at rest, or with nothing to play, which ends the run
abbrev pub stayed_in : Clock → Answer
stayed_in c = cond (is_playing c.state) (reached_from c true 0) (resting_in c)

-- play, reset and the seeks with the outcome o: the refusal n, the track t, and the row slices before and after
pub record MovesBy (o : TrackOut) (n : ℕ) (t : Track) (k₀ k : List ℕ) (a₀ a p₀ p : List Float) : Type 0 where
  pub refusal : n ≡ o.refusal
  pub track : t ≡ o.track
  pub rows : Sent o.rows k₀ k a₀ a p₀ p

-- `update` with the outcome o: the answer x, the track t, the list and the row slices before and after
pub record UpdatesBy (o : TrackOut) (x : Answer) (t : Track) (l₀ l k₀ k : List ℕ) (a₀ a p₀ p : List Float) : Type 0 where
  pub answer : x ≡ answer_of o
  pub track : t ≡ o.track
  pub list : l ≡ over o.listed l₀
  pub rows : Sent o.rows k₀ k a₀ a p₀ p

-- the preview with the outcome o: the refusal n, and the row slices before and after
pub record ShowsBy (o : TrackOut) (n : ℕ) (k₀ k : List ℕ) (a₀ a p₀ p : List Float) : Type 0 where
  pub refusal : n ≡ o.refusal
  pub rows : Sent o.rows k₀ k a₀ a p₀ p

-- the track that the playhead plays in lent columns
abbrev pub lent_track : Playhead → Spans → Lent Bool → Track
lent_track head spans marks = track_of head spans.starts.now spans.durations.now marks.entry.now

-- how many places the lent row slices have
abbrev pub lent_room : LentRows → Room
lent_room rows = room_of rows.entry.now.kinds.now rows.entry.now.amounts.now rows.entry.now.places.now

-- the entries es of the track k stand in the columns, and the playhead h plays them
pub record LaysOut (k : Track) (es : List Entry) (h : Playhead) (s₀ s d₀ d : List Float) (m₀ m : List Bool) : Type 0 where
  pub head : h ≡ record { count = length es; clock = k.clock; looping = k.looping }
  pub starts : s ≡ over (map (λ (e : Entry). e.start) es) s₀
  pub durations : d ≡ over (map (λ (e : Entry). e.duration) es) d₀
  pub marks : m ≡ over (map (λ (e : Entry). e.done) es) m₀
  pub track : track_of h s d m ≡ with_only k es

-- the live entries of the track k are laid out, as many as the shortest column takes
abbrev pub LaidOut : Track → Playhead → LentMut Float → LentMut Float → LentMut Bool → Type 0
LaidOut k h starts durations marks =
    LaysOut k (take (min (length starts.entry.now) (min (length durations.entry.now) (length marks.entry.now))) (live k)) h
    starts.entry.now starts.exit.now durations.entry.now durations.exit.now marks.entry.now marks.exit.now

-- the columns of the track k, by value
abbrev pub ColumnsOf : Track → Columns → Type 0
ColumnsOf k c =
    LaysOut k (take max_entries (live k)) c.head
    (replicate max_entries zero_f) c.held.starts (replicate max_entries zero_f) c.held.durations (replicate max_entries false) c.marks
