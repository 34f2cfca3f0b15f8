-- What the loops over the first n entries of lent columns leave: the parts that a player's calls are made of. Definitions only.
use Rattle.std.specs.Prelude.{ℕ, ◌≡◌, ◌≤◌, Bool, false, List, length, get_or}
use Rattle.std.specs.Float.Ieee.{nan}
use Rattle.steps.specs.declared.Entry.{Entry}
use Rattle.steps.specs.declared.Row.{Row}
use Rattle.steps.specs.declared.Step.{Step}
use Rattle.steps.specs.declared.Stepped.{Stepped}
use Rattle.steps.specs.Slices.{over}
use Rattle.completions.specs.declared.Spans.{Spans}
use Rattle.track.specs.declared.rows.Rows.{Rows}
use Rattle.track.specs.Tracks.{done_of, rows_of, Sent}
use Rattle.track.specs.Columns.{entry_of, first_of}
use Rattle.track.specs.Updates.{ticks, newly_done}
use Rattle.track.specs.Answers.{SameSlices}

-- the columns have n entries, and the row slices have room for n rows
abbrev pub Reads : ℕ → Spans → List Bool → Type 0
Reads n spans marks = (n ≤ length spans.starts.now) × (n ≤ length spans.durations.now) × (n ≤ length marks)

abbrev pub Writes : ℕ → Rows → Type 0
Writes n rows = (n ≤ length rows.kinds.now) × (n ≤ length rows.amounts.now) × (n ≤ length rows.places.now)

-- entry i of the columns
abbrev pub entry_at : ℕ → Spans → List Bool → Entry
entry_at i spans marks = entry_of (get_or spans.starts.now i nan) (get_or spans.durations.now i nan) (get_or marks i false)

-- the first n entries of the columns
abbrev pub first_in : ℕ → Spans → List Bool → List Entry
first_in n spans marks = first_of n spans.starts.now spans.durations.now marks

-- their steps in a tick
abbrev pub ticks_in : ℕ → Step → Spans → List Bool → List ℕ → List Stepped
ticks_in n step spans marks replies = ticks step.prev step.next (first_in n spans marks) replies

-- the numbers of those that it completes
abbrev pub done_in : ℕ → Step → Spans → List Bool → List ℕ → List ℕ
done_in n step spans marks replies = newly_done 0 (first_in n spans marks) (ticks_in n step spans marks replies)

-- the rows rs have been sent: s is left of the row slices r
abbrev pub SentIn : List Row → Rows → Rows → Type 0
SentIn rs r s = SameSlices r s × Sent rs r.kinds.now s.kinds.now r.amounts.now s.amounts.now r.places.now s.places.now

-- the steps have been sent: each mark, and each row
abbrev pub SentTo : List Stepped → List Bool → List Bool → Rows → Rows → Type 0
SentTo ss m₀ m r s = (m ≡ over (done_of ss) m₀) × SentIn (rows_of ss) r s
