-- The row that one entry is sent, and the mark that it leaves. Definitions only.
use Rattle.std.specs.Prelude.{ℕ, ◌+◌, Bool, true, false, not, ◌&&◌, ◌||◌, cond, eqb, Float}
use Rattle.std.specs.Float.{binary32}
use Rattle.std.specs.Float.Ieee.{sub, div, lt, le, eq}
use Rattle.float32.specs.Helpers.{zero_f, one_f, max_f, min_f}
use Rattle.steps.specs.declared.Entry.{Entry}
use Rattle.steps.specs.declared.Row.{Row}
use Rattle.steps.specs.declared.Stepped.{Stepped}
use Rattle.steps.specs.declared.Rule.{Rule}
use Rattle.steps.specs.declared.Rule.TheVariants.{Keep, Clear, Sync, Restart}
use Rattle.steps.specs.Times.{end_at}

-- a row, of its three parts
abbrev pub row : ℕ → Float → Float → Row
row kind amount place = record { kind = kind; amount = amount; place = place }

-- a row and the mark that it leaves
abbrev pub stepped : Row → Bool → Stepped
stepped r d = record { row = r; done = d }

-- "absent amounts are 0.0": no step, one reset, a seek to a place
abbrev pub no_row : Row
no_row = row 0 zero_f zero_f

abbrev pub reset_row : Row
reset_row = row 1 zero_f zero_f

abbrev pub seek_row : Float → Row
seek_row place = row 8 zero_f place

-- nothing is sent, and the mark stays
unfoldable pub untouched : Entry → Stepped
untouched e = stepped no_row e.done

-- a reset, as `Timeline::reset` sends it, which takes the mark away
unfoldable pub reset_step : Stepped
reset_step = stepped reset_row false

-- `sync_to_elapsed` for one entry at the local time t
unfoldable pub synced : Float → Entry → Stepped
synced t e =
    cond (le t e.start)
    reset_step
    (cond (le (end_at e) t || eq e.duration zero_f)
    (stepped (seek_row one_f) true)
    (stepped (seek_row (div binary32 (sub binary32 t e.start) e.duration)) false))

-- "number of resets 0 to 2, plus 4 for an update, plus 8 for a seek"
abbrev pub kind_of : Bool → Bool → Bool → ℕ
kind_of reset update seek = cond reset 1 0 + cond update 4 0 + cond seek 8 0

-- `tick_forward` for one entry, in its order, with its leaf's reply: 0 stopped, 1 running. The step from prev to next is closed at both
-- ends: an entry that starts exactly at next is reset by this update, and by the one after it, which starts there.
unfoldable pub ticked : Float → Float → Entry → ℕ → Stepped
ticked prev next e reply =
    let start = e.start in
    let end = end_at e in
    let entered = le prev start && le start next in
    let instant = eq e.duration zero_f in
    let from = max_f prev start in
    let to = min_f next end in
    let updates = not instant && lt from to in
    let stopped = updates && eqb reply 0 in
    let ends = cond instant (le start next) (le end next) in
    let kept = not entered && e.done in
    cond (lt next start)
    reset_step
    (stepped (row (kind_of entered updates ends) (cond updates (sub binary32 to from) zero_f) (cond ends one_f zero_f)) (ends || (stopped || kept)))

-- one reset more, before the other steps
unfoldable pub reset_first : Stepped → Stepped
reset_first s = stepped (row (s.row.kind + 1) s.row.amount s.row.place) s.done

-- what a call other than a tick sends to an entry
abbrev pub ruled : Rule → Entry → Stepped
ruled Keep e = untouched e
ruled Clear e = reset_step
ruled (Sync t) e = synced t e
ruled (Restart t) e = reset_first (synced t e)
