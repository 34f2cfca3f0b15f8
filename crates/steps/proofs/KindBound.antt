-- How large a row's byte is.
use Prim.Native.Nat.{◌≤◌}
use mathlib.Core.Bool.{Bool, true, false, cond, ◌||◌}
use lib.Dec.{lit≤}
use lib.Ieee.{Float, binary32, sub, div, le, eq}
use Rattle.float32.specs.Helpers.{zero_f, one_f}
use Rattle.steps.specs.declared.Entry.{Entry}
use Rattle.steps.specs.Times.{end_at}
use Rattle.steps.specs.Rows.{synced, reset_step, stepped, seek_row}

-- synchronising sends one reset or one seek
pub synced_kind : (t : Float) (e : Entry) → (synced t e).row.kind ≤ 8
unfolding synced
synced_kind t e = go (le t e.start) (le (end_at e) t || eq e.duration zero_f)
  where
    go : (a b : Bool) → (cond a reset_step (cond b (stepped (seek_row one_f) true) (stepped (seek_row (div binary32 (sub binary32 t e.start) e.duration)) false))).row.kind ≤ 8
    go true b = unfold reset_step in lit≤ tt
    go false true = lit≤ tt
    go false false = lit≤ tt
