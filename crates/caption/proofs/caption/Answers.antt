-- The part that `find_caption` names, which lies inside.
use Prim.Native.Nat.{◌<◌}
use native.Mathlib.Omega.{arith}
use Rattle.std.proofs.Common.{rules}
use lib.ListN.{length}
use Rattle.caption.proofs.Parts.{inside, end_fits, is_start}
use Rattle.caption.proofs.caption.Goals as goal

pub returns-in-Err : goal.returns-in-Err
returns-in-Err c = is_start c.args.list c.args.sheet _ _ c.in-Err.ensures

pub overflow_add-end : goal.overflow_add-end
overflow_add-end c =
    let a = c.args in
    let l : length a.list.now < 18446744073709551616 = search rules in
    let s : length a.sheet.now < 18446744073709551616 = search rules in
    omega (arith, end_fits a.list.now a.sheet.now a.entry _ c.in-Ok.ensures 18446744073709551616 l s)

pub slice_bounds-result-end-in-Sheet : goal.slice_bounds-result-end-in-Sheet
slice_bounds-result-end-in-Sheet c = rw c.in-Sheet.is at (inside c.args.list.now c.args.sheet.now c.args.entry _ c.in-Ok.ensures)

pub slice_bounds-result-end-in-List : goal.slice_bounds-result-end-in-List
slice_bounds-result-end-in-List c = rw c.in-List.is at (inside c.args.list.now c.args.sheet.now c.args.entry _ c.in-Ok.ensures)
