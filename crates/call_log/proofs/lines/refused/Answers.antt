-- `sheet`, the number and the LF.
use native.Mathlib.Omega.{arith}
use Rattle.std.proofs.Common.{rules}
use Rattle.call_log.proofs.Writing.{adds_then, adds_as, shown-refused, refused_few}
use Rattle.call_log.proofs.lines.refused.Goals as goal

pub returns : goal.returns
returns c =
    let number = rw c.from.ensures at c.number-2.ensures in
    let line = adds_as (shown-refused c.number.result) (adds_then (adds_then c.word.ensures number) c.byte.ensures) in
    let few = refused_few c.number.result c.number.type_inv in
    let put = line.whole (omega (arith, few, c.requires)) in
    let w = rw c.number.ensures at put in
    search (rules, w, line.slice)
