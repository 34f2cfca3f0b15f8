-- The law `unit-value`, with either sign. Assumes nothing.
use mathlib.Core.Bool.{true, false}
use Prim.Native.Nat.{◌+◌}
use native.Mathlib.Omega.{arith}
use borrow.Author.Tests.{le-leb, lt-leb}
use Rattle.float32.proofs.Patterns.{unit-value}
use Rattle.float32.proofs.unit_of.Goals as goal

pub returns-then-negative : goal.returns-then-negative
returns-then-negative c =
    let unit = c.of_unit-unit in
    rw c.if-negative.true
    (unit-value (2147483648 + unit.result.0) c.args.p true c.requires (omega (arith, unit.ensures)) (omega (arith, unit.ensures)) (le-leb _ _ (omega arith)))

pub returns : goal.returns
returns c =
    let unit = c.of_unit-unit in
    rw c.if-negative.false
    (unit-value unit.result.0 c.args.p false c.requires (omega (arith, unit.ensures)) (omega (arith, unit.ensures)) (lt-leb _ _ (omega (arith, unit.ensures))))
