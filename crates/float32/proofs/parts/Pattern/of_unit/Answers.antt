-- Below 23 places it is a power of 2 below 2 ^ 23. Assumes nothing.
use Prim.Native.Nat.{◌^◌, ◌<◌}
use native.Mathlib.Omega.{arith}
use lib.Pow.{pow-lt}
use Rattle.float32.proofs.parts.Pattern.of_unit.Goals as goal

pub returns-then-p-lt23-clause-below : goal.returns-then-p-lt23-clause-below
returns-then-p-lt23-clause-below c =
    let small : 2 ^ c.args.p < 2 ^ 23 = pow-lt {i = c.args.p} {j = 23} (omega arith) in
    omega (arith, small)
