-- Up to 24 digits nothing is dropped; above, what is left of the digits is rounded. Assumes nothing.
use mathlib.Core.Path.{sym, ap, ◌∙◌}
use Prim.Native.Nat.{◌-◌}
use native.Mathlib.Omega.{arith}
use lib.Pow.{shl_exact, pow-lt, pow_mono}
use lib.Ieee.Nearest.{closest}
use Rattle.float32.proofs.Digits.{closest-whole, closest-cut, one_shifted}
use Rattle.float32.proofs.significand.Goals as goal

pub returns-then-size-le24 : goal.returns-then-size-le24
returns-then-size-le24 c =
    let n = c.args.n in
    let z = c.args.size in
    shl_exact z (24 - z) 32 c.requires.0 (omega arith) ∙ sym (closest-whole n z 24 (omega arith))

pub nearest-requires : goal.nearest-requires
nearest-requires c =
    let k = c.args.size - 24 in
    rw (one_shifted 32 k (omega arith)) (pow-lt {i = 0} {j = k} (omega arith), pow_mono {i = k} {j = 31} (omega arith))

pub returns : goal.returns
returns c =
    let n = c.args.n in
    let z = c.args.size in
    c.nearest.ensures ∙ ap (closest n) (one_shifted 32 (z - 24) (omega arith)) ∙ sym (closest-cut n z 24 (omega arith))
