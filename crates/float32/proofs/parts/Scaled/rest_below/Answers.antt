-- The law `rest-turn`. Assumes nothing.
use mathlib.Core.Path.{◌≡◌, ap, ◌∙◌}
use Prim.Native.Nat.{ℕ, ◌-◌, ◌*◌, ◌%◌, ◌^◌}
use native.Mathlib.Nat.{mod-lt, sub-zero}
use native.Mathlib.Omega.{arith}
use lib.Pow.{shl_exact}
use Rattle.std.proofs.lemmas.Nat.{mul-mod_first}
use Rattle.float32.proofs.Rest.{rest-turn}
use Rattle.float32.proofs.parts.Scaled.rest_below.Goals as goal

pub loop-init : goal.loop-init
loop-init c = rw (c.from.ensures, c.from-divisor.ensures, sub-zero c.args.k) (mul-mod_first c.args.self.digits (2 ^ c.args.k) c.args.divisor.size.digits, mod-lt c.args.self.digits c.args.divisor.positive)

pub loop-preserved : goal.loop-preserved
loop-preserved c =
    let l = c.loop in
    let d = c.from-divisor.ensures in
    rw d (rest-turn l.rest c.args.divisor.size.digits _ _ (omega arith) (omega arith) ∙ l.invariant.0, mod-lt _ c.args.divisor.positive)

pub returns : goal.returns
returns c =
    let l = c.loop in
    let left : c.args.k % 32 ≡ c.args.k - 32 * l.counter = omega arith in
    rw (c.from-divisor.ensures, left)
    (ap (λ (x : ℕ). x % c.args.divisor.size.digits) (shl_exact 24 (c.args.k - 32 * l.counter) 64 (omega arith) (omega arith)) ∙ l.invariant.0)
