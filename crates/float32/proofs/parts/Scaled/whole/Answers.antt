-- Each return is a case of the shift. Assumes nothing.
use mathlib.Core.Path.{sym, ◌∙◌}
use Prim.Native.Nat.{◌-◌}
use native.Mathlib.Omega.{arith}
use lib.Pow.{shl_exact}
use Rattle.float32.proofs.Digits.{shift_left, shift_right, shift_out}
use Rattle.float32.proofs.parts.Scaled.whole.Goals as goal

pub returns-then-self-lt126 : goal.returns-then-self-lt126
returns-then-self-lt126 c = sym (shift_out _ 24 c.args.self.scale 149 c.args.self.fits (omega arith))

pub returns-then-self-lt149 : goal.returns-then-self-lt149
returns-then-self-lt149 c = sym (shift_right _ c.args.self.scale 149 (omega arith))

pub returns : goal.returns
returns c =
    let e = c.args.self.scale in
    shl_exact 24 (e - 149) 32 c.args.self.fits (omega arith) ∙ sym (shift_left _ e 149 (omega arith))
