-- The digits are written from the last to the first: `Left` says what is still to be written.
use native.Mathlib.Omega.{arith}
use Rattle.digits.proofs.Write.{fewer-left, none_left}
use Rattle.digits.proofs.write_digits.Goals as goal

pub loop-i-preserved : goal.loop-i-preserved
loop-i-preserved c = fewer-left _ _ _ _ _ _ _ _ _ c.loop-i.invariant (omega arith) c.code_of.ensures

pub returns : goal.returns
returns c = none_left _ _ _ _ _ _ _ _ c.loop-i.invariant (omega arith)
