-- The law `nan_above` at binary32. Assumes nothing.
use native.Mathlib.Omega.{arith}
use lib.Ieee.{binary32, div, of_bits}
use Rattle.float32.proofs.NanBits.{nan_above}
use Rattle.float32.proofs.from_bits.Goals as goal

pub returns-then-nan : goal.returns-then-nan
unfolding div of_bits
returns-then-nan c = nan_above binary32 c.args.bits (omega arith)
