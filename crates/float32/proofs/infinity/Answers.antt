-- 1 / 0 is +infinity. Assumes nothing.
use mathlib.Core.Path.{refl}
use lib.Ieee.{div, of_bits}
use Rattle.float32.proofs.infinity.Goals as goal

pub returns : goal.returns
unfolding div of_bits
returns c = refl
