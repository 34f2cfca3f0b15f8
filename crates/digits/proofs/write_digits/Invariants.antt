-- The digits are written from the last to the first: `Left` says what is still to be written.
use Rattle.digits.proofs.Write.{Left}
use Rattle.digits.proofs.write_digits.Given as goal

abbrev pub invariant-loop-i : goal.invariant-loop-i
invariant-loop-i l = Left l.base l.n l.width l.at l.initial.out l.out l.rest l.i
