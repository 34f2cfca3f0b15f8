-- The loop passes a byte at each turn.
use Rattle.escape.proofs.Text.{Passed}
use Rattle.escape.proofs.escape.Given as goal

abbrev pub invariant-loop-byte : goal.invariant-loop-byte
invariant-loop-byte l = Passed l.byte-items l.initial.room l.room l.byte-index l.len
