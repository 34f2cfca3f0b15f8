use Rattle.group.proofs.Sequencing.{Sequencing}
use Rattle.group.proofs.group.sequenced.Given as goal

abbrev pub invariant-loop-i : goal.invariant-loop-i
invariant-loop-i l = Sequencing l.durations l.sequence l.i
