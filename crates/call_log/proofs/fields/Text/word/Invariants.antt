-- The first bytes are added.
use lib.ListN.{take}
use Rattle.call_log.specs.Lines.{Adds}
use Rattle.call_log.proofs.fields.Text.word.Given as goal

abbrev pub invariant-loop-b : goal.invariant-loop-b
invariant-loop-b l = Adds (take l.b-index l.word) l.initial.self l.self
