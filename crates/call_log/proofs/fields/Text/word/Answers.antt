-- The first bytes are added.
use native.Mathlib.Omega.{arith}
use lib.Seq.{take_all}
use Rattle.call_log.proofs.Writing.{adds_then, adds_none, word_more}
use Rattle.call_log.proofs.fields.Text.word.Goals as goal

pub loop-b-init : goal.loop-b-init
loop-b-init c = adds_none c.args.self.now

pub loop-b-preserved : goal.loop-b-preserved
loop-b-preserved c = rw (word_more c.args.word.now c.loop-b.b-index c.loop-b-test.true) (adds_then c.loop-b.invariant c.byte.ensures)

pub returns : goal.returns
returns c = rw (take_all c.loop-b.b-index c.args.word.now (omega arith)) at c.loop-b.invariant
