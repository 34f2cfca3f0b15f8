-- The first numbers are added.
use native.Mathlib.Omega.{arith}
use lib.Seq.{take_all}
use Rattle.call_log.proofs.Writing.{adds_then, adds_none, fields_more}
use Rattle.call_log.proofs.fields.Text.list.Goals as goal

pub loop-listed-init : goal.loop-listed-init
loop-listed-init c = adds_none c.args.self.now

pub loop-listed-preserved : goal.loop-listed-preserved
loop-listed-preserved c =
    let one = rw c.from.ensures at c.number.ensures in
    rw (fields_more c.args.list.now c.loop-listed.listed-index c.loop-listed-test.true) (adds_then c.loop-listed.invariant one)

pub returns : goal.returns
returns c = rw (take_all c.loop-listed.listed-index c.args.list.now (omega arith)) at c.loop-listed.invariant
