-- The labels from here on are still to be written.
use mathlib.Core.Path.{ap}
use native.Mathlib.Omega.{arith}
use lib.ListN.{length}
use Rattle.sheet_format.proofs.Turns.{texts-count}
use Rattle.sheet_format.proofs.Lefts.{texts-left, texts-done}
use Rattle.sheet_format.proofs.writing.put_texts.Goals as goal

pub put-requires : goal.put-requires
put-requires c =
    let count = texts-count c.loop-item.item-index c.args.items.now _ c.loop-item-test.true _ (ap length c.text-text.ensures.value) in
    omega arith

pub loop-item-preserved : goal.loop-item-preserved
loop-item-preserved c =
    let l = c.loop-item in
    let e = c.text-text.ensures.value in
    texts-left _ _ l.item-index c.args.items.now _ _ _ l.at c.loop-item-test.true _ (ap length e) l.invariant (rw e at c.put.ensures)

pub returns : goal.returns
returns c = texts-done _ _ c.loop-item.item-index c.args.items.now _ c.loop-item.at c.loop-item-test.false c.loop-item.invariant
