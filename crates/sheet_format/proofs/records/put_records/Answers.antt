-- The records from here on are still to be written.
use native.Mathlib.Omega.{arith}
use Rattle.sheet_format.proofs.Stores.{all_left}
use Rattle.sheet_format.proofs.Turns.{target_small, length-records}
use Rattle.sheet_format.proofs.Lefts.{records-left, records-done}
use Rattle.sheet_format.proofs.records.put_records.Goals as goal

pub loop-item-init : goal.loop-item-init
loop-item-init c =
    let l = length-records c.args.items.now in
    record { place = omega arith; left = rw c.records_at-at.ensures (all_left _ _ _ (omega arith)) }

pub put_record-requires : goal.put_record-requires
put_record-requires c =
    (omega arith, target_small c.args.items.now c.loop-item.item-index _ c.requires.0 c.requires.2 c.loop-item-test.true)

pub loop-item-preserved : goal.loop-item-preserved
loop-item-preserved c =
    let l = c.loop-item in
    record { place = omega arith; left = records-left _ _ l.item-index c.args.items.now _ _ _ l.at c.loop-item-test.true l.invariant.left c.put_record.ensures }

pub returns : goal.returns
returns c = records-done _ _ c.loop-item.item-index c.args.items.now _ c.loop-item.at c.loop-item-test.false c.loop-item.invariant.left
