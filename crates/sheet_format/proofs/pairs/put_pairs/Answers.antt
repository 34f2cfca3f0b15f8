-- The pairs from here on are still to be written, the first of them for a label that starts at this offset.
use mathlib.Core.Path.{refl, ap}
use native.Mathlib.Omega.{arith}
use lib.ListN.{length}
use Rattle.sheet_rules.specs.Rules.{labels_at}
use Rattle.sheet_format.proofs.Stores.{all_left}
use Rattle.sheet_format.proofs.Turns.{length_pairs}
use Rattle.sheet_format.proofs.Lefts.{pairs-left, pairs-done}
use Rattle.sheet_format.proofs.pairs.put_pairs.Goals as goal

pub loop-item-init : goal.loop-item-init
loop-item-init c =
    let items = c.args.items.now in
    let l = length_pairs (labels_at (length items)) items in
    record { place = refl; near = omega arith; left = rw c.labels_at-offset.ensures (all_left _ _ _ (omega arith)) }

pub loop-item-preserved : goal.loop-item-preserved
loop-item-preserved c =
    let l = c.loop-item in
    record {
      place = omega arith;
      near = omega (arith, c.text-len.ensures.bound);
      left = pairs-left _ _ l.item-index c.args.items.now _ _ _ l.at c.loop-item-test.true _ _ (ap length c.text-len.ensures.value) l.invariant.left c.put_pair.ensures;
    }

pub returns : goal.returns
returns c = pairs-done _ _ c.loop-item.item-index c.args.items.now _ c.loop-item.at c.loop-item-test.false _ c.loop-item.invariant.left
