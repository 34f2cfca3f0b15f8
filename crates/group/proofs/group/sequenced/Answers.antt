-- The loop adds each item at the cursor, and no item is refused.
use mathlib.Core.Path.{◌≡◌, sym, ◌∙◌}
use lib.Ieee.{nan}
use Rattle.group.specs.Items.{item_label}
use Rattle.group.specs.Group.{at_cursor, sequence_of}
use Rattle.group.proofs.Items.{room, built_as}
use Rattle.group.proofs.Building.{all_added}
use Rattle.group.proofs.Sequencing.{none_sequenced, one_sequenced, none_stopped}
use Rattle.group.proofs.group.sequenced.Goals as goal

pub loop-i-init : goal.loop-i-init
loop-i-init c = rw c.new-sequence.ensures (none_sequenced c.args.durations.now)

pub returns-in_err-sequence : goal.returns-in_err-sequence
returns-in_err-sequence c =
    let few = room _ (sym c.in_ok-too_many.ensures) in
    let text : c.text.result.now ≡ item_label c.loop-i.i = c.text.ensures ∙ c.new-label.ensures in
    absurd (none_stopped c.args.durations.now _ _ nan c.loop-i.invariant c.loop-i-test.true few _ (rw text at c.in_err-sequence.ensures.refusal))

pub loop-i-preserved : goal.loop-i-preserved
loop-i-preserved c =
    let few = room _ (sym c.in_ok-too_many.ensures) in
    let text : c.text.result.now ≡ item_label c.loop-i.i = c.text.ensures ∙ c.new-label.ensures in
    let next = rw text at c.in_ok-sequence.ensures.sequence in
    rw next (one_sequenced c.args.durations.now _ _ nan c.loop-i.invariant c.loop-i-test.true few)

pub returns : goal.returns
unfolding sequence_of
returns c =
    let ds = c.args.durations.now in
    built_as _ _ _ c.in_ok-too_many.ensures (c.build.ensures ∙ all_added (at_cursor ds) ds _ _ c.loop-i.invariant.building c.loop-i-test.false)
