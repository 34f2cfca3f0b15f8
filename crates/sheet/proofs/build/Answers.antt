-- The calls from here on are still to be made.
use mathlib.Core.Path.{sym, ◌∙◌}
use Rattle.timeline.specs.Calls.{after}
use Rattle.sheet.specs.Build.{calls_of}
use Rattle.sheet.proofs.Adds.{calls-more, calls-end}
use Rattle.sheet.proofs.build.Goals as goal

pub loop-item-preserved : goal.loop-item-preserved
loop-item-preserved c =
    sym (calls-more c.loop-item.item-index c.items-items.result.now c.items-items.result.now _ c.loop-item.timeline _ c.loop-item-test.true c.add_item-timeline.ensures) ∙ c.loop-item.invariant

pub returns : goal.returns
unfolding calls_of after
returns c =
    let items = c.items-items.result.now in
    sym (calls-end c.loop-item.item-index items items c.loop-item.timeline c.loop-item-test.false) ∙ c.loop-item.invariant
    ∙ rw (c.items-items.ensures.value, c.set_time_scale-timeline.ensures, c.looping.ensures, c.new.ensures, c.from_bits-scale.ensures)
