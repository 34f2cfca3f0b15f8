-- `add_at_label` is its step.
use Rattle.timeline.specs.Calls.{step}
use Rattle.timeline.proofs.timeline.Timeline.add_at_label.Goals as goal

pub returns : goal.returns
unfolding step
returns c = rw (← c.named_start.ensures) c.push.ensures
