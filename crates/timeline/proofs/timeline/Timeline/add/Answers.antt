-- `add` is its step.
use Rattle.timeline.specs.Calls.{step}
use Rattle.timeline.proofs.timeline.Timeline.add.Goals as goal

pub returns : goal.returns
unfolding step
returns c = rw (← c.resolve_start.ensures) c.push.ensures
