-- `add_boxed_with_duration` is its step, which is that of `add`.
use Rattle.timeline.specs.Calls.{step}
use Rattle.timeline.proofs.timeline.Timeline.add_boxed_with_duration.Goals as goal

pub returns : goal.returns
unfolding step
returns c = c.add.ensures
