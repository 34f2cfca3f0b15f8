-- `set_time_scale` is the step that `SetTimeScale` says.
use Rattle.track.specs.Calls.{track_step}
use Rattle.timeline.specs.Calls.{step}
use Rattle.timeline.proofs.timeline.Timeline.set_time_scale.Goals as goal

pub returns : goal.returns
unfolding step track_step
returns c = rw (c.with_clock.ensures, c.scaled.ensures)
