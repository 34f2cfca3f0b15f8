-- `pause` is the step that `Pause` says.
use Rattle.track.specs.Calls.{track_step}
use Rattle.timeline.specs.Calls.{step}
use Rattle.timeline.proofs.timeline.Timeline.pause.Goals as goal

pub returns : goal.returns
unfolding step track_step
returns c = rw (c.with_clock.ensures, c.paused.ensures)
