-- `looping` is the step that `Looping` says.
use Rattle.track.specs.Calls.{track_step}
use Rattle.timeline.specs.Calls.{step}
use Rattle.timeline.proofs.timeline.Timeline.looping.Goals as goal

pub returns : goal.returns
unfolding step track_step
returns c = c.with_track.ensures
