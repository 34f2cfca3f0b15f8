-- `named_start` is `named_start`.
use Rattle.timeline.specs.Placements.{named_start}
use Rattle.timeline.proofs.timeline.Timeline.named_start.Goals as goal

pub returns : goal.returns
unfolding named_start
returns c = rw (← c.live_labels.ensures, ← c.find.ensures) c.start_found.ensures
