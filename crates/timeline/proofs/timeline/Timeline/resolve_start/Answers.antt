-- `resolve_start` is `resolve_start`.
use Rattle.timeline.specs.Placements.{resolve_start}
use Rattle.timeline.proofs.timeline.Timeline.resolve_start.Goals as goal

pub returns-in-Absolute : goal.returns-in-Absolute
unfolding resolve_start
returns-in-Absolute c = rw c.in-Absolute.is c.max.ensures

pub returns-in-Start : goal.returns-in-Start
unfolding resolve_start
returns-in-Start c = rw c.in-Start.is

pub returns-in-End : goal.returns-in-End
unfolding resolve_start
returns-in-End c = rw c.in-End.is c.duration.ensures

pub returns-in-Label : goal.returns-in-Label
unfolding resolve_start
returns-in-Label c = rw (c.in-Label.is, ← c.live_labels.ensures, ← c.find_like.ensures) c.start_found.ensures

pub returns-in-Offset : goal.returns-in-Offset
unfolding resolve_start
returns-in-Offset c = rw (c.in-Offset.is, ← c.duration-in-Offset.ensures) c.max-in-Offset.ensures
