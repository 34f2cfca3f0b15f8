-- `new` is the empty timeline.
use Rattle.timeline.specs.Placements.{empty}
use Rattle.timeline.proofs.timeline.Timeline.new.Goals as goal

pub returns : goal.returns
unfolding empty
returns c = rw (c.new.ensures, c.new-2.ensures)
