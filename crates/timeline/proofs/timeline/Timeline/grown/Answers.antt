-- `grown` is its definition.
use Rattle.timeline.proofs.timeline.Timeline.grown.Goals as goal

pub returns : goal.returns
returns c = rw (c.new.ensures, c.max.ensures)
