-- The closure puts every item at the start.
use Rattle.std.proofs.Common.{rules}
use Rattle.group.specs.Group.{at_start, parallel_of}
use Rattle.group.proofs.group.AnimationGroup.parallel.Goals as goal

pub returns : goal.returns
unfolding parallel_of
returns c = rw (c.from.ensures.0, c.from.ensures.1) (c.add_each.ensures at_start (λ i r h post. search rules))
