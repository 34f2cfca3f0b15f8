-- The closure puts item i at i delays.
use Rattle.std.proofs.Common.{rules}
use Rattle.group.specs.Stagger.{at_every, staggered}
use Rattle.group.proofs.stagger.stagger.Goals as goal

pub returns : goal.returns
unfolding staggered at_every
returns c = rw (c.from.ensures.0, c.from.ensures.1) (c.add_each.ensures (at_every c.args.delay) (λ i r h post. rw (← c.max-every.ensures) (search rules)))
