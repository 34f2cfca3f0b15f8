-- The closure puts item i at the pattern's delay, and the pattern refuses none where it does not refuse the first.
use mathlib.Core.Path.{ap}
use Rattle.std.proofs.Common.{rules}
use Rattle.refusal.specs.Refusal.{number_in}
use Rattle.group.specs.Items.{first_refusal}
use Rattle.group.specs.Group.{at_delay, stagger_of}
use Rattle.group.proofs.Patterns.{delays}
use Rattle.group.proofs.group.staggered.Goals as goal

pub returns : goal.returns
unfolding stagger_of first_refusal
returns c =
    let none = ap number_in c.in_ok-delay.ensures in
    rw (← c.in_ok-delay.ensures) (c.add_each.ensures (at_delay c.args.pattern) (λ i r h post. let d = delays c.args.pattern i none in search rules))
