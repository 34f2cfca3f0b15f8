-- `new` is `introspection`.
use Rattle.timeline.specs.Introspections.{introspection}
use Rattle.timeline.proofs.introspection.AnimationIntrospection.new.Goals as goal

pub returns : goal.returns
unfolding introspection
returns c = rw (c.clamp.ensures, c.max.ensures, c.known_duration.ensures)
