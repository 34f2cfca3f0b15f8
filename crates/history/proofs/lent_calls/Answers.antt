-- `lent_calls` says of the three calls on a lent clock that they are the timeline's own.
use mathlib.Core.Path.{refl}
use Rattle.track.specs.Calls.{track_step}
use Rattle.timeline.specs.Calls.{step}
use Rattle.history.specs.Lent.{LentCalls}
use Rattle.history.proofs.lent_calls.Goals as goal

lent-calls : LentCalls
unfolding step track_step
lent-calls = record { pause = λ t. refl; resume = λ t. refl; scale = λ t x. refl }

pub returns : goal.returns
returns c = lent-calls
