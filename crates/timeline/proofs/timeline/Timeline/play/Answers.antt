-- `play` is the step that `Play` says.
use mathlib.Core.Path.{◌≡◌}
use Rattle.std.proofs.Common.{rules, Ok, Err}
use Rattle.track.specs.Calls.{Play}
use Rattle.timeline.proofs.timeline.Timeline.play.Goals as goal

pub returns-in_err-clock : goal.returns-in_err-clock
returns-in_err-clock c =
    let why : c.moved.result ≡ Err c.in_err-clock.field-0.0 = search rules in
    let answer : c.from_residual.result ≡ Err c.in_err-clock.field-0.0 = search rules in
    rw answer (rw why at c.moved.ensures Play (λ p r x q s post. search rules))

pub returns : goal.returns
returns c =
    let why : c.moved.result ≡ Ok c.in_ok-clock.clock = search rules in
    rw c.left.ensures (rw why at c.moved.ensures Play (λ p r x q s post. search rules))
