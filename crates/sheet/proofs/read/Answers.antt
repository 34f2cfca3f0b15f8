-- The description's answer, and the timeline.
use mathlib.Core.Path.{sym, ap, ◌∙◌}
use borrow.Author.Tests.{eqb-false}
use Rattle.refusal.specs.Refusal.{number, number_if}
use Rattle.refusal.proofs.Numbers.{refused}
use Rattle.sheet.proofs.Readings.{reading-refused, reading-accepted}
use Rattle.sheet.proofs.read.Goals as goal

pub returns-in-None : goal.returns-in-None
returns-in-None c = rw c.build-timeline.ensures (reading-accepted _ _ c.describe-refusal.ensures (ap number_if c.in-None.is))

pub returns-in-Some : goal.returns-in-Some
returns-in-Some c =
    let r = c.in-Some.field-0 in
    rw c.new-timeline.ensures (reading-refused _ _ c.describe-refusal.ensures (λ z. eqb-false (number r) 0 (refused r) (sym (ap number_if c.in-Some.is) ∙ z)))
