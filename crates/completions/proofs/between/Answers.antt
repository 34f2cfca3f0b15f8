-- `between` is what completes: nothing at the early returns, else what the walk over the entries lists.
use mathlib.Core.Path.{ap, ◌∙◌}
use native.Mathlib.Omega.{arith}
use lib.ListN.{length, length-take}
use Rattle.completions.specs.Columns.{most_entries, ends, first_ends}
use Rattle.completions.proofs.Answers.{none_listed}
use Rattle.completions.proofs.Empty.{not-forward, forward, no-base, no-period, walked}
use Rattle.completions.proofs.between.Goals.{then-not-step-via-then-not-step, then-not-step-via-else-not-step+then-run}
use Rattle.completions.proofs.between.Goals as goal

pub list-requires : goal.list-requires
list-requires c = omega (arith, ap length c.first.ensures, length-take most_entries (ends c.args.spans))

pub returns-then-not-step : goal.returns-then-not-step
returns-then-not-step c =
    let a = c.args in
    let ends = first_ends most_entries a.spans in
    elim c.then-not-step.branch [
      | then-not-step-via-then-not-step w ↦ none_listed _ _ (not-forward a.run.mode ends a.run.base a.step.prev a.step.next w.if-not-step.true)
      | then-not-step-via-else-not-step+then-run w ↦
          none_listed _ _ (forward a.run.mode ends a.run.base a.step.prev a.step.next w.if-not-step.false ∙ no-base a.run.mode ends a.run.base a.step.prev a.step.next w.if-not-step.false w.if-run.true)
    ]

pub returns-then-walk : goal.returns-then-walk
returns-then-walk c =
    let a = c.args in
    let ends = first_ends most_entries a.spans in
    none_listed _ _ (forward a.run.mode ends a.run.base a.step.prev a.step.next c.if-not-step.false ∙ no-period a.run.mode ends a.run.base a.step.prev a.step.next c.if-not-step.false c.if-run.false _ c.over-walk.ensures c.if-walk.true)

pub returns : goal.returns
returns c =
    let a = c.args in
    let ends = first_ends most_entries a.spans in
    rw (forward a.run.mode ends a.run.base a.step.prev a.step.next c.if-not-step.false, walked a.run.mode ends a.run.base a.step.prev a.step.next c.if-not-step.false c.if-run.false _ c.over-walk.ensures c.if-walk.false, ← c.first.ensures)
    c.list.ensures
