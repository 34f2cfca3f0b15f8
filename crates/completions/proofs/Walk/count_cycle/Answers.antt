-- `count_cycle` counts what the cycle lists: those counted and those still to come are all of them.
use mathlib.Core.Path.{sym, ◌∙◌}
use native.Mathlib.Omega.{arith}
use Rattle.completions.specs.Columns.{ends}
use Rattle.completions.proofs.Columns.{all_long}
use Rattle.completions.proofs.Cycle.{few_numbers, many_turn, many_end}
use Rattle.completions.proofs.Walk.count_cycle.Goals as goal

pub overflow_add-k : goal.overflow_add-k
overflow_add-k c =
    let a = c.args in
    let some = c.in-Some in
    let e = many_turn a.self a.start c.loop-s.s-iterator c.next.new.self c.next.result (some.s, some.d) some.is c.next.ensures.steps _ (sym c.if-completes.true ∙ c.completes.ensures) in
    let few = few_numbers a.self a.start 0 (ends a.spans) in
    let long = all_long a.spans.starts.now a.spans.durations.now in
    omega (arith, e, few, long, c.well_formed)

pub loop-s-preserved-then-completes : goal.loop-s-preserved-then-completes
loop-s-preserved-then-completes c =
    let some = c.in-Some in
    let e = many_turn c.args.self c.args.start c.loop-s.s-iterator c.next.new.self c.next.result (some.s, some.d) some.is c.next.ensures.steps _ (sym c.if-completes.true ∙ c.completes.ensures) in
    omega (arith, e)

pub loop-s-preserved : goal.loop-s-preserved
loop-s-preserved c =
    let some = c.in-Some in
    let e = many_turn c.args.self c.args.start c.loop-s.s-iterator c.next.new.self c.next.result (some.s, some.d) some.is c.next.ensures.steps _ (sym c.if-completes.false ∙ c.completes.ensures) in
    omega (arith, e)

pub returns : goal.returns
returns c = omega (arith, many_end c.args.self c.args.start c.loop-s.s-iterator c.next.new.self c.next.result c.in-None.is c.next.ensures.steps)
