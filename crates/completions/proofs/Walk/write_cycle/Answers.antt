-- `write_cycle` stores what the cycle lists: the stores made and those still to come are all of them.
use mathlib.Core.Path.{refl, ap, ◌∙◌, sym}
use native.Mathlib.Omega.{arith}
use lib.ListN.{length, length-set}
use Rattle.completions.proofs.Cycle.{still_turn, still_end, store_one}
use Rattle.completions.proofs.Walk.write_cycle.Goals as goal

-- an end that completes finds a place
pub bounds-list-k : goal.bounds-list-k
bounds-list-k c =
    let some = c.in-Some in
    let e = still_turn c.args.self c.args.start c.loop-i.i-iterator c.next.new.self c.next.result (some.i, (some.s, some.d)) some.is c.next.ensures.steps _ (sym c.if-completes.true ∙ c.completes.ensures) in
    omega (arith, c.requires, ap length e.0)

pub loop-i-preserved-then-completes : goal.loop-i-preserved-then-completes
loop-i-preserved-then-completes c =
    let l = c.loop-i in
    let some = c.in-Some in
    let e = still_turn c.args.self c.args.start l.i-iterator c.next.new.self c.next.result (some.i, (some.s, some.d)) some.is c.next.ensures.steps _ (sym c.if-completes.true ∙ c.completes.ensures) in
    (sym e.1 ∙ l.invariant.0, simp length-set l.invariant.1, omega (arith, ap length e.0), store_one l.list l.k some.i _ _ _ _ refl refl e.0 ∙ l.invariant.3)

pub loop-i-preserved : goal.loop-i-preserved
loop-i-preserved c =
    let l = c.loop-i in
    let some = c.in-Some in
    let e = still_turn c.args.self c.args.start l.i-iterator c.next.new.self c.next.result (some.i, (some.s, some.d)) some.is c.next.ensures.steps _ (sym c.if-completes.false ∙ c.completes.ensures) in
    (sym e.1 ∙ l.invariant.0, l.invariant.1, omega (arith, ap length e.0), rw (← e.0) l.invariant.3)

pub returns : goal.returns
returns c =
    let e = still_end c.args.self c.args.start c.loop-i.i-iterator c.next.new.self c.next.result c.in-None.is c.next.ensures.steps in
    (omega (arith, ap length e), rw e at c.loop-i.invariant.3)
