-- `write` stores cycle by cycle: the stores made and those of the cycles still to come are all of them, and so are the turns.
use mathlib.Core.Path.{◌≡◌, refl, ap, sym, ◌∙◌}
use mathlib.Core.List.{[], ◌∷◌}
use native.Mathlib.Omega.{arith}
use lib.ListN.{length, length-append}
use lib.Seq.{sets, length-sets}
use Rattle.std.specs.Range.{range_inclusive_start, range_inclusive_end, range_inclusive_exhausted}
use Rattle.completions.specs.Completions.{in_cycle, cycles_from}
use Rattle.completions.specs.Columns.{ends}
use Rattle.completions.proofs.Cycle.{store_run, store_all}
use Rattle.completions.proofs.InRange.{still, first_in, first_still, first_turns, in_range, still_turn, still_end, still_broken, turns_turn}
use Rattle.completions.proofs.Walk.write.Goals as goal

pub loop-cycle-init : goal.loop-cycle-init
loop-cycle-init c =
    let a = c.args in
    let o = c.onward-cycle-items.ensures in
    let i = c.into_iter-cycle-iterator.ensures.into_iter_gives in
    let it = c.into_iter-cycle-iterator.result in
    let from = ap range_inclusive_start i ∙ o.0 in
    let to = ap range_inclusive_end i ∙ o.1 in
    let left = ap range_inclusive_exhausted i ∙ o.2 in
    let e = first_still a.self a.first it from to left (ends a.spans) in
    (first_in a.self a.first it from to left, refl, omega (arith, ap length e), ap (sets a.list.now 0) e, omega (arith, first_turns a.self a.first it from to left (ends a.spans) (length (cycles_from a.self (ends a.spans) a.first)) _ (ap length e)))

pub write_cycle-m-requires : goal.write_cycle-m-requires
write_cycle-m-requires c =
    let a = c.args in
    let l = c.loop-cycle in
    let e = still_turn a.self (ends a.spans) l.cycle-iterator c.next.new.self c.next.result c.next.ensures.steps c.in-Some.cycle c.in-Some.is a.first l.invariant.0 (sym c.breaks_at.ensures ∙ c.if-breaks_at.false) c.cycle_start.ensures in
    (c.requires.0, omega (arith, c.requires, simp length-append at (ap length e)))

pub loop-cycle-preserved : goal.loop-cycle-preserved
loop-cycle-preserved c =
    let a = c.args in
    let l = c.loop-cycle in
    let w = c.write_cycle-m in
    let b = sym c.breaks_at.ensures ∙ c.if-breaks_at.false in
    let e = still_turn a.self (ends a.spans) l.cycle-iterator c.next.new.self c.next.result c.next.ensures.steps c.in-Some.cycle c.in-Some.is a.first l.invariant.0 b c.cycle_start.ensures in
    let these = in_cycle a.self c.cycle_start.result 0 (ends a.spans) in
    let k = simp length-append at (ap length e) in
    let n = turns_turn a.self (ends a.spans) l.cycle-iterator c.next.new.self c.next.result c.next.ensures.steps c.in-Some.cycle c.in-Some.is a.first l.invariant.0 (length (still a.self (ends a.spans) l.cycle-iterator)) {n = length these} {room' = length (still a.self (ends a.spans) c.next.new.self)} b c.cycle_start.ensures refl (omega (arith, k)) (omega (arith, k)) in
    let stored : w.new.list ≡ sets l.list l.m these = w.ensures.1 in (
      in_range a.self (ends a.spans) l.cycle-iterator c.next.new.self c.next.result c.next.ensures.steps c.in-Some.cycle c.in-Some.is a.first l.invariant.0,
      ap length stored ∙ length-sets l.list l.m these ∙ l.invariant.1,
      omega (arith, w.ensures.0, k),
      store_run l.list l.m _ w.result these _ _ stored w.ensures.0 e ∙ l.invariant.3,
      omega (arith, n, length-append l.yielded (c.in-Some.cycle ∷ [])),
    )

pub returns-in-None : goal.returns-in-None
returns-in-None c =
    let a = c.args in
    let l = c.loop-cycle in
    let z : still a.self (ends a.spans) l.cycle-iterator ≡ [] = still_end a.self (ends a.spans) l.cycle-iterator c.next.new.self c.next.result c.next.ensures.steps c.in-None.is in
    (rw z at l.invariant.3) ∙ store_all (cycles_from a.self (ends a.spans) a.first) a.list.now c.requires.1

pub returns-then-breaks_at : goal.returns-then-breaks_at
returns-then-breaks_at c =
    let a = c.args in
    let l = c.loop-cycle in
    let z : still a.self (ends a.spans) l.cycle-iterator ≡ [] = still_broken a.self (ends a.spans) l.cycle-iterator c.next.new.self c.next.result c.next.ensures.steps c.in-Some.cycle c.in-Some.is (sym c.breaks_at.ensures ∙ c.if-breaks_at.true) in
    (rw z at l.invariant.3) ∙ store_all (cycles_from a.self (ends a.spans) a.first) a.list.now c.requires.1
