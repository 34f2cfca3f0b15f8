-- `count` counts cycle by cycle: those counted and those of the cycles still to come are all of them, and so are the turns.
use mathlib.Core.Path.{◌≡◌, ap, sym, ◌∙◌}
use mathlib.Core.List.{[], ◌∷◌}
use Prim.Native.Nat.{◌+◌, ◌-◌}
use native.Mathlib.Omega.{arith}
use lib.ListN.{length, length-append}
use borrow.Author.Tests.{le-leb, lt-leb}
use Rattle.std.specs.Range.{range_inclusive_start, range_inclusive_end, range_inclusive_exhausted}
use Rattle.completions.specs.Completions.{cycles_from}
use Rattle.completions.specs.Columns.{ends}
use Rattle.completions.proofs.InRange.{first_in, first_still, first_turns, in_range, still_turn, still_end, still_broken, turns_turn}
use Rattle.completions.proofs.Walk.count.Goals as goal

pub loop-cycle-init : goal.loop-cycle-init
loop-cycle-init c =
    let a = c.args in
    let o = c.onward-cycle-items.ensures in
    let i = c.into_iter-cycle-iterator.ensures.into_iter_gives in
    let it = c.into_iter-cycle-iterator.result in
    let from = ap range_inclusive_start i ∙ o.0 in
    let to = ap range_inclusive_end i ∙ o.1 in
    let left = ap range_inclusive_exhausted i ∙ o.2 in
    (first_in a.self a.first it from to left, omega arith, omega (arith, ap length (first_still a.self a.first it from to left (ends a.spans))), omega (arith, first_turns a.self a.first it from to left (ends a.spans) a.room (a.room - 0) (omega arith)))

pub returns-then-room-m : goal.returns-then-room-m
returns-then-room-m c =
    let a = c.args in
    let l = c.loop-cycle in
    let e = still_turn a.self (ends a.spans) l.cycle-iterator c.next.new.self c.next.result c.next.ensures.steps c.in-Some.cycle c.in-Some.is a.first l.invariant.0 (sym c.breaks_at.ensures ∙ c.if-breaks_at.false) c.cycle_start.ensures in
    simp (lt-leb (length (cycles_from a.self (ends a.spans) a.first)) a.room (omega (arith, simp length-append at (ap length e))))

pub loop-cycle-preserved : goal.loop-cycle-preserved
loop-cycle-preserved c =
    let a = c.args in
    let l = c.loop-cycle in
    let b = sym c.breaks_at.ensures ∙ c.if-breaks_at.false in
    let e = still_turn a.self (ends a.spans) l.cycle-iterator c.next.new.self c.next.result c.next.ensures.steps c.in-Some.cycle c.in-Some.is a.first l.invariant.0 b c.cycle_start.ensures in
    let n = turns_turn a.self (ends a.spans) l.cycle-iterator c.next.new.self c.next.result c.next.ensures.steps c.in-Some.cycle c.in-Some.is a.first l.invariant.0 (a.room - l.m) {room' = a.room - (l.m + c.count_cycle-k.result)} b c.cycle_start.ensures c.count_cycle-k.ensures (omega arith) (omega arith) in
    (in_range a.self (ends a.spans) l.cycle-iterator c.next.new.self c.next.result c.next.ensures.steps c.in-Some.cycle c.in-Some.is a.first l.invariant.0, omega arith, omega (arith, simp length-append at (ap length e)), omega (arith, n, length-append l.yielded (c.in-Some.cycle ∷ [])))

pub returns-in-None : goal.returns-in-None
returns-in-None c =
    let a = c.args in
    let l = c.loop-cycle in
    let e : l.m ≡ length (cycles_from a.self (ends a.spans) a.first) = omega (arith, ap length (still_end a.self (ends a.spans) l.cycle-iterator c.next.new.self c.next.result c.next.ensures.steps c.in-None.is)) in
    rw (← e, le-leb l.m a.room l.invariant.1)

pub returns-then-breaks_at : goal.returns-then-breaks_at
returns-then-breaks_at c =
    let a = c.args in
    let l = c.loop-cycle in
    let e : l.m ≡ length (cycles_from a.self (ends a.spans) a.first) = omega (arith, ap length (still_broken a.self (ends a.spans) l.cycle-iterator c.next.new.self c.next.result c.next.ensures.steps c.in-Some.cycle c.in-Some.is (sym c.breaks_at.ensures ∙ c.if-breaks_at.true))) in
    rw (← e, le-leb l.m a.room l.invariant.1)
