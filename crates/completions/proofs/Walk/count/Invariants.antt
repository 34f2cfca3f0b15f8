-- `count` counts cycle by cycle: those counted and those of the cycles still to come are all of them, and so are the turns.
use mathlib.Core.Path.{◌≡◌}
use Prim.Native.Nat.{◌+◌, ◌-◌, ◌≤◌}
use lib.ListN.{length}
use Rattle.completions.specs.Completions.{cycles_from}
use Rattle.completions.specs.Columns.{ends}
use Rattle.completions.specs.Prompt.{turns_from}
use Rattle.completions.proofs.InRange.{InRange, still, turns_left}
use Rattle.completions.proofs.Walk.count.Given as goal

abbrev pub invariant-loop-cycle : goal.invariant-loop-cycle
invariant-loop-cycle l =
    InRange l.first l.cycle-iterator
    × (l.m ≤ l.room)
    × (l.m + length (still l.self (ends l.spans) l.cycle-iterator) ≡ length (cycles_from l.self (ends l.spans) l.first))
    × (length l.yielded + turns_left l.self (ends l.spans) (l.room - l.m) l.cycle-iterator ≡ turns_from l.self (ends l.spans) l.room l.first)
