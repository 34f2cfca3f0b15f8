-- `write` stores cycle by cycle: the stores made and those of the cycles still to come are all of them, and so are the turns.
use mathlib.Core.Path.{◌≡◌}
use Prim.Native.Nat.{◌+◌}
use lib.ListN.{length}
use lib.Seq.{sets}
use Rattle.completions.specs.Completions.{cycles_from}
use Rattle.completions.specs.Columns.{ends}
use Rattle.completions.specs.Prompt.{turns_from}
use Rattle.completions.proofs.InRange.{InRange, still, turns_left}
use Rattle.completions.proofs.Walk.write.Given as goal

abbrev pub invariant-loop-cycle : goal.invariant-loop-cycle
invariant-loop-cycle l =
    let left = still l.self (ends l.spans) l.cycle-iterator in
    let all = cycles_from l.self (ends l.spans) l.first in
    InRange l.first l.cycle-iterator
    × (length l.list ≡ length l.initial.list)
    × (l.m + length left ≡ length all)
    × (sets l.list l.m left ≡ sets l.initial.list 0 all)
    × (length l.yielded + turns_left l.self (ends l.spans) (length left) l.cycle-iterator ≡ turns_from l.self (ends l.spans) (length all) l.first)
