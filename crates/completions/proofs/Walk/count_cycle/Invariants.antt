-- `count_cycle` counts what the cycle lists: those counted and those still to come are all of them.
use mathlib.Core.Path.{◌≡◌}
use Prim.Native.Nat.{◌+◌}
use lib.ListN.{length}
use Rattle.completions.specs.Completions.{in_cycle}
use Rattle.completions.specs.Columns.{ends}
use Rattle.completions.proofs.Cycle.{many}
use Rattle.completions.proofs.Walk.count_cycle.Given as goal

abbrev pub invariant-loop-s : goal.invariant-loop-s
invariant-loop-s l = l.k + many l.self l.start l.s-iterator ≡ length (in_cycle l.self l.start 0 (ends l.spans))
