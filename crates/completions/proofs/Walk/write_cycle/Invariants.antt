-- `write_cycle` stores what the cycle lists: the stores made and those still to come are all of them.
use mathlib.Core.Path.{◌≡◌}
use Prim.Native.Nat.{◌+◌}
use lib.ListN.{length}
use lib.Seq.{sets}
use Rattle.std.specs.Iterator.Adapters.{enumerate_count, enumerate_source}
use Rattle.completions.specs.Completions.{in_cycle}
use Rattle.completions.specs.Columns.{ends}
use Rattle.completions.proofs.Columns.{left}
use Rattle.completions.proofs.Walk.write_cycle.Given as goal

abbrev pub invariant-loop-i : goal.invariant-loop-i
invariant-loop-i l =
    let i = enumerate_count l.i-iterator in
    let still = left (enumerate_source l.i-iterator) in
    (i + length still ≡ length (ends l.spans))
    × (length l.list ≡ length l.initial.list)
    × (l.k + length (in_cycle l.self l.start i still) ≡ l.at + length (in_cycle l.self l.start 0 (ends l.spans)))
    × (sets l.list l.k (in_cycle l.self l.start i still) ≡ sets l.initial.list l.at (in_cycle l.self l.start 0 (ends l.spans)))
