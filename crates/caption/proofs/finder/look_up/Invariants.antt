-- The pairs from code i on are still in turn or not, and the first match is the one so far or the first of those.
use Prim.Native.Nat.{◌<◌}
use Rattle.caption.proofs.Turns.{Passed}
use Rattle.caption.proofs.finder.look_up.Given as goal

abbrev pub invariant-loop-i : goal.invariant-loop-i
invariant-loop-i l = record {
  few : l.n < 65536;
  fits : l.offset < 1000000;
  passed : Passed l.list l.label l.n l.i l.offset l.first;
}
