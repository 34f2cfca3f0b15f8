-- The loop's invariant is `Building`, wherever the closure puts the items.
use Prim.Native.Nat.{ℕ}
use Rattle.timeline.specs.declared.timeline.At.{At}
use Rattle.group.specs.Items.{Gives}
use Rattle.group.proofs.Building.{Building}
use Rattle.group.proofs.item.add_each.Given as goal

abbrev pub invariant-loop-i : goal.invariant-loop-i
invariant-loop-i g l = (places : ℕ → At) → Gives (goal.F-post g l.at) places → Building places l.durations l.timeline l.i
