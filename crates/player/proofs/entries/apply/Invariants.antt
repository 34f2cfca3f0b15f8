use mathlib.Core.List.{map}
use Rattle.steps.specs.Rows.{ruled}
use Rattle.player.specs.Loops.{first_in}
use Rattle.player.proofs.Loops.{Kept}
use Rattle.player.proofs.entries.apply.Given as goal

abbrev pub invariant-loop-i : goal.invariant-loop-i
invariant-loop-i l =
    Kept l.n (map (ruled l.rule) (first_in l.n l.spans l.initial.marks)) l.spans.starts.now l.spans.durations.now l.initial.marks l.initial.kinds l.initial.amounts l.initial.places l.marks l.kinds l.amounts l.places l.i
