use Prim.Native.Nat.{◌≤◌}
use lib.ListN.{length}
use Rattle.track.proofs.Ticks.{Listing}
use Rattle.completions.specs.Columns.{most_entries}
use Rattle.player.specs.Loops.{first_in, ticks_in}
use Rattle.player.proofs.Loops.{Kept}
use Rattle.player.proofs.entries.tick.Given as goal

abbrev pub invariant-loop-i : goal.invariant-loop-i
invariant-loop-i l =
    (l.n ≤ most_entries)
    × (l.n ≤ length l.replies)
    × Kept l.n (ticks_in l.n l.step l.spans l.initial.marks l.replies) l.spans.starts.now l.spans.durations.now l.initial.marks l.initial.kinds l.initial.amounts l.initial.places l.marks l.kinds l.amounts l.places l.i
    × Listing (first_in l.n l.spans l.initial.marks) (ticks_in l.n l.step l.spans l.initial.marks l.replies) l.initial.list l.list l.listed l.i
