use Prim.Native.Nat.{◌+◌, ◌≤◌}
use mathlib.Core.Path.{◌≡◌}
use lib.ListN.{length}
use Rattle.track.proofs.Ticks.{rest}
use Rattle.player.specs.Loops.{first_in, ticks_in, done_in, Reads}
use Rattle.player.proofs.entries.count_done.Given as goal

abbrev pub invariant-loop-i : goal.invariant-loop-i
invariant-loop-i l =
    Reads l.n l.spans l.marks
    × (l.n ≤ length l.replies)
    × (l.k ≤ l.i)
    × (l.k + length (rest (first_in l.n l.spans l.marks) (ticks_in l.n l.step l.spans l.marks l.replies) l.i) ≡ length (done_in l.n l.step l.spans l.marks l.replies))
