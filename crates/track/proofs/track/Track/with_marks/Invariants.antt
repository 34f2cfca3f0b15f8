-- `with_marks` marks the live entries, one by one.
use Prim.Native.Nat.{◌≤◌}
use mathlib.Core.Path.{◌≡◌}
use lib.ListN.{length}
use Rattle.steps.specs.Times.{max_entries}
use Rattle.steps.proofs.Lists.{front}
use Rattle.track.specs.Tracks.{live, marks as marks_on}
use Rattle.track.proofs.track.Track.with_marks.Given as goal

abbrev pub invariant-loop-i : goal.invariant-loop-i
invariant-loop-i l =
    (l.n ≡ length (marks_on (live l.self) l.marks))
    × (l.n ≤ length (live l.self))
    × (l.n ≤ length l.marks)
    × (l.n ≤ max_entries)
    × (length l.self.entries ≡ max_entries)
    × (length l.entries ≡ max_entries)
    × (l.entries ≡ front l.i (marks_on (live l.self) l.marks) l.self.entries)
