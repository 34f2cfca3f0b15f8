-- `gather` lays the entries of the columns over those of the track, as many as fit.
use Prim.Native.Nat.{◌≤◌}
use mathlib.Core.Path.{◌≡◌}
use lib.ListN.{length}
use Rattle.steps.specs.Times.{max_entries}
use Rattle.steps.proofs.Lists.{front}
use Rattle.track.proofs.Laid.{gathers}
use Rattle.track.proofs.track.Track.gather.Given as goal

abbrev pub invariant-loop-i : goal.invariant-loop-i
invariant-loop-i l =
    (l.n ≡ length (gathers l.head l.spans.starts.now l.spans.durations.now l.marks))
    × (l.n ≤ max_entries)
    × (l.n ≤ length l.spans.starts.now)
    × (l.n ≤ length l.spans.durations.now)
    × (l.n ≤ length l.marks)
    × (length l.fn.self.entries ≡ max_entries)
    × (length l.self.entries ≡ max_entries)
    × (l.self.entries ≡ front l.i (gathers l.head l.spans.starts.now l.spans.durations.now l.marks) l.fn.self.entries)
