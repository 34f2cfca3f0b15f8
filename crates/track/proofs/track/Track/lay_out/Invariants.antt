-- `lay_out` writes the live entries over the columns, as many as these take.
use Prim.Native.Nat.{◌≤◌, min}
use mathlib.Core.Path.{◌≡◌}
use mathlib.Core.Bool.{Bool}
use mathlib.Core.List.{List}
use lib.ListN.{length, take}
use lib.Ieee.{Float}
use Rattle.steps.specs.declared.Entry.{Entry}
use Rattle.steps.specs.Times.{max_entries}
use Rattle.track.specs.declared.track.Track.{Track}
use Rattle.track.specs.Tracks.{live}
use Rattle.track.proofs.Laid.{Column}
use Rattle.track.proofs.track.Track.lay_out.Given as goal

-- the entries that the columns take
abbrev pub taken : Track → List Float → List Float → List Bool → List Entry
taken k ss ds ms = take (min (length ss) (min (length ds) (length ms))) (live k)

abbrev pub invariant-loop-i : goal.invariant-loop-i
invariant-loop-i l =
    let es = taken l.self l.initial.starts l.initial.durations l.initial.marks in
    (l.n ≡ length es)
    × (l.n ≤ max_entries)
    × (length l.self.entries ≡ max_entries)
    × Column (λ (e : Entry). e.start) es l.i l.initial.starts l.starts
    × Column (λ (e : Entry). e.duration) es l.i l.initial.durations l.durations
    × Column (λ (e : Entry). e.done) es l.i l.initial.marks l.marks
