-- `entry_count` is the number of entries that count.
use mathlib.Core.Path.{◌≡◌}
use native.Mathlib.Omega.{arith}
use borrow.Author.Rules.{rules}
use lib.ListN.{length, length-take}
use Rattle.steps.specs.Times.{max_entries}
use Rattle.track.proofs.track.Track.entry_count.Goals as goal

pub returns : goal.returns
returns c =
    let k = c.args.self in
    let h : length k.entries ≡ max_entries = search rules in
    omega (arith, h, c.min.ensures, length-take k.count k.entries)
