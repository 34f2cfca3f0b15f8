-- `entries` is `entries_in`.
use native.Mathlib.Omega.{arith}
use Rattle.completions.proofs.Columns.{all_long}
use Rattle.track.proofs.track.Playhead.entries.Goals as goal

pub returns : goal.returns
returns c =
    let s = c.args.spans in
    omega (arith, c.min.ensures, c.min-2.ensures, c.min-3.ensures, c.len.ensures, all_long s.starts.now s.durations.now)
