-- `duration` is the base, asked in the columns.
use mathlib.Core.Path.{◌≡◌, refl, ◌∙◌}
use borrow.Author.Rules.{rules}
use lib.ListN.{length}
use Rattle.steps.specs.Times.{max_entries}
use Rattle.track.specs.Tracks.{track_base}
use Rattle.track.proofs.Laid.{laid-all, asked, base-trimmed}
use Rattle.track.proofs.track.Track.duration.Goals as goal

pub returns : goal.returns
returns c =
    let k = c.args.self in
    let long : length k.entries ≡ max_entries = search rules in
    asked track_base k long (laid-all refl refl refl c.lay_out-head.ensures) c.spans.ensures.0 c.spans.ensures.1 c.duration.ensures ∙ base-trimmed k
