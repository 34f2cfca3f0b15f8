-- the preview is the step that `Preview` says.
use mathlib.Core.Path.{◌≡◌, refl}
use Rattle.std.proofs.Common.{rules}
use lib.ListN.{length}
use Rattle.steps.specs.Times.{max_entries}
use Rattle.track.specs.Calls.{Preview}
use Rattle.track.proofs.Laid.{laid-all}
use Rattle.timeline.proofs.Doors.{seated, door-shows}
use Rattle.timeline.proofs.timeline.Timeline.preview.Goals as goal

pub returns : goal.returns
returns c =
    let t = c.args.self in
    let own = c.well_formed.0.0 in
    let long : length t.track.entries ≡ max_entries = search rules in
    let x = c.preview.ensures in
    (x.0, door-shows t (Preview _ _) (seated t long (laid-all refl refl refl c.lay_out-head.ensures) c.spans.ensures.0 c.spans.ensures.1) x.1)
