-- `update` is the step that `Update` says.
use mathlib.Core.Path.{◌≡◌, refl}
use Rattle.std.proofs.Common.{rules, Ok, Err}
use lib.ListN.{length}
use Rattle.steps.specs.Times.{max_entries}
use Rattle.track.specs.Calls.{Update}
use Rattle.track.proofs.Laid.{laid-all}
use Rattle.player.proofs.Loops.{left_of}
use Rattle.timeline.proofs.Doors.{seated, door-updates, door-stays}
use Rattle.timeline.proofs.timeline.Timeline.update.Goals as goal

pub returns-in_err-made : goal.returns-in_err-made
returns-in_err-made c =
    let t = c.args.self in
    let own = c.well_formed.0.0 in
    let long : length t.track.entries ≡ max_entries = search rules in
    let why : c.update.result ≡ Err c.in_err-made.field-0.0 = search rules in
    let answer : c.from_residual.result ≡ Err c.in_err-made.field-0.0 = search rules in
    let x = c.update.ensures in
    (x.1, rw answer (door-stays t (Update _ _ _ _) (seated t long (laid-all refl refl refl c.lay_out-head.ensures) c.spans.ensures.0 c.spans.ensures.1) (rw why at x.2)))

pub returns : goal.returns
returns c =
    let t = c.args.self in
    let own = c.well_formed.0.0 in
    let long : length t.track.entries ≡ max_entries = search rules in
    let passes : c.update.result ≡ Ok c.in_ok-made.made = search rules in
    let x = c.update.ensures in
    (x.1, door-updates t long (Update _ _ _ _) (laid-all refl refl refl c.lay_out-head.ensures) _ _ (refl, c.spans.ensures.0, c.spans.ensures.1, refl) (left_of x.0) c.left.ensures (rw passes at x.2))
