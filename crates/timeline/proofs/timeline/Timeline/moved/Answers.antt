-- `moved` is the step of the call that the closure makes.
use mathlib.Core.Path.{◌≡◌, refl, sym}
use Rattle.std.proofs.Common.{rules, Err}
use lib.ListN.{length}
use Rattle.steps.specs.Times.{max_entries}
use Rattle.track.proofs.Laid.{laid-all}
use Rattle.player.proofs.Loops.{left_of}
use Rattle.timeline.proofs.Doors.{seated, door-moves, door-refuses}
use Rattle.timeline.proofs.timeline.Timeline.moved.Goals as goal

pub shape_of-marks-in-Break-1 : goal.shape_of-marks-in-Break-1
shape_of-marks-in-Break-1 g c = sym (c.requires.kept _ _ _ _ _ c.make.ensures)

pub shape_of-marks : goal.shape_of-marks
shape_of-marks g c = sym (c.requires.kept _ _ _ _ _ c.make.ensures)

pub returns-in_err-make : goal.returns-in_err-make
returns-in_err-make g c = λ call makes.
    let t = c.args.self in
    let own = c.well_formed.0.0 in
    let long : length t.track.entries ≡ max_entries = search rules in
    let many : length c.args.marks.now ≡ max_entries = search rules in
    let why : c.make.result ≡ Err c.in_err-make.field-0.0 = search rules in
    let answer : c.from_residual.result ≡ Err c.in_err-make.field-0.0 = search rules in
    let x = makes _ _ _ _ _ c.make.ensures in
    (x.1, rw answer (door-refuses t (call _) (seated t long (laid-all refl refl many c.lay_out-head.ensures) c.spans.ensures.0 c.spans.ensures.1) (rw why at x.2)))

pub returns : goal.returns
returns g c = λ call makes.
    let t = c.args.self in
    let own = c.well_formed.0.0 in
    let long : length t.track.entries ≡ max_entries = search rules in
    let many : length c.args.marks.now ≡ max_entries = search rules in
    let x = makes _ _ _ _ _ c.in_ok-make.ensures in
    (x.1, door-moves t long (call _) (laid-all refl refl many c.lay_out-head.ensures) _ _ (refl, c.spans.ensures.0, c.spans.ensures.1, refl) (left_of x.0) refl x.2)
