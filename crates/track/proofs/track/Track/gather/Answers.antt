-- `gather` lays the entries of the columns over those of the track, as many as fit.
use Prim.Native.Nat.{◌<◌}
use mathlib.Core.Path.{◌≡◌, refl, ◌∙◌}
use native.Mathlib.Omega.{arith}
use borrow.Author.Rules.{rules}
use lib.ListN.{length, length-set, length-take}
use Rattle.steps.specs.Times.{max_entries}
use Rattle.steps.proofs.Lists.{front-more, front-all}
use Rattle.track.specs.Tracks.{live}
use Rattle.track.specs.Columns.{track_of}
use Rattle.track.proofs.Marks.{no_entry}
use Rattle.track.proofs.Columns.{counted, roomy}
use Rattle.track.proofs.Laid.{gathers, gathers-at, gathered}
use Rattle.track.proofs.track.Track.gather.Goals as goal

pub loop-i-init : goal.loop-i-init
loop-i-init c =
    let g = c.args in
    let ss = g.spans.starts.now in
    let ds = g.spans.durations.now in
    let ms = g.marks.now in
    let long : length g.self.entries ≡ max_entries = search rules in
    let all = counted g.head ss ds ms c.entries.ensures in
    let room = roomy g.head ss ds ms _ all in
    let n = c.min-n.ensures in (
      omega (arith, n, all, length-take max_entries (live (track_of g.head ss ds ms))),
      omega (arith, n),
      omega (arith, n, room.0),
      omega (arith, n, room.1),
      omega (arith, n, room.2),
      long,
      long,
      refl,
    )

pub loop-i-preserved : goal.loop-i-preserved
loop-i-preserved c =
    let g = c.args in
    let ss = g.spans.starts.now in
    let ds = g.spans.durations.now in
    let ms = g.marks.now in
    let es = gathers g.head ss ds ms in
    let l = c.loop-i in
    let i = l.i in
    let v = l.invariant in
    let all = counted g.head ss ds ms c.entries.ensures in
    let h : i < length es = omega arith in
    let here = gathers-at g.head ss ds ms _ all i h in (
      v.0,
      v.1,
      v.2,
      v.3,
      v.4,
      v.5,
      length-set l.self.entries i _ ∙ v.6,
      front-more i es g.self.entries l.self.entries _ no_entry h (omega arith) here v.7,
    )

pub returns : goal.returns
returns c =
    let g = c.args in
    let es = gathers g.head g.spans.starts.now g.spans.durations.now g.marks.now in
    let l = c.loop-i in
    let v = l.invariant in
    let end : l.i ≡ length es = omega arith in
    gathered g.head g.spans.starts.now g.spans.durations.now g.marks.now g.self _ _ v.0 (front-all l.i es g.self.entries l.self.entries end v.7)
