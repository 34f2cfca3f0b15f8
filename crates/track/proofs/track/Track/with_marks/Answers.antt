-- `with_marks` marks the live entries, one by one.
use Prim.Native.Nat.{◌<◌}
use mathlib.Core.Path.{◌≡◌, refl, ap, sym, ◌∙◌}
use mathlib.Core.Bool.{false}
use mathlib.Core.List.{List}
use native.Mathlib.Omega.{arith}
use borrow.Author.Rules.{rules}
use lib.ListN.{length, get_or, length-set, length-take}
use Rattle.steps.specs.declared.Entry.{Entry}
use Rattle.steps.specs.Times.{max_entries}
use Rattle.steps.proofs.Lists.{part_at, front-more, front_at, front-all}
use Rattle.track.specs.Tracks.{live, marked, marks as marks_on}
use Rattle.track.proofs.Marks.{no_entry, length_marked, marks-at}
use Rattle.track.proofs.track.Track.with_marks.Goals as goal

pub loop-i-init : goal.loop-i-init
loop-i-init c =
    let g = c.args in
    let k = g.self in
    let ms = g.marks.now in
    let long : length k.entries ≡ max_entries = search rules in
    let n = c.min-n.ensures in
    let lives = c.entry_count.ensures in
    let each = length_marked (live k) ms in (
      omega (arith, n, lives, each),
      omega (arith, n, lives),
      omega (arith, n),
      omega (arith, n, lives, long, length-take k.count k.entries),
      long,
      long,
      refl,
    )

pub loop-i-preserved : goal.loop-i-preserved
loop-i-preserved c =
    let g = c.args in
    let k = g.self in
    let ms = g.marks.now in
    let es = marks_on (live k) ms in
    let l = c.loop-i in
    let i = l.i in
    let v = l.invariant in
    let h : i < length es = omega arith in
    let h' : i < length (live k) = omega arith in
    let read : get_or l.entries i no_entry ≡ get_or (live k) i no_entry =
    front_at i es k.entries l.entries no_entry (omega arith) (omega arith) v.6 ∙ sym (part_at k.count k.entries i no_entry h') in
    let here = ap (λ (e : Entry). marked e (get_or ms i false)) read ∙ sym (marks-at (live k) ms i h' (omega arith)) in (
      v.0,
      v.1,
      v.2,
      v.3,
      v.4,
      length-set l.entries i _ ∙ v.5,
      front-more i es k.entries l.entries _ no_entry h (omega arith) here v.6,
    )

pub returns : goal.returns
returns c =
    let g = c.args in
    let k = g.self in
    let l = c.loop-i in
    let v = l.invariant in
    let end : l.i ≡ length (marks_on (live k) g.marks.now) = omega arith in
    let all = front-all l.i (marks_on (live k) g.marks.now) k.entries l.entries end v.6 in
    ap (λ (es : List Entry). record k { entries = es; clock = g.clock }) all
