use mathlib.Core.Path.{◌≡◌, refl, sym, ap, ◌∙◌}
use native.Mathlib.Omega.{arith}
use lib.ListN.{length}
use Rattle.steps.specs.declared.Entry.{Entry}
use Rattle.track.proofs.Ticks.{none_listed, room-listed, one-listed, all_listed}
use Rattle.track.proofs.Columns.{length-first}
use Rattle.player.specs.Loops.{first_in, ticks_in}
use Rattle.player.proofs.Loops.{none_kept, one_kept, all-kept, each-step, turn-kept}
use Rattle.player.proofs.entries.tick.Goals as goal

pub loop-i-init : goal.loop-i-init
loop-i-init c =
    let g = c.args in
    let es = first_in g.n g.spans g.marks.now in
    let ss = ticks_in g.n g.step g.spans g.marks.now g.replies.now in
    let l : length es ≡ g.n = length-first g.n g.spans.starts.now g.spans.durations.now g.marks.now (omega arith) (omega arith) (omega arith) in
    let each = each-step g.n g.step g.spans g.marks.now g.replies.now in
    (omega arith, omega arith, none_kept _ _ _ _ _ _ _ _ (each ∙ l) (omega arith) (omega arith) (omega arith) (omega arith) (omega arith) (omega arith), none_listed es ss _ (omega arith))

pub note-listed-requires : goal.note-listed-requires
note-listed-requires c =
    let g = c.args in
    let v = c.loop-i.invariant in
    let each = each-step g.n g.step g.spans g.marks.now g.replies.now in
    let below = c.loop-i-test.true in
    let now = turn-kept g.n g.step g.spans g.marks.now g.replies.now v.2 below v.1 c.entry_at-e.ensures c.ticked-s.ensures in
    (omega (arith, below, v.0), omega (arith, below, v.2.room-m, v.2.same-m), sym (ap (λ (e : Entry). e.done) c.entry_at-e.ensures), room-listed _ _ _ each _ _ _ v.3 now.0 _ now.2)

pub loop-i-preserved : goal.loop-i-preserved
loop-i-preserved c =
    let g = c.args in
    let v = c.loop-i.invariant in
    let each = each-step g.n g.step g.spans g.marks.now g.replies.now in
    let below = c.loop-i-test.true in
    let now = turn-kept g.n g.step g.spans g.marks.now g.replies.now v.2 below v.1 c.entry_at-e.ensures c.ticked-s.ensures in
    let noted = c.note-listed.ensures in
    (v.0, v.1, one_kept _ _ _ _ _ _ _ _ _ _ _ _ _ v.2 below _ now.1 _ noted.2, one-listed _ _ _ each _ _ _ v.3 now.0 _ now.2 _ _ noted.1 noted.0)

pub returns : goal.returns
returns c =
    let g = c.args in
    let v = c.loop-i.invariant in
    let each = each-step g.n g.step g.spans g.marks.now g.replies.now in
    let w = all-kept _ _ _ _ _ _ _ _ _ _ _ _ _ v.2 c.loop-i-test.false in
    let l = all_listed _ _ _ _ _ _ v.3 (omega (arith, each, v.2.each, c.loop-i-test.false)) in
    record { value = (l.0, l.1); sent_to = (w.0, (record { kinds = refl; amounts = refl; places = refl }, w.1)) }
