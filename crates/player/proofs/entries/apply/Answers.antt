use mathlib.Core.Path.{◌≡◌, refl, sym, ap, ◌∙◌}
use native.Mathlib.Omega.{arith}
use lib.ListN.{length, length-map}
use Rattle.steps.specs.Rows.{ruled}
use Rattle.std.proofs.lemmas.List.{get_or-map}
use Rattle.track.proofs.Marks.{no_entry, no_step}
use Rattle.track.specs.Columns.{first_of}
use Rattle.track.proofs.Columns.{length-first}
use Rattle.player.proofs.Loops.{none_kept, next-kept, one_kept, all-kept}
use Rattle.player.proofs.entries.apply.Goals as goal

pub loop-i-init : goal.loop-i-init
loop-i-init c =
    let g = c.args in
    let es = first_of g.n g.spans.starts.now g.spans.durations.now g.marks.now in
    let l : length es ≡ g.n = length-first g.n g.spans.starts.now g.spans.durations.now g.marks.now (omega arith) (omega arith) (omega arith) in
    none_kept _ _ _ _ _ _ _ _ (length-map es (ruled g.rule) ∙ l) (omega arith) (omega arith) (omega arith) (omega arith) (omega arith) (omega arith)

pub loop-i-preserved : goal.loop-i-preserved
loop-i-preserved c =
    let g = c.args in
    let l = c.loop-i in
    let v = l.invariant in
    let es = first_of g.n g.spans.starts.now g.spans.durations.now g.marks.now in
    let long : length es ≡ g.n = length-first g.n g.spans.starts.now g.spans.durations.now g.marks.now v.room-s v.room-d v.room-m in
    let here = next-kept _ _ _ _ _ _ _ _ _ _ _ _ _ v (omega arith) in
    let own = c.sent_to-s.ensures ∙ ap (ruled g.rule) (c.entry_at.ensures ∙ here) ∙ sym (get_or-map (ruled g.rule) es l.i no_entry no_step (omega (arith, long))) in
    one_kept _ _ _ _ _ _ _ _ _ _ _ _ _ v (omega arith) _ own _ refl

pub returns : goal.returns
returns c =
    let v = c.loop-i.invariant in
    let all = all-kept _ _ _ _ _ _ _ _ _ _ _ _ _ v c.loop-i-test.false in
    (all.0, (record { kinds = refl; amounts = refl; places = refl }, all.1))
