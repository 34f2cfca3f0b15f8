use Prim.Native.Nat.{ℕ, ◌+◌, ◌<◌}
use mathlib.Core.Path.{◌≡◌, sym, ap, ◌∙◌}
use mathlib.Core.List.{List}
use native.Mathlib.Omega.{arith}
use lib.ListN.{length}
use Rattle.track.proofs.Ticks.{rest-start, rest_end, rest-turn}
use Rattle.track.proofs.Columns.{length-first, first_at}
use Rattle.player.specs.Loops.{first_in, ticks_in}
use Rattle.player.proofs.Loops.{each-step, turn}
use Rattle.player.proofs.entries.count_done.Goals.{then-newly_done, else-newly_done}
use Rattle.player.proofs.entries.count_done.Goals as goal

pub loop-i-init : goal.loop-i-init
loop-i-init c = ((omega arith, omega arith, omega arith), omega arith, omega arith, ap (λ (xs : List ℕ). 0 + length xs) (rest-start _ _) ∙ omega arith)

pub loop-i-preserved : goal.loop-i-preserved
loop-i-preserved c =
    let g = c.args in
    let es = first_in g.n g.spans g.marks.now in
    let ss = ticks_in g.n g.step g.spans g.marks.now g.replies.now in
    let i = c.loop-i.i in
    let v = c.loop-i.invariant in
    let long : length es ≡ g.n = length-first g.n g.spans.starts.now g.spans.durations.now g.marks.now v.0.0 v.0.1 v.0.2 in
    let h : i < length es = omega (arith, long) in
    let here = c.entry_at-e.ensures ∙ sym (first_at g.n g.spans.starts.now g.spans.durations.now g.marks.now i (omega arith) v.0.0 v.0.1 v.0.2) in
    let now = turn g.n g.step g.spans g.marks.now g.replies.now i h (omega arith) _ _ here c.ticked.ensures in
    let t = rest-turn es ss (each-step g.n g.step g.spans g.marks.now g.replies.now) i c.newly_done.result h (c.newly_done.ensures ∙ now.1) in
    elim c.if-newly_done.branch [
      | then-newly_done w ↦ let l = rw w.if-newly_done.true at t in (v.0, v.1, omega arith, omega (arith, ap length l))
      | else-newly_done w ↦ let l = rw w.if-newly_done.false at t in (v.0, v.1, omega arith, omega (arith, ap length l))
    ]

pub returns : goal.returns
returns c =
    let g = c.args in
    let es = first_in g.n g.spans g.marks.now in
    let v = c.loop-i.invariant in
    let long : length es ≡ g.n = length-first g.n g.spans.starts.now g.spans.durations.now g.marks.now v.0.0 v.0.1 v.0.2 in
    let done = rest_end es (ticks_in g.n g.step g.spans g.marks.now g.replies.now) c.loop-i.i (omega (arith, long)) in
    omega (arith, ap length done)
