use Prim.Native.Nat.{◌≤◌}
use mathlib.Core.Path.{◌≡◌, sym, ap, ◌∙◌}
use native.Mathlib.Omega.{arith}
use borrow.Author.Tests.{le-ltb}
use lib.Dec.{ltb}
use lib.ListN.{length}
use Rattle.track.proofs.Ticks.{newly_most}
use Rattle.track.proofs.Columns.{length-first}
use Rattle.player.specs.Loops.{first_in, ticks_in, done_in}
use Rattle.player.proofs.entries.outnumber.Goals as goal

pub returns-then-room-n : goal.returns-then-room-n
returns-then-room-n c = ap (ltb c.args.room) c.count_done.ensures

pub returns-else-room-n : goal.returns-else-room-n
returns-else-room-n c =
    let g = c.args in
    let es = first_in g.n g.spans g.marks.now in
    let ss = ticks_in g.n g.step g.spans g.marks.now g.replies.now in
    let long : length es ≡ g.n = length-first g.n g.spans.starts.now g.spans.durations.now g.marks.now (omega arith) (omega arith) (omega arith) in
    let h : length (done_in g.n g.step g.spans g.marks.now g.replies.now) ≤ g.room = omega (arith, newly_most 0 es ss, long) in
    let few : g.n ≤ g.room = omega arith in
    le-ltb _ _ few ∙ sym (le-ltb _ _ h)
