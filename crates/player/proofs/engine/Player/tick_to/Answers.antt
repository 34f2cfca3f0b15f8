use mathlib.Core.Path.{refl, sym, ◌∙◌}
use borrow.Author.Tests.{ltb-false}
use Rattle.player.proofs.Loops.{reads, few}
use Rattle.player.proofs.Answers.{left-at, sent-at, tick-over, tick-told}
use Rattle.player.proofs.engine.Player.tick_to.Goals as goal

pub outnumber-requires : goal.outnumber-requires
outnumber-requires c = (reads c.args.self.now c.requires.0, c.requires.2)

pub returns-then-outnumber : goal.returns-then-outnumber
returns-then-outnumber c =
    let g = c.args in
    tick-over g.self.now c.requires.0 g.base g.next g.replies.now _ _ c.min.ensures refl c.reach_within-to.ensures (sym c.outnumber.ensures ∙ c.if-outnumber.true)

pub tick-listed-requires : goal.tick-listed-requires
tick-listed-requires c =
    let p = c.args.self.now in
    let pre = c.requires in
    record { in_bounds = (reads p pre.0, pre.1, few p pre.0, pre.2); room = ltb-false _ _ (sym c.outnumber.ensures ∙ c.if-outnumber.false) }

pub returns : goal.returns
returns c =
    let g = c.args in
    let p = g.self.now in
    let done = c.tick-listed.ensures in
    let moved = c.reach.ensures in
    tick-told p c.requires.0 g.base g.next g.replies.now _ _ c.min.ensures refl c.reach_within-to.ensures (left-at p _ _ refl moved.1) moved.0 (sym c.outnumber.ensures ∙ c.if-outnumber.false) done.value (sent-at p _ _ _ moved.1 done.sent_to)
