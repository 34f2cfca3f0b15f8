-- `update`: refused, not going on, ticked in Once, or looped.
use mathlib.Core.Path.{◌≡◌, refl, sym, ap, ◌∙◌}
use mathlib.Core.Bool.{true, false}
use Rattle.std.proofs.Common.{rules}
use Rattle.tween.specs.LoopMode.{is_once}
use Rattle.clock.specs.Clocks.{advances}
use Rattle.player.proofs.Moving.{base-own}
use Rattle.player.proofs.Answers.{left-at, sent-at}
use Rattle.player.proofs.Updating.{update-short, update-bad, update-room, update-stays, update-ticks, update-syncs}
use Rattle.player.proofs.engine.Player.update.Goals as goal

pub returns-in_err-check : goal.returns-in_err-check
returns-in_err-check c =
    update-short c.args.self.now c.args.rows.now c.args.dt c.args.replies.now c.args.list.now c.entries-n.ensures c.check.ensures c.in_err-check.field-0.0 (search rules) (search rules)

pub returns-in_err-check_replies : goal.returns-in_err-check_replies
returns-in_err-check_replies c =
    update-bad c.args.self.now c.args.rows.now c.args.dt c.args.replies.now c.args.list.now c.entries-n.ensures c.check.ensures (search rules) c.check_replies.ensures c.in_err-check_replies.field-0.0 (search rules) (search rules)

pub returns-then-not-advances : goal.returns-then-not-advances
returns-then-not-advances c =
    let p = c.args.self.now in
    let eb = base-own p c.entries-n.ensures c.run-run.ensures.1 in
    let off : advances p.head.clock c.run-run.result.base ≡ false = sym c.advances.ensures ∙ c.if-not-advances.true in
    let moved = c.stay.ensures in
    update-stays c.args.self.now c.args.rows.now c.args.dt c.args.replies.now c.args.list.now c.entries-n.ensures c.check.ensures (search rules) c.check_replies.ensures (search rules) eb off moved.0 (left-at p _ _ refl moved.1) (sent-at p _ _ _ moved.1 c.apply.ensures)

pub tick_to-requires : goal.tick_to-requires
tick_to-requires c =
    update-room c.args.self.now c.args.rows.now c.args.dt c.args.replies.now c.args.list.now c.entries-n.ensures c.check.ensures (search rules) c.check_replies.ensures (search rules)

pub returns-then-is_once : goal.returns-then-is_once
returns-then-is_once c =
    let p = c.args.self.now in
    let run = c.run-run in
    let eb = base-own p c.entries-n.ensures run.ensures.1 in
    let on : advances p.head.clock run.result.base ≡ true = sym c.advances.ensures ∙ c.if-not-advances.false in
    let once : is_once p.head.looping ≡ true = ap is_once (sym run.ensures.0) ∙ sym c.is_once.ensures ∙ c.if-is_once.true in
    update-ticks c.args.self.now c.args.rows.now c.args.dt c.args.replies.now c.args.list.now c.entries-n.ensures c.check.ensures (search rules) c.check_replies.ensures (search rules) eb on c.next_elapsed-next.ensures c.tick_to.result once c.tick_to.ensures

pub sync_to-requires : goal.sync_to-requires
sync_to-requires c =
    let room = update-room c.args.self.now c.args.rows.now c.args.dt c.args.replies.now c.args.list.now c.entries-n.ensures c.check.ensures (search rules) c.check_replies.ensures (search rules) in
    (room.0, room.1, c.run-run.ensures.0, base-own c.args.self.now c.entries-n.ensures c.run-run.ensures.1)

pub returns : goal.returns
returns c =
    let p = c.args.self.now in
    let run = c.run-run in
    let eb = base-own p c.entries-n.ensures run.ensures.1 in
    let on : advances p.head.clock run.result.base ≡ true = sym c.advances.ensures ∙ c.if-not-advances.false in
    let loops : is_once p.head.looping ≡ false = ap is_once (sym run.ensures.0) ∙ sym c.is_once.ensures ∙ c.if-is_once.false in
    update-syncs c.args.self.now c.args.rows.now c.args.dt c.args.replies.now c.args.list.now c.entries-n.ensures c.check.ensures (search rules) c.check_replies.ensures (search rules) eb on c.next_elapsed-next.ensures c.sync_to.result loops c.sync_to.ensures
