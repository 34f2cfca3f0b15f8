use mathlib.Core.Path.{◌≡◌, refl}
use Rattle.std.proofs.Common.{arith, Some, None, Err}
use Rattle.refusal.specs.declared.Refusal.TheVariants.{ListTooShort}
use Rattle.player.proofs.Loops.{reads}
use Rattle.player.proofs.Answers.{left-at, sent-at, sync-over, sync-told}
use Rattle.player.proofs.engine.Player.sync_to.Goals as goal

pub returns-in_err-listed : goal.returns-in_err-listed
returns-in_err-listed c =
    let over : c.between-found.result ≡ None = grind arith in
    let answer : c.from_residual.result ≡ Err ListTooShort = grind arith in
    sync-over c.args.self.now c.requires.0 c.args.run.base c.args.next _ c.requires.2 c.requires.3 c.first.result c.first.ensures c.between-found.ensures over answer

pub apply-requires : goal.apply-requires
apply-requires c = (reads c.args.self.now c.requires.0, c.requires.1)

pub returns : goal.returns
returns c =
    let p = c.args.self.now in
    let within : c.between-found.result ≡ Some c.in_ok-listed.listed = grind arith in
    let moved = c.reach.ensures in
    sync-told p c.requires.0 c.args.run.base c.args.next _ c.requires.2 c.requires.3 c.first.result c.first.ensures c.between-found.ensures within c.reach_of-to.ensures c.local_time.ensures (left-at p _ _ refl moved.1) moved.0 (sent-at p _ _ _ moved.1 c.apply.ensures)
