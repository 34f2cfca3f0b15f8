-- The call that the bytes make.
use mathlib.Core.Path.{◌≡◌, refl}
use Rattle.std.proofs.Common.{rules, Some, None, Err}
use Rattle.refusal.specs.declared.Refusal.TheVariants.{BadCall}
use Rattle.player.specs.Answered.{playing_in}
use Rattle.call_log.proofs.Making.{makes_none, makes_one}
use Rattle.call_log.proofs.make_at.Goals as goal

pub returns-in_err-call : goal.returns-in_err-call
returns-in_err-call c =
    let p = c.args.player.now in
    let none : c.call_at.result ≡ None = search rules in
    let answer : c.from_residual.result ≡ Err BadCall = search rules in
    rw answer (makes_none p c.args.rest.now _ ((rw none at c.call_at.ensures) (playing_in p)))

pub returns : goal.returns
returns c =
    let p = c.args.player.now in
    let call = c.in_ok-call.call in
    let own = c.well_formed in
    let some : c.call_at.result ≡ Some call = search rules in
    makes_one p c.args.rest.now call.byte call.x _ _ _ _ _ _ _ ((rw some at c.call_at.ensures) (playing_in p)) refl
    (search (rules, own)) (search (rules, own)) (search (rules, own)) (search (rules, own)) c.make.ensures
