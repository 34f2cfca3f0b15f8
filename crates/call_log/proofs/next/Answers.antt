-- The call, and its line.
use Rattle.call_log.proofs.Making.{logs-one}
use Rattle.call_log.proofs.next.Goals as goal

pub returns : goal.returns
returns c =
    let called = c.called.ensures in
    logs-one c.args.player.now c.args.rest.now c.args.number _ _ _ _ _ c.args.at _ _ _ c.make_at-made.ensures c.number_in-refusal.ensures c.unwrap_or.ensures called.0 called.1
