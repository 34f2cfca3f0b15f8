-- `show` sends the rows of a tick, or of a rule.
use mathlib.Core.Path.{◌≡◌}
use native.Mathlib.Omega.{arith}
use lib.ListN.{length, replicate}
use Rattle.completions.specs.Columns.{most_entries}
use Rattle.track.specs.Updates.{ticks}
use Rattle.track.proofs.Columns.{length-first}
use Rattle.track.proofs.Ticks.{newly_most}
use Rattle.player.specs.Loops.{first_in}
use Rattle.player.proofs.Loops.{reads, few}
use Rattle.player.proofs.Shown.{shown-ticked, shown-ruled}
use Rattle.player.proofs.engine.Player.show.Goals as goal

pub tick-requires : goal.tick-requires
tick-requires c =
    let p = c.args.self.now in
    let n = c.args.n in
    let wide = reads p c.requires.0 in
    let most = few p c.requires.0 in
    let es = first_in n p.spans p.marks.now in
    let long : length es ≡ n = length-first n p.spans.starts.now p.spans.durations.now p.marks.now wide.0 wide.1 wide.2 in
    let done = newly_most 0 es (ticks c.min.result c.reach_of-to.result.elapsed es (replicate most_entries 1)) in
    record { in_bounds = (wide, c.requires.1, most, most); room = omega (arith, long, done, most) }

pub returns-then-ticks : goal.returns-then-ticks
returns-then-ticks c =
    shown-ticked c.args.self.now c.requires.0 c.run-run.ensures c.args.dt c.next_elapsed-next.ensures c.reach_of-to.ensures c.advances-advances.ensures c.is_once-once.ensures c.if-ticks.true c.min.ensures (replicate most_entries 1) c.tick.ensures.sent_to.1

pub apply-requires : goal.apply-requires
apply-requires c = (reads c.args.self.now c.requires.0, c.requires.1)

pub returns : goal.returns
returns c =
    shown-ruled c.args.self.now c.requires.0 c.run-run.ensures c.args.dt c.next_elapsed-next.ensures c.reach_of-to.ensures c.advances-advances.ensures c.is_once-once.ensures c.if-ticks.false c.advance_rule-rule.ensures c.apply.ensures.1
