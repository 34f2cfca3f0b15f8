-- `seek` is the step that `Seek` says.
use mathlib.Core.Path.{refl}
use Rattle.std.proofs.Common.{rules}
use Rattle.track.specs.Columns.{track_of}
use Rattle.track.proofs.Outcomes.{share-sent}
use Rattle.player.specs.Answered.{playing_in, room_in}
use Rattle.player.proofs.Moving.{base-own, moves-refused, moves-on}
use Rattle.player.proofs.engine.Player.seek.Goals as goal

pub returns-in_err-check : goal.returns-in_err-check
returns-in_err-check c =
    let p = c.args.self.now in
    let r = c.args.rows.now in
    moves-refused p c.entries-n.ensures r c.check.ensures _ _ (share-sent (playing_in p) (room_in r) refl c.args.to.0 refl refl refl refl refl) c.in_err-check.field-0.0 (search rules) (search rules)

pub returns : goal.returns
unfolding track_of
returns c =
    let p = c.args.self.now in
    let r = c.args.rows.now in
    let run = c.run-run.ensures in
    let eb = base-own p c.entries-n.ensures run.1 in
    moves-on p c.entries-n.ensures r c.check.ensures _ (share-sent (playing_in p) (room_in r) eb c.args.to.0 (rw run.0 at c.total-total.ensures) c.share_in.ensures c.seek_to-elapsed.ensures (rw run.0 at c.local_time.ensures) c.sought.ensures) (search rules) (record { head = c.with_clock-self.ensures; spans = refl; marks = refl }) c.apply.ensures
