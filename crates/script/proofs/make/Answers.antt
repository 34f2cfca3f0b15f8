-- Each byte its call.
use native.Mathlib.Omega.{arith}
use lib.ListN.{length}
use Rattle.std.proofs.Common.{rules, ◌≡◌, refl, ap, ◌∙◌, Ok, Err}
use Rattle.refusal.specs.declared.Refusal.TheVariants.{BadCall}
use Rattle.track.specs.Calls.{track_step, sought_to}
use Rattle.track.proofs.Claims.{claims}
use Rattle.player.specs.Answered.{playing_in, room_in}
use Rattle.script.specs.Scripts.{outcome_in}
use Rattle.script.proofs.Making.{sent-quiet, both-refused, both-accepted, update-refused, update-accepted, playing_at, made-moved, made-updated, made-silent, outcome-unknown}
use Rattle.script.proofs.make.Goals as goal

pub returns-in_err-play-in-0 : goal.returns-in_err-play-in-0
unfolding outcome_in track_step sought_to
returns-in_err-play-in-0 c =
    let a = c.args in
    rw c.in-0.is
    (made-moved a.player.now a.rows.now a.list.now _ (sent-quiet _ _ _ _) (both-refused c.in_err-play-in-0.field-0.0 (search rules) (search rules)) c.play.ensures)

pub returns-in_ok-play-in-0 : goal.returns-in_ok-play-in-0
unfolding outcome_in track_step sought_to
returns-in_ok-play-in-0 c =
    let a = c.args in
    let goes : c.play.result ≡ Ok tt = search rules in
    rw c.in-0.is
    (made-moved a.player.now a.rows.now a.list.now _ (sent-quiet _ _ _ _) (both-accepted goes) c.play.ensures)

pub returns-in-1 : goal.returns-in-1
unfolding outcome_in track_step
returns-in-1 c =
    let a = c.args in
    let p = a.player.now in
    rw c.in-1.is
    (made-silent p a.rows.now a.list.now (record { head = c.pause-player.ensures; spans = refl; marks = refl }) refl refl (ap (playing_at p) c.pause-player.ensures ∙ claims.pause p.head p.spans.starts.now p.spans.durations.now p.marks.now))

pub returns-in-2 : goal.returns-in-2
unfolding outcome_in track_step
returns-in-2 c =
    let a = c.args in
    let p = a.player.now in
    rw c.in-2.is
    (made-silent p a.rows.now a.list.now (record { head = c.resume-player.ensures; spans = refl; marks = refl }) refl refl (ap (playing_at p) c.resume-player.ensures ∙ claims.resume p.head p.spans.starts.now p.spans.durations.now p.marks.now))

pub returns-in_err-reset-in-3 : goal.returns-in_err-reset-in-3
unfolding outcome_in track_step sought_to
returns-in_err-reset-in-3 c =
    let a = c.args in
    rw c.in-3.is
    (made-moved a.player.now a.rows.now a.list.now _ (sent-quiet _ _ _ _) (both-refused c.in_err-reset-in-3.field-0.0 (search rules) (search rules)) c.reset.ensures)

pub returns-in_ok-reset-in-3 : goal.returns-in_ok-reset-in-3
unfolding outcome_in track_step sought_to
returns-in_ok-reset-in-3 c =
    let a = c.args in
    let goes : c.reset.result ≡ Ok tt = search rules in
    rw c.in-3.is
    (made-moved a.player.now a.rows.now a.list.now _ (sent-quiet _ _ _ _) (both-accepted goes) c.reset.ensures)

pub returns-in_err-update-in-4 : goal.returns-in_err-update-in-4
unfolding outcome_in
returns-in_err-update-in-4 c =
    let a = c.args in
    rw c.in-4.is
    (made-updated a.player.now a.rows.now _ (update-refused c.in_err-update-in-4.field-0.0 (search rules) (search rules)) c.update.ensures)

pub returns-in-4 : goal.returns-in-4
unfolding outcome_in
returns-in-4 c =
    let a = c.args in
    let goes : c.update.result ≡ Ok c.in_ok-update-in-4.field-0 = search rules in
    rw c.in-4.is
    (made-updated a.player.now a.rows.now _ (update-accepted goes) c.update.ensures)

pub returns-in_err-seek-in-5 : goal.returns-in_err-seek-in-5
unfolding outcome_in track_step sought_to
returns-in_err-seek-in-5 c =
    let a = c.args in
    rw c.in-5.is
    (made-moved a.player.now a.rows.now a.list.now _ (sent-quiet _ _ _ _) (both-refused c.in_err-seek-in-5.field-0.0 (search rules) (search rules)) c.seek.ensures)

pub returns-in_ok-seek-in-5 : goal.returns-in_ok-seek-in-5
unfolding outcome_in track_step sought_to
returns-in_ok-seek-in-5 c =
    let a = c.args in
    let goes : c.seek.result ≡ Ok tt = search rules in
    rw c.in-5.is
    (made-moved a.player.now a.rows.now a.list.now _ (sent-quiet _ _ _ _) (both-accepted goes) c.seek.ensures)

pub returns-in_err-seek_abs-in-6 : goal.returns-in_err-seek_abs-in-6
unfolding outcome_in track_step sought_to
returns-in_err-seek_abs-in-6 c =
    let a = c.args in
    rw c.in-6.is
    (made-moved a.player.now a.rows.now a.list.now _ (sent-quiet _ _ _ _) (both-refused c.in_err-seek_abs-in-6.field-0.0 (search rules) (search rules)) c.seek_abs.ensures)

pub returns-in_ok-seek_abs-in-6 : goal.returns-in_ok-seek_abs-in-6
unfolding outcome_in track_step sought_to
returns-in_ok-seek_abs-in-6 c =
    let a = c.args in
    let goes : c.seek_abs.result ≡ Ok tt = search rules in
    rw c.in-6.is
    (made-moved a.player.now a.rows.now a.list.now _ (sent-quiet _ _ _ _) (both-accepted goes) c.seek_abs.ensures)

pub returns-in-7 : goal.returns-in-7
unfolding outcome_in track_step
returns-in-7 c =
    let a = c.args in
    let p = a.player.now in
    rw c.in-7.is
    (made-silent p a.rows.now a.list.now (record { head = c.set_time_scale-player.ensures; spans = refl; marks = refl }) refl refl (ap (playing_at p) c.set_time_scale-player.ensures ∙ claims.scale p.head p.spans.starts.now p.spans.durations.now p.marks.now a.x))

pub returns-in_default : goal.returns-in_default
returns-in_default c =
    let a = c.args in
    let p = a.player.now in
    rw (outcome-unknown a.replies.now (length a.list.now) (room_in a.rows.now) (playing_in p) a.byte a.x (omega arith))
    (made-silent p a.rows.now a.list.now {x = Err BadCall} (record { head = refl; spans = refl; marks = refl }) refl refl refl)
