-- `note`: a mark that stays is not newly done; one that changes is, where it is done now.
use mathlib.Core.Path.{◌≡◌, refl, sym, ap, ◌∙◌}
use mathlib.Core.Bool.{Bool, true, false, not, ◌&&◌, beq, true≢false, false≢true}
use native.Mathlib.Omega.{arith}
use lib.ListN.{set}
use lib.Seq.{set-get_or}
use Rattle.player.proofs.entries.note.Goals as goal

alike : (d w : Bool) → beq d w ≡ true → ((not w && d) ≡ false) × (d ≡ w)
alike true true e = (refl, refl)
alike true false e = absurd (false≢true e)
alike false true e = absurd (false≢true e)
alike false false e = (refl, refl)

unlike : (d w : Bool) → beq d w ≡ false → (not w && d) ≡ d
unlike true true e = absurd (true≢false e)
unlike true false e = refl
unlike false true e = refl
unlike false false e = absurd (true≢false e)

pub returns-then-done-was : goal.returns-then-done-was
returns-then-done-was c =
    let g = c.args in
    let same = alike g.done g.was c.if-done-was.true in
    let stays = ap (set g.marks.now g.i) (same.1 ∙ sym c.requires.2) ∙ set-get_or g.marks.now g.i false in
    (rw same.0 (omega arith), rw same.0, sym stays)

pub bounds-marks-i : goal.bounds-marks-i
bounds-marks-i c = c.requires.1

pub bounds-list-at : goal.bounds-list-at
bounds-list-at c =
    let g = c.args in
    let newly = unlike g.done g.was c.if-done-was.false ∙ c.if-done.true in
    omega (arith, rw newly at c.requires.3)

pub returns-then-done : goal.returns-then-done
returns-then-done c =
    let g = c.args in
    let newly = unlike g.done g.was c.if-done-was.false ∙ c.if-done.true in
    (rw newly, rw newly, refl)

pub returns : goal.returns
returns c =
    let g = c.args in
    let newly = unlike g.done g.was c.if-done-was.false ∙ c.if-done.false in
    (rw newly (omega arith), rw newly, refl)
