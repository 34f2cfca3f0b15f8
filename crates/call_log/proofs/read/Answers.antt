-- The sheet is cut, or it is refused, or it has its log.
use mathlib.Core.Path.{◌≡◌, refl, sym, ap, ◌∙◌}
use native.Mathlib.Omega.{arith}
use Rattle.std.proofs.Common.{rules, Err, None, Some}
use Rattle.refusal.specs.declared.Refusal.TheVariants.{SheetLength}
use Rattle.refusal.specs.Refusal.{number, number_if}
use Rattle.refusal.proofs.Numbers.{number-above}
use Rattle.track.specs.declared.track.Track.{Track}
use Rattle.sheet.specs.Build.{reading_of, NumberedReading, numbered_reading}
use Rattle.call_log.specs.Logs.{sheet_in, sheet_number, track_in}
use Rattle.call_log.specs.Machine.{new_log}
use Rattle.call_log.proofs.Opening.{number_cut, number-whole, open-refused, open-accepted}
use Rattle.call_log.proofs.read.Goals as goal

pub returns-in_err-sheet : goal.returns-in_err-sheet
returns-in_err-sheet c =
    let s = c.args.input.now in
    let none : c.sheet_in.result ≡ None = search rules in
    let n = number_cut s (rw none at c.sheet_in.ensures.none) in
    let refused : c.from_residual.result ≡ Err SheetLength = search rules in
    let o = open-refused s (λ z. omega (arith, n)) in
    rw (refused, n) (record { number = refl; log = sym o.1 })

pub returns-in-Some : goal.returns-in-Some
returns-in-Some c =
    let s = c.args.input.now in
    let some : c.sheet_in.result ≡ Some c.in_ok-sheet.sheet = search rules in
    let w = rw some at c.sheet_in.ensures.some in
    let r : numbered_reading c.read-reading.result ≡ reading_of (sheet_in s) = c.read-reading.ensures ∙ rw w.1 in
    let n : number c.in-Some.refusal ≡ sheet_number s = sym (ap number_if c.in-Some.is) ∙ ap (λ (q : NumberedReading). q.refusal) r ∙ sym (number-whole s w.0) in
    let o = open-refused s (λ z. omega (arith, n, z, number-above c.in-Some.refusal)) in
    record { number = n; log = sym o.1 }

pub returns-in-None : goal.returns-in-None
returns-in-None c =
    let s = c.args.input.now in
    let some : c.sheet_in.result ≡ Some c.in_ok-sheet.sheet = search rules in
    let w = rw some at c.sheet_in.ensures.some in
    let r : numbered_reading c.read-reading.result ≡ reading_of (sheet_in s) = c.read-reading.ensures ∙ rw w.1 in
    let n : sheet_number s ≡ 0 = number-whole s w.0 ∙ sym (ap (λ (q : NumberedReading). q.refusal) r) ∙ ap number_if c.in-None.is in
    let k : c.read-reading.result.timeline.track ≡ track_in s = ap (λ (q : NumberedReading). q.timeline.track) r in
    record { number = sym n; log = ap (λ (t : Track). Some (new_log t)) k ∙ sym (open-accepted s n).1 }
