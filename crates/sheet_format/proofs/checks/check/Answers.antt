-- Header, pairs and records in turn.
use mathlib.Core.Path.{◌≡◌, ◌∙◌}
use borrow.Author.Rules.{rules}
use Rattle.refusal.specs.Refusal.{number, number_in}
use Rattle.sheet_format.specs.Check.{check_number}
use Rattle.refusal.proofs.Numbers.{refused}
use Rattle.sheet_format.proofs.InTurn.{pairs_refused, records_told}
use Rattle.sheet_format.proofs.checks.check.Goals as goal

pub returns-in_err-sheet : goal.returns-in_err-sheet
unfolding check_number
returns-in_err-sheet c =
    let e : number_in c.from_residual.result ≡ number c.in_err-sheet.field-0.0 = search rules in
    e ∙ rw (← c.in_err-sheet.ensures.number, refused c.in_err-sheet.field-0.0)

pub returns-in_err-check_pairs : goal.returns-in_err-check_pairs
returns-in_err-check_pairs c =
    let x = c.in_ok-sheet in
    let e : number_in c.from_residual-in_err-check_pairs.result ≡ number c.in_err-check_pairs.field-0.0 = search rules in
    e ∙ pairs_refused c.args.sheet.now x.sheet.bytes.now x.sheet.count x.ensures.same x.sheet.counted x.ensures.number c.in_err-check_pairs.field-0.0 c.in_err-check_pairs.ensures

pub returns : goal.returns
returns c =
    let x = c.in_ok-sheet in
    records_told c.args.sheet.now x.sheet.bytes.now x.sheet.count x.ensures.same x.sheet.counted x.ensures.number _ c.in_ok-check_pairs.ensures c.check_records.ensures
