-- Header, pairs and records in turn; then the parts of the description.
use mathlib.Core.Path.{◌≡◌, ◌∙◌}
use borrow.Author.Rules.{rules}
use Rattle.refusal.specs.Refusal.{number, number_in}
use Rattle.sheet_format.specs.Check.{check_number}
use Rattle.sheet_format.specs.Descriptions.{description_in}
use Rattle.refusal.proofs.Numbers.{refused}
use Rattle.sheet_format.proofs.InTurn.{pairs_refused, records_told}
use Rattle.sheet_format.proofs.description.Description.read.Goals as goal

pub returns-in_err-sheet-clause-number : goal.returns-in_err-sheet-clause-number
unfolding check_number
returns-in_err-sheet-clause-number c =
    let e : number_in c.from_residual.result ≡ number c.in_err-sheet.field-0.0 = search rules in
    e ∙ rw (← c.in_err-sheet.ensures.number, refused c.in_err-sheet.field-0.0)

pub returns-in_err-check_pairs-clause-number : goal.returns-in_err-check_pairs-clause-number
returns-in_err-check_pairs-clause-number c =
    let x = c.in_ok-sheet in
    let e : number_in c.from_residual-in_err-check_pairs.result ≡ number c.in_err-check_pairs.field-0.0 = search rules in
    e ∙ pairs_refused c.args.sheet.now x.sheet.bytes.now x.sheet.count x.ensures.same x.sheet.counted x.ensures.number c.in_err-check_pairs.field-0.0 c.in_err-check_pairs.ensures

pub returns-in_err-items-clause-number : goal.returns-in_err-items-clause-number
returns-in_err-items-clause-number c =
    let x = c.in_ok-sheet in
    let e : number_in c.from_residual-in_err-items.result ≡ number c.in_err-items.field-0.0 = search rules in
    e ∙ records_told c.args.sheet.now x.sheet.bytes.now x.sheet.count x.ensures.same x.sheet.counted x.ensures.number _ c.in_ok-check_pairs.ensures c.in_err-items.ensures.number

pub returns-clause-number : goal.returns-clause-number
returns-clause-number c =
    let x = c.in_ok-sheet in
    records_told c.args.sheet.now x.sheet.bytes.now x.sheet.count x.ensures.same x.sheet.counted x.ensures.number _ c.in_ok-check_pairs.ensures c.in_ok-items.ensures.number

pub returns-clause-value : goal.returns-clause-value
unfolding description_in
returns-clause-value c =
    let x = c.in_ok-sheet in
    let same = x.ensures.same in
    let counted = rw same at x.sheet.counted in
    let items = rw (same, counted) at c.in_ok-items.ensures.value in
    let scale = rw same at c.u32_at.ensures in
    rw (items, x.ensures.looping, scale, counted)
