-- A pair and a record, at their offsets.
use Prim.Native.Nat.{◌+◌, ◌*◌}
use mathlib.Core.Path.{◌≡◌, ap, ◌∙◌}
use borrow.Author.Rules.{rules}
use lib.ListN.{drop}
use Rattle.std.proofs.lemmas.List.{take_rest}
use Rattle.refusal.specs.Refusal.{number, number_in}
use Rattle.label.specs.Label.{label_of}
use Rattle.sheet_rules.specs.Rules.{record_size}
use Rattle.sheet_format.specs.Check.{records_at, duration_in, record_number}
use Rattle.sheet_format.proofs.sheet.Sheet.item.Goals as goal

pub returns-in_err-at-clause-number : goal.returns-in_err-at-clause-number
unfolding record_number
returns-in_err-at-clause-number c =
    let e : number_in c.from_residual.result ≡ number c.in_err-at.field-0.0 = search rules in
    let said = simp (take_rest, c.records_at.ensures) at c.record_in.ensures in
    let r = rw said at c.in_err-at.ensures.number in
    ◌∙◌ {c = record_number c.args.self.count (drop (records_at c.args.self.count + record_size * c.args.i) c.args.self.bytes.now)} e r

pub returns-clause-number : goal.returns-clause-number
unfolding record_number
returns-clause-number c =
    let said = simp (take_rest, c.records_at.ensures) at c.record_in.ensures in
    rw said at c.in_ok-at.ensures.number

pub returns-clause-value : goal.returns-clause-value
returns-clause-value c =
    let s = c.args.self.bytes.now in
    let at = records_at c.args.self.count + record_size * c.args.i in
    let said = simp (take_rest, c.records_at.ensures) at c.record_in.ensures in
    let placement = rw said at c.in_ok-at.ensures.value in
    let duration : c.u32_at.result ≡ duration_in (drop at s) = simp (take_rest, c.records_at.ensures) at c.u32_at.ensures in
    let label = c.new.ensures ∙ ap label_of c.part_at.ensures in
    cc
