-- What the records so far leave to check: those that are still to come.
use mathlib.Core.Path.{◌≡◌, sym, ◌∙◌}
use native.Mathlib.Omega.{arith}
use borrow.Author.Rules.{rules}
use Rattle.refusal.specs.Refusal.{number, number_in}
use Rattle.sheet_format.specs.Check.{records_at, record_number}
use Rattle.sheet_format.proofs.Chunks.{records_begin, record_bad, record_passed, no_records}
use Rattle.sheet_format.proofs.sheet.Sheet.check_records.Goals as goal

pub loop-record-init : goal.loop-record-init
loop-record-init c =
    let x = c.args.self in
    let made = c.chunks_exact-record-items.ensures in
    let same = c.into_iter-record-iterator.ensures.into_iter_gives in
    record {
      size = rw same made.size;
      left = records_begin x.count (records_at x.count) x.count x.bytes.now _ (rw same made.rest ∙ c.records.ensures) (omega (arith, x.room));
    }

pub returns-in_err-placement : goal.returns-in_err-placement
unfolding record_number
returns-in_err-placement c =
    let steps = c.in-Some.ensures.steps in
    let e : number_in c.from_residual.result ≡ number c.in_err-placement.field-0.0 = search rules in
    let r = rw c.record_in.ensures at c.in_err-placement.ensures.number in
    e ∙ sym (c.loop-record.invariant.left ∙ record_bad _ _ _ steps.1.0 c.args.self.count (steps.1.1 ∙ c.loop-record.invariant.size) c.in_err-placement.field-0.0 r)

pub loop-record-preserved : goal.loop-record-preserved
unfolding record_number
loop-record-preserved c =
    let steps = c.in-Some.ensures.steps in
    let r = rw c.record_in.ensures at c.in_ok-placement.ensures.number in
    record {
      size = steps.0 ∙ c.loop-record.invariant.size;
      left = c.loop-record.invariant.left ∙ record_passed _ _ _ steps.1.0 c.args.self.count (steps.1.1 ∙ c.loop-record.invariant.size) r;
    }

pub returns : goal.returns
returns c =
    let short = rw c.loop-record.invariant.size at c.in-None.ensures.steps.1.0 in
    sym (c.loop-record.invariant.left ∙ no_records _ c.args.self.count short)
