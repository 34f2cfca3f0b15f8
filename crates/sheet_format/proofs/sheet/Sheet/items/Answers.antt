-- What the records so far leave to check; the slots up to i hold the entries that were read, and the others are blank.
use Prim.Native.Nat.{◌+◌, ◌*◌}
use mathlib.Core.Path.{◌≡◌, sym, ◌∙◌}
use native.Mathlib.Omega.{arith}
use borrow.Author.Rules.{rules}
use Rattle.refusal.specs.Refusal.{number, number_in}
use Rattle.words.specs.Pairs.{pair_size}
use Rattle.sheet_rules.specs.Rules.{header_size, record_size}
use Rattle.sheet_format.specs.Check.{records_at}
use Rattle.sheet_format.proofs.Filling.{one-filled, all-filled}
use Rattle.sheet_format.proofs.Turns.{records-bad, records-more, records-end, items_more, items-end}
use Rattle.sheet_format.proofs.sheet.Sheet.items.Goals as goal

pub loop-i-preserved : goal.loop-i-preserved
loop-i-preserved c =
    let n = c.args.self.count in
    let s = c.args.self.bytes.now in
    let i = c.loop-i.i in
    let pair = header_size + pair_size * i in
    let at = records_at n + record_size * i in
    let next = records_at n + record_size * (i + 1) in
    let more = rw (items_more n i s pair at (header_size + pair_size * (i + 1)) next (omega arith) (omega arith) (omega arith)) at c.loop-i.invariant.filled in
    record {
      left = c.loop-i.invariant.left ∙ records-more n i n at s next (omega arith) (omega arith) c.in_ok-items.ensures.number;
      filled = rw c.in_ok-items.ensures.value (one-filled _ _ _ _ _ _ _ (omega arith) more);
    }

pub returns-in_err-items-clause-number : goal.returns-in_err-items-clause-number
returns-in_err-items-clause-number c =
    let n = c.args.self.count in
    let i = c.loop-i.i in
    let e : number_in c.from_residual.result ≡ number c.in_err-items.field-0.0 = search rules in
    e ∙ sym (c.loop-i.invariant.left ∙ records-bad n i n (records_at n + record_size * i) c.args.self.bytes.now c.in_err-items.field-0.0 (omega arith) c.in_err-items.ensures.number)

pub returns-clause-number : goal.returns-clause-number
returns-clause-number c =
    let n = c.args.self.count in
    sym (c.loop-i.invariant.left ∙ records-end n c.loop-i.i n _ c.args.self.bytes.now (omega arith))

pub returns-clause-value : goal.returns-clause-value
returns-clause-value c =
    let n = c.args.self.count in
    let e : c.loop-i.i ≡ n = omega arith in
    let filled = rw (items-end n c.loop-i.i c.args.self.bytes.now _ _ (omega arith)) at c.loop-i.invariant.filled in
    all-filled _ _ _ c.loop-i.i c.loop-i.items filled ∙ rw e
