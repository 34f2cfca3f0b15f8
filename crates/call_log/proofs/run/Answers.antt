-- Call by call, in place: what is still to come is the batch of the chunks that are left.
use Prim.Native.Nat.{◌+◌, ◌-◌, ◌≤◌, min}
use mathlib.Core.Path.{◌≡◌, refl, ap, ◌∙◌}
use mathlib.Core.Bool.{false}
use native.Mathlib.Omega.{arith}
use lib.ListN.{length, length-append}
use Rattle.std.specs.Slice.Iter.{chunks_rest}
use Rattle.call_log.specs.Lines.{line_size}
use Rattle.call_log.specs.Logs.{call_size}
use Rattle.call_log.specs.Machine.{least_bytes, is_next}
use Rattle.call_log.proofs.Making.{counts}
use Rattle.call_log.proofs.Batches.{no_bytes, none_fits, some_bytes, least_few, then_columns, one_more, no_more}
use Rattle.call_log.proofs.run.Goals.{then-call-least-via-then-call-least, then-call-least-via-else-call-least+then-out-len-lt-LINE}
use Rattle.call_log.proofs.run.Goals as goal

pub loop-call-preserved : goal.loop-call-preserved
loop-call-preserved c =
    let args = c.args in
    let loop = c.loop-call in
    let inv = loop.invariant in
    let steps = c.in-Some.ensures.steps in
    let rest = chunks_rest loop.call-iterator in
    let size : length c.in-Some.call.now ≡ min call_size (length rest) = rw inv.size at steps.1.1 in
    let there : least_bytes args.ended ≤ length rest = omega (arith, c.least_bytes-least.ensures, c.if-call-least.false) in
    let same = loop.auto.out in
    let room : line_size ≤ length args.out.now - loop.len = omega (arith, c.if-out-len-lt-LINE.false) in
    let few : loop.len + c.next-len.result ≤ length args.out.now = omega (arith, c.next-len.ensures.few) in
    record {
      size = steps.0 ∙ inv.size;
      used = omega (arith, inv.used, ap length steps.1.0, length-append c.in-Some.call.now (chunks_rest c.next.new.self));
      number = omega (arith, c.saturating_add-number.ensures);
      len = few;
      so_far = one_more _ _ _ _ _ _ _ _ _ inv.so_far _ _ _ _ _ _ _ refl (counts loop.number inv.number c.saturating_add-number.ensures) steps.1.0 size there room c.next-len.ensures few;
      columns = then_columns inv.columns c.next-len.ensures.columns;
    }

pub returns-in-None : goal.returns-in-None
returns-in-None c =
    let inv = c.loop-call.invariant in
    let over = no_bytes c.args.ended (chunks_rest c.loop-call.call-iterator) (length c.args.out.now - c.loop-call.len) (omega (arith, some_bytes c.args.ended, c.in-None.ensures.steps.1.0)) in
    no_more _ _ _ _ _ _ _ _ _ inv.so_far _ _ _ refl over inv.columns

pub returns-then-call-least : goal.returns-then-call-least
returns-then-call-least c =
    let loop = c.loop-call in
    let inv = loop.invariant in
    let steps = c.in-Some.ensures.steps in
    let rest = chunks_rest loop.call-iterator in
    let size : length c.in-Some.call.now ≡ min call_size (length rest) = rw inv.size at steps.1.1 in
    let over : is_next c.args.ended rest (length c.args.out.now - loop.len) ≡ false =
    elim c.then-call-least.branch [
      | then-call-least-via-then-call-least w ↦ no_bytes c.args.ended rest (length c.args.out.now - loop.len) (omega (arith, w.if-call-least.true, c.least_bytes-least.ensures, least_few c.args.ended))
      | then-call-least-via-else-call-least+then-out-len-lt-LINE w ↦ none_fits c.args.ended rest (length c.args.out.now - loop.len) (omega (arith, w.if-out-len-lt-LINE.true, loop.auto.out))
    ] in
    no_more _ _ _ _ _ _ _ _ _ inv.so_far _ _ _ refl over inv.columns
