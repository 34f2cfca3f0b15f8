-- What the pairs so far leave to check: those that are still to come, the first of which has to start at this offset.
use mathlib.Core.Path.{◌≡◌, sym, ap, ◌∙◌}
use Prim.Native.Nat.{◌*◌}
use native.Mathlib.Omega.{arith}
use borrow.Author.Tests.{eq-eqb, ne_eqb}
use lib.ListN.{take, drop, length-take}
use Rattle.std.specs.Slice.Iter.{chunks_exact_rest}
use Rattle.words.specs.declared.Pair.{Pair}
use Rattle.words.specs.Pairs.{pair_size}
use Rattle.sheet_rules.specs.Rules.{header_size}
use Rattle.sheet_format.proofs.Accepted.{pair-good}
use Rattle.sheet_format.proofs.Chunks.{pairs_begin, pairs_left, pair_bad, pair_passed, no_pairs}
use Rattle.sheet_format.proofs.sheet.Sheet.check_pairs.Goals as goal

pub loop-pair-init : goal.loop-pair-init
loop-pair-init c =
    let x = c.args.self in
    let made = c.chunks_exact-pair-items.ensures in
    let same = c.into_iter-pair-iterator.ensures.into_iter_gives in
    let rest : chunks_exact_rest c.into_iter-pair-iterator.result ≡ take (pair_size * x.count) (drop header_size x.bytes.now) = rw same made.rest ∙ c.pairs.ensures in
    record {
      size = rw same made.size;
      near = rw (c.labels_at-offset.ensures, rest) (omega (arith, length-take (pair_size * x.count) (drop header_size x.bytes.now)));
      left = rw c.labels_at-offset.ensures (pairs_begin x.count header_size _ _ x.bytes.now _ rest (omega (arith, x.room)));
    }

pub returns-then-not-pair_fits : goal.returns-then-not-pair_fits
returns-then-not-pair_fits c =
    let steps = c.in-Some.ensures.steps in
    let bad = sym (rw c.pair_at-pair.ensures at c.pair_fits.ensures) ∙ c.if-not-pair_fits.true in
    sym (c.loop-pair.invariant.left ∙ pair_bad _ _ _ steps.1.0 (steps.1.1 ∙ c.loop-pair.invariant.size) _ _ bad)

pub loop-pair-preserved : goal.loop-pair-preserved
loop-pair-preserved c =
    let steps = c.in-Some.ensures.steps in
    let good = sym (rw c.pair_at-pair.ensures at c.pair_fits.ensures) ∙ c.if-not-pair_fits.false in
    let len = ap (λ (p : Pair). p.len) c.pair_at-pair.ensures in
    let size = steps.1.1 ∙ c.loop-pair.invariant.size in
    let turn = pairs_left _ _ _ steps.1.0 size in
    record {
      size = steps.0 ∙ c.loop-pair.invariant.size;
      near = omega (arith, len, (pair-good _ _ good).1);
      left = c.loop-pair.invariant.left ∙ pair_passed _ _ _ steps.1.0 size _ _ good ∙ rw len;
    }

pub returns-then-offset-self : goal.returns-then-offset-self
returns-then-offset-self c =
    let short = rw c.loop-pair.invariant.size at c.in-None.ensures.steps.1.0 in
    sym (c.loop-pair.invariant.left ∙ no_pairs _ _ _ short ∙ rw (ne_eqb _ _ c.if-offset-self.true))

pub returns : goal.returns
returns c =
    let short = rw c.loop-pair.invariant.size at c.in-None.ensures.steps.1.0 in
    sym (c.loop-pair.invariant.left ∙ no_pairs _ _ _ short ∙ rw (eq-eqb _ _ c.if-offset-self.false))
