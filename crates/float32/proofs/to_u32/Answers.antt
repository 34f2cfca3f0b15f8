-- The laws of Cut at 32 bits. Assumes nothing.
use mathlib.Core.Path.{◌∙◌}
use native.Mathlib.Omega.{arith}
use borrow.Author.Rules.{rules}
use lib.Ieee.{of_bits, neg}
use Rattle.float32.proofs.Order.{lt-no_nan, yes, no}
use Rattle.float32.proofs.Cut.{cut_top, cut_zero, cut-pattern, scale-reach}
use Rattle.float32.proofs.to_u32.Goals as goal

pub float_to_bits-x : goal.float_to_bits-x
float_to_bits-x c = no (lt-no_nan _ _ c.if-x.true).1

pub whole-requires : goal.whole-requires
unfolding of_bits neg
whole-requires c = omega (arith, scale-reach 32 _ (search rules) (yes c.if-x.true) (yes c.if-x-2.true), c.of.ensures.scale)

pub returns-then-x-2 : goal.returns-then-x-2
unfolding of_bits neg
returns-then-x-2 c =
    c.whole.ensures ∙ rw (c.of.ensures.digits, c.of.ensures.scale) (cut-pattern 32 _ (search rules) (yes c.if-x.true) (yes c.if-x-2.true))

pub returns-then-x : goal.returns-then-x
unfolding of_bits neg
returns-then-x c = cut_top 32 _ (yes c.if-x.true) (no c.if-x-2.false)

pub returns : goal.returns
unfolding of_bits neg
returns c = cut_zero 32 _ (no c.if-x.false)
