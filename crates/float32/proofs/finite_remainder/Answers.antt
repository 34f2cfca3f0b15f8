-- The law `remainder-value`, of the parts of the two patterns. Assumes nothing.
use Prim.Native.Nat.{◌*◌, ◌^◌, ◌<◌}
use mathlib.Core.Path.{◌≡◌}
use native.Mathlib.Nat.{mul-pos, zero-mul, le_of_lt}
use native.Mathlib.Omega.{arith}
use borrow.Author.Rules.{rules}
use lib.Dec.{leb, lit≤}
use lib.Pow.{pow_pos}
use lib.Ieee.{binary32, low, top, div, of_bits, to_bits}
use lib.Ieee.Exact.{HasValue}
use Rattle.float32.proofs.Nan.{finite_no_nan}
use Rattle.float32.proofs.Order.{no}
use Rattle.float32.proofs.Patterns.{own-value, scale-below}
use Rattle.float32.proofs.Rest.{rem-none, remainder-value}
use Rattle.float32.proofs.finite_remainder.Goals as goal

pub float_to_bits-pattern : goal.float_to_bits-pattern
float_to_bits-pattern c = no (finite_no_nan c.args.x c.requires.0)

pub float_to_bits-y : goal.float_to_bits-y
float_to_bits-y c = no (finite_no_nan c.args.y c.requires.1)

pub returns-in_default : goal.returns-in_default
unfolding div of_bits
returns-in_default c =
    let d = c.of.result in
    let zero : d.digits ≡ 0 = (rw c.in_default.is at c.divisor.ensures.zero) in
    let v = own-value c.args.x (search rules) c.requires.0 in
    let w : HasValue c.args.y (leb (top binary32) (to_bits binary32 c.args.y)) (d.digits * 2 ^ d.scale) (2 ^ low binary32) =
    rw (c.of.ensures.digits, c.of.ensures.scale) (own-value c.args.y (search rules) c.requires.1) in
    rem-none binary32 c.args.x c.args.y _ _ _ (2 ^ low binary32) (lit≤ tt) v (rw (zero, zero-mul (2 ^ d.scale)) at w)

pub unit_of-requires : goal.unit_of-requires
unit_of-requires c =
    let s = scale-below c.args.x (search rules) c.requires.0 in
    let e = c.of-2.ensures.scale in
    let l = c.rest-rest.ensures.scale in
    omega (arith, s, e, l)

pub returns : goal.returns
returns c =
    let q = c.of-2.result in
    let d = c.in-Some.divisor in
    let same : d.size ≡ c.of.result = rw c.in-Some.is at c.divisor.ensures.size in
    let v : HasValue c.args.x c.is_negative.result (q.digits * 2 ^ q.scale) (2 ^ low binary32) =
    rw (c.is_negative.ensures, c.of-2.ensures.digits, c.of-2.ensures.scale) (own-value c.args.x (search rules) c.requires.0) in
    let w : HasValue c.args.y (leb (top binary32) (to_bits binary32 c.args.y)) (d.size.digits * 2 ^ d.size.scale) (2 ^ low binary32) =
    rw (same, c.of.ensures.digits, c.of.ensures.scale) (own-value c.args.y (search rules) c.requires.1) in
    let above : 0 < d.size.digits * 2 ^ d.size.scale = mul-pos d.positive (pow_pos d.size.scale) in
    rw c.from_u32.ensures
    (remainder-value c.args.x c.args.y c.unit_of.result _ _ _ _ c.rest-rest.result.digits _ above (le_of_lt c.rest-rest.result.fits) v w c.unit_of.ensures c.rest-rest.ensures.value)
