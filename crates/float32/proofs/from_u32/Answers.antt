-- The law `of_int_bits` at binary32, for an integer of 32 bits. Assumes nothing.
use mathlib.Core.Path.{◌≡◌, sym}
use Prim.Native.Nat.{ℕ, ◌+◌, ◌*◌, ◌^◌, ◌<◌, ◌≤◌}
use native.Mathlib.Nat.{le_trans}
use native.Mathlib.Omega.{arith}
use lib.Dec.{lit≤}
use lib.Ieee.{binary32, size, of_bits}
use lib.Ieee.Digits.{size-lt, size-le}
use lib.Ieee.Nearest.{closest}
use Rattle.float32.specs.Helpers.{from_u32}
use Rattle.float32.proofs.Digits.{closest-le}
use Rattle.float32.proofs.Convert.{of_int_bits, of_int_zero, of_int_no_nan}
use Rattle.float32.proofs.from_u32.Goals as goal

-- z is the count of n's digits
module _ (n z : ℕ) (fits : n < 2 ^ 32) (digits : z ≡ size n) where
  known : (n < 2 ^ z) × (z ≤ 32)
  known = rw digits (size-lt n, size-le n 32 fits)

  -- and q is what is kept of them
  assembled : (q : ℕ) → 0 < n → q ≡ closest (n * 2 ^ 24) (2 ^ z) → from_u32 n ≡ of_bits binary32 ((125 + z) * 8388608 + q)
  assembled q p e = rw (e, digits) (of_int_bits binary32 n p (le_trans (size-le n 32 fits) (lit≤ tt)))

pub returns-then-n-eq0 : goal.returns-then-n-eq0
returns-then-n-eq0 c = rw c.if-n-eq0.true (sym (of_int_zero binary32))

pub overflow_add-result : goal.overflow_add-result
overflow_add-result c = omega (arith, (known _ _ c.ranges.n.fits c.size-size.ensures).1)

pub overflow_mul-result : goal.overflow_mul-result
overflow_mul-result c = omega (arith, (known _ _ c.ranges.n.fits c.size-size.ensures).1)

pub significand-requires : goal.significand-requires
significand-requires c = known _ _ c.ranges.n.fits c.size-size.ensures

pub overflow_add-result-2 : goal.overflow_add-result-2
overflow_add-result-2 c =
    let k = known _ _ c.ranges.n.fits c.size-size.ensures in
    omega (arith, k.1, c.significand.ensures, closest-le c.args.n c.size-size.result 24 k.0)

pub float_from_bits-result : goal.float_from_bits-result
float_from_bits-result c =
    of_int_no_nan binary32 c.args.n _
    (assembled _ _ c.ranges.n.fits c.size-size.ensures _ (omega arith) c.significand.ensures)

pub returns : goal.returns
returns c = sym (assembled _ _ c.ranges.n.fits c.size-size.ensures _ (omega arith) c.significand.ensures)
