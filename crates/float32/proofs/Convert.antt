-- Integers as floats: the bit pattern of an integer rounded to nearest, for both formats and integers of any size. Assumes nothing.
use mathlib.Core.Path.{◌≡◌, refl, sym, ap, ap₂, ◌∙◌}
use mathlib.Core.Logic.{inl, inr}
use mathlib.Core.Bool.{false, true, not}
use Prim.Native.Nat.{ℕ, suc, ◌+◌, ◌-◌, ◌*◌, ◌/◌, ◌^◌, ◌<◌, ◌≤◌}
use native.Mathlib.Nat.{le_of_eq, lt_of_le_of_lt, eq-or-lt_of_le, lt-suc_self, zero-lt-suc, suc-add, suc-mul, zero-add, one-mul, mul-le-mul_right, two-pow-succ, div-one}
use native.Mathlib.Omega.{arith}
use lib.Dec.{T}
use lib.Pow.{pow-add, pow_pos, pow-lt, shl-shr}
use lib.IntN.{pos}
use lib.Ieee.{Float, Format, binary32, binary64, prec, emax, low, hid, size, round, of_int, of_bits, nan_bits, fits, le}
use lib.Ieee.Digits.{back}
use lib.Ieee.Fits.{round-fits}
use lib.Ieee.Bits.{is_true, nan_bits_is}
use lib.Ieee.Exact.{HasValue}
use lib.Ieee.Nearest.{closest}
use lib.Ieee.Order.{drop, kept, round_mono}
use lib.Ieee.Scale.{grid, overflow, round_val}
use Rattle.float32.specs.Helpers.{nonneg_f}
use Rattle.float32.proofs.Digits.{leading, size-shift, powers, closest-scale, closest-le, closest-ge}
use Rattle.float32.proofs.Nonneg.{round-nonneg, nonneg_no_nan}
use Rattle.float32.proofs.Value.{pattern, value_is}

-- ---- the pattern of q * 2 ^ j units, q having p digits, or being the 2 ^ p of a carry, which moves into the field
units_pattern : (p h q j : ℕ) → p ≡ suc h → 2 ^ h ≤ q → q ≤ 2 ^ p → (size (q * 2 ^ j) - p) * 2 ^ h + q * 2 ^ j / 2 ^ (size (q * 2 ^ j) - p) ≡ j * 2 ^ h + q
units_pattern p h q j e lo hi = elim (eq-or-lt_of_le hi) [
  | inl c ↦
      let k : size (q * 2 ^ j) - p ≡ suc j = less p j _ (size-shift q p j (le_of_eq (sym c)) (lt_of_le_of_lt hi (pow-lt (lt-suc_self p)))) in
      let w : q * 2 ^ j ≡ 2 ^ h * 2 ^ suc j = ap (λ (x : ℕ). x * 2 ^ j) c ∙ powers p j h (suc j) (omega arith) in
      rw (k, w, shl-shr) (carried (2 ^ h) (c ∙ ap (λ (x : ℕ). 2 ^ x) e ∙ two-pow-succ h) (suc-mul j (2 ^ h)))
  | inr l ↦ rw (all _ (size-shift q h j lo (rw e at l)), shl-shr)
]
  where
    less : (p j s : ℕ) → s ≡ suc (p + j) → s - p ≡ suc j
    less p j s e = omega arith

    all : (s : ℕ) → s ≡ suc (h + j) → s - p ≡ j
    all s d = omega arith

    carried : (x : ℕ) → q ≡ x + x → suc j * x ≡ j * x + x → suc j * x + x ≡ j * x + q
    carried x e m = omega arith

-- the leading digit is one of the format's digits
lead : (f : Format) → prec f ≡ suc (prec f - 1)
lead binary32 = refl
lead binary64 = refl

pattern_units : (f : Format) (q j : ℕ) → hid f ≤ q → q ≤ 2 ^ prec f → pattern f false (q * 2 ^ j) (2 ^ low f) ≡ j * hid f + q
unfolding pattern
pattern_units f q j lo hi =
    ap (λ (n : ℕ). 0 + (size n - prec f) * hid f + n / 2 ^ (size n - prec f)) (shl-shr (q * 2 ^ j) (low f))
    ∙ rw zero-add (units_pattern (prec f) (prec f - 1) q j (lead f) lo hi)

-- a value of q * 2 ^ j units, for such a q, is that of the pattern j * hid + q
pub units_bits : (f : Format) (x : Float) (q j : ℕ) → T (fits f x) → hid f ≤ q → q ≤ 2 ^ prec f → HasValue x false (q * 2 ^ j) (2 ^ low f) → x ≡ of_bits f (j * hid f + q)
units_bits f x q j p lo hi v =
    value_is f x false (q * 2 ^ j) (2 ^ low f) (pow_pos (low f)) p v ∙ ap (of_bits f) (pattern_units f q j lo hi)

-- ---- an integer n of z + 1 binary digits, rounded
module _ (f : Format) (n z : ℕ) (lo : 2 ^ z ≤ n) (hi : n < 2 ^ suc z) where
  -- in units it has z + 1 + low digits, of which prec are kept
  int-drop : drop (prec f) (n * 2 ^ low f) 1 ≡ suc z + low f - prec f
  int-drop = rw div-one (ap (λ (x : ℕ). x - prec f) (size-shift n z (low f) lo hi ∙ sym (suc-add z (low f))))

  int-all : suc z + low f - prec f + prec f ≡ suc z + low f
  int-all = back (suc z + low f) (prec f) (enough f)
    where
      enough : (f : Format) → prec f ≤ suc z + low f
      enough binary32 = omega arith
      enough binary64 = omega arith

  int-kept : kept (prec f) (n * 2 ^ low f) 1 ≡ closest (n * 2 ^ prec f) (2 ^ suc z)
  int-kept =
      let j = suc z + low f - prec f in
      ap (λ (k : ℕ). closest (n * 2 ^ low f) (1 * 2 ^ k)) int-drop
      ∙ rw (one-mul (2 ^ j)) (closest-scale n (low f) j (prec f) (suc z) (omega (arith, int-all)))

  int-grid : grid f n 1 ≡ closest (n * 2 ^ prec f) (2 ^ suc z) * 2 ^ (suc z + low f - prec f)
  int-grid = ap₂ (λ (a b : ℕ). a * 2 ^ b) int-kept int-drop

  int-value : suc z ≤ emax f → HasValue (round f false n 1) false (grid f n 1) (2 ^ low f)
  int-value small =
      let j = suc z + low f - prec f in
      round_val f n 1 (rw int-grid (lt_of_le_of_lt (mul-le-mul_right (2 ^ j) (closest-le n (suc z) (prec f) hi)) (room j int-all)))
    where
      room : (j : ℕ) → j + prec f ≡ suc z + low f → 2 ^ prec f * 2 ^ j < overflow f
      room j e = lt_of_le_of_lt (le_of_eq (sym (pow-add 2 (prec f) j))) (pow-lt (omega arith))

  int-bits : suc z ≤ emax f → round f false n 1 ≡ of_bits f ((suc z + low f - prec f) * hid f + closest (n * 2 ^ prec f) (2 ^ suc z))
  int-bits small =
      units_bits f (round f false n 1) (closest (n * 2 ^ prec f) (2 ^ suc z)) (suc z + low f - prec f) (round-fits f false n 1)
      (closest-ge n z (prec f) (prec f - 1) (lead f) lo) (closest-le n (suc z) (prec f) hi) (rw int-grid at (int-value small))

-- an integer above 0, rounded: prec of its digits, below a field that says how many it has
pub of_int_bits : (f : Format) (n : ℕ) → 0 < n → size n ≤ emax f → of_int f (pos n) ≡ of_bits f ((low f - prec f + size n) * hid f + closest (n * 2 ^ prec f) (2 ^ size n))
unfolding of_int
of_int_bits f n h small =
    let z = leading n h in
    rw (z.1, field f (suc z.0)) (int-bits f n z.0 z.2 z.3 (rw z.1 at small))
  where
    field : (f : Format) (z : ℕ) → low f - prec f + z ≡ z + low f - prec f
    field binary32 z = omega arith
    field binary64 z = omega arith

-- and its value is what is kept of it, in units of the smallest value
pub of_int_value : (f : Format) (n : ℕ) → 0 < n → size n ≤ emax f → HasValue (of_int f (pos n)) false (grid f n 1) (2 ^ low f)
unfolding of_int
of_int_value f n h small = let z = leading n h in int-value f n z.0 z.2 z.3 (rw z.1 at small)

-- 0 has the pattern 0
pub of_int_zero : (f : Format) → of_int f (pos 0) ≡ of_bits f 0
unfolding of_int of_bits
of_int_zero binary32 = refl
of_int_zero binary64 = refl

-- an integer's float is no NaN and not below zero
pub of_int_nonneg : (f : Format) (n : ℕ) → nonneg_f (of_int f (pos n)) ≡ true
unfolding of_int
of_int_nonneg f n = round-nonneg f n 1

-- so its pattern is no NaN's
pub of_int_no_nan : (f : Format) (n b : ℕ) → of_int f (pos n) ≡ of_bits f b → T (not (nan_bits f b))
of_int_no_nan f n b e = rw (nan_bits_is f b, ← e, nonneg_no_nan (of_int f (pos n)) (of_int_nonneg f n)) tt

-- a larger integer's float is no smaller
pub of_int_mono : (f : Format) (m n : ℕ) → m ≤ n → le (of_int f (pos m)) (of_int f (pos n)) ≡ true
unfolding of_int
of_int_mono f m n h = is_true (le (round f false m 1) (round f false n 1)) (round_mono f m 1 n 1 (zero-lt-suc 0) (zero-lt-suc 0) (mul-le-mul_right 1 h))
