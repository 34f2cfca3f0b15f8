-- The value of a pattern, from its parts. Assumes nothing.
use mathlib.Core.Path.{◌≡◌, refl, sym, ap, subst, ◌∙◌}
use mathlib.Core.Logic.{◌⊎◌, inl, inr}
use mathlib.Core.Bool.{Bool, true, false, not, cond, true≢false}
use Prim.Native.Nat.{ℕ, zero, suc, ◌+◌, ◌-◌, ◌*◌, ◌/◌, ◌%◌, ◌^◌, ◌<◌, ◌≤◌}
use native.Mathlib.Nat.{mul-one}
use native.Mathlib.Omega.{arith}
use borrow.Author.Tests.{ne_eqb, eq-eqb, lt-ltb, le-ltb, ltb-true, ltb-false}
use lib.Dec.{T, leb, ltb, eqb, eqb-suc-zero}
use lib.Pow.{pow-add, pow-lt}
use lib.Ieee.{Float, binary32, prec, low, ones, hid, top, fits, of_fields, of_bits, to_bits}
use lib.Ieee.Exact.{HasValue, odd_sign}
use lib.Ieee.Bits.{of_bits-to_bits}
use Rattle.float32.specs.Helpers.{finite_f}
use Rattle.float32.specs.Parts.{field_of, digits_in, scale_of, unit_pattern}
use Rattle.float32.proofs.Nan.{finite_field}

-- the sizes that make the float of a sign, a field and digits
abbrev digits-by : (field t : ℕ) → ℕ
digits-by field t = cond (eqb field 0) t (hid binary32 + t)

fields-value : (s : Bool) (field t : ℕ) → (field ≡ 255 → ⊥) → HasValue (of_fields binary32 s field t) s (digits-by field t * 2 ^ (field - 1)) (2 ^ low binary32)
unfolding of_fields
fields-value s zero t h = odd_sign (prec binary32) s t 0 (low binary32)
fields-value s (suc e) t h =
    let one : suc e - 1 ≡ e = omega arith in
    rw (eqb-suc-zero e, ne_eqb (suc e) (ones binary32) h, one)
    (odd_sign (prec binary32) s (hid binary32 + t) e (low binary32))

-- of a pattern whose field is not all ones
pub pattern-value : (n : ℕ) → (field_of n ≡ 255 → ⊥) → HasValue (of_bits binary32 n) (leb (top binary32) n) (digits_in n * 2 ^ scale_of n) (2 ^ low binary32)
unfolding of_bits
pattern-value n h = fields-value (leb (top binary32) n) (field_of n) (n % hid binary32) h

-- a finite value's field is not all ones
pub field_not_ones : (x : Float) → T (fits binary32 x) → finite_f x ≡ true → field_of (to_bits binary32 x) ≡ 255 → ⊥
field_not_ones x p h k =
    let e : true ≡ not (eqb (field_of (to_bits binary32 x)) 255) = sym h ∙ finite_field binary32 x p in
    let s : eqb (field_of (to_bits binary32 x)) 255 ≡ true = eq-eqb (field_of (to_bits binary32 x)) 255 k in
    true≢false (e ∙ ap not s)

-- so it has the value of its own pattern
pub own-value : (x : Float) → T (fits binary32 x) → finite_f x ≡ true
    → HasValue x (leb (top binary32) (to_bits binary32 x)) (digits_in (to_bits binary32 x) * 2 ^ scale_of (to_bits binary32 x)) (2 ^ low binary32)
own-value x p h =
    let n = to_bits binary32 x in
    subst (λ (y : Float). HasValue y (leb (top binary32) n) (digits_in n * 2 ^ scale_of n) (2 ^ low binary32)) (of_bits-to_bits binary32 x p) (pattern-value n (field_not_ones x p h))

pub scale-below : (x : Float) → T (fits binary32 x) → finite_f x ≡ true → scale_of (to_bits binary32 x) ≤ 253
scale-below x p h = let no = field_not_ones x p h in omega arith

-- ---- 2 ^ p of the smallest values
split : (p k : ℕ) → (p < k) ⊎ (k ≤ p)
split p k = go (ltb p k) refl
  where
    go : (b : Bool) → ltb p k ≡ b → (p < k) ⊎ (k ≤ p)
    go true e = inl (ltb-true p k e)
    go false e = inr (ltb-false p k e)

unit-sizes : (n p : ℕ) → p ≤ 253 → n % top binary32 ≡ unit_pattern p → n % hid binary32 ≡ unit_pattern p % hid binary32
    → (digits_in n * 2 ^ scale_of n ≡ 2 ^ p) × (field_of n ≡ 255 → ⊥)
unit-sizes n p h a b = elim (split p 23) [
  | inl l ↦
      let u : unit_pattern p ≡ 2 ^ p = rw (lt-ltb p 23 l) in
      let small : 2 ^ p < 8388608 = pow-lt {i = p} {j = 23} l in
      let field : n % 2147483648 / 8388608 ≡ 0 = omega (arith, a, u) in
      let digits : n % 8388608 ≡ 2 ^ p = omega (arith, b, u) in
      (rw (field, digits) (mul-one (2 ^ p)), λ (k : field_of n ≡ 255). omega (arith, field))
  | inr g ↦
      let u : unit_pattern p ≡ (p - 22) * 8388608 = rw (le-ltb p 23 g) in
      let field : n % 2147483648 / 8388608 ≡ suc (p - 23) = omega (arith, a, u) in
      let digits : n % 8388608 ≡ 0 = omega (arith, b, u) in
      let one : suc (p - 23) - 1 ≡ p - 23 = omega arith in
      let sum : 23 + (p - 23) ≡ p = omega arith in
      (rw (field, digits, eqb-suc-zero (p - 23), one) (sym (pow-add 2 23 (p - 23)) ∙ ap (λ (x : ℕ). 2 ^ x) sum), λ (k : field_of n ≡ 255). omega (arith, field))
]

pub unit-value : (n p : ℕ) (s : Bool) → p ≤ 253 → n % top binary32 ≡ unit_pattern p → n % hid binary32 ≡ unit_pattern p % hid binary32 → leb (top binary32) n ≡ s
    → HasValue (of_bits binary32 n) s (2 ^ p) (2 ^ low binary32)
unit-value n p s h a b e =
    let z = unit-sizes n p h a b in
    let v = pattern-value n z.1 in
    subst (λ (s : Bool). HasValue (of_bits binary32 n) s (2 ^ p) (2 ^ low binary32)) e
    (subst (λ (q : ℕ). HasValue (of_bits binary32 n) (leb (top binary32) n) q (2 ^ low binary32)) z.0 v)
