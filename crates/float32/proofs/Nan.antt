-- The tests for a NaN and for a finite value, by comparison and from the bits. Assumes nothing.
use mathlib.Core.Path.{◌≡◌, refl, sym, ap, ◌∙◌, subst}
use mathlib.Core.Bool.{not-not, Bool, true, false, not, cond}
use Prim.Native.Nat.{ℕ, zero, suc, ◌+◌, ◌/◌, ◌%◌}
use lib.Dec.{T, leb, eqb}
use lib.Ieee.{Float, nan, inf, fin, Format, ne, is_nan, odd, of_fields, of_bits, prec, low, ones, hid, top, fits, to_bits, binary32, binary64}
use lib.Ieee.Bits.{of_bits-to_bits}
use Rattle.float32.specs.Helpers.{finite_f}
use Rattle.float32.proofs.Order.{eq_self}

-- `x != x` says whether x is a NaN
pub ne_self : (x : Float) → ne x x ≡ is_nan x
unfolding ne
ne_self x = ap not (eq_self x) ∙ not-not (is_nan x)

odd_finite : (d : ℕ) (s : Bool) (q k l : ℕ) → finite_f (odd d s q k l) ≡ true
unfolding odd
odd_finite d s zero k l = refl
odd_finite d s (suc q) k l = refl

zero_field : (f : Format) → true ≡ not (eqb 0 (ones f))
zero_field binary32 = refl
zero_field binary64 = refl

fields_finite : (f : Format) (s : Bool) (x t : ℕ) → finite_f (of_fields f s x t) ≡ not (eqb x (ones f))
unfolding of_fields
fields_finite f s zero t = odd_finite (prec f) s t 0 (low f) ∙ zero_field f
fields_finite f s (suc x) t = go (eqb (suc x) (ones f)) (eqb t 0)
  where
    go : (b z : Bool) → finite_f (cond b (cond z (inf s) nan) (odd (prec f) s (hid f + t) x (low f))) ≡ not b
    go true true = refl
    go true false = refl
    go false z = odd_finite (prec f) s (hid f + t) x (low f)

-- the exponent's field of x's pattern is all ones exactly where x is not finite
pub finite_field : (f : Format) (x : Float) → T (fits f x) → finite_f x ≡ not (eqb (to_bits f x % top f / hid f) (ones f))
unfolding of_bits
finite_field f x h = ap finite_f (sym (of_bits-to_bits f x h)) ∙ fields_finite f (leb (top f) (to_bits f x)) (to_bits f x % top f / hid f) (to_bits f x % hid f)

-- a NaN is not finite
pub finite_nan : (x : Float) → is_nan x ≡ true → finite_f x ≡ false
unfolding is_nan
finite_nan nan e = refl
finite_nan (inf s) e = refl
finite_nan (fin s m e) p = sym p

-- a finite value is no NaN
pub finite_no_nan : (x : Float) → finite_f x ≡ true → is_nan x ≡ false
unfolding is_nan
finite_no_nan nan h = sym h
finite_no_nan (inf s) h = refl
finite_no_nan (fin s m e) h = refl

-- the test `x != x` failed
pub no_nan : (x : Float) → ne x x ≡ false → T (not (is_nan x))
no_nan x e = subst (λ (b : Bool). T (not b)) (sym (sym (ne_self x) ∙ e)) tt
