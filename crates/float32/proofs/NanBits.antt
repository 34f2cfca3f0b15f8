-- A NaN has one value, and in each format one pattern stands for it. Assumes nothing.
use mathlib.Core.Path.{◌≡◌, refl, sym, ap, ◌∙◌, subst}
use mathlib.Core.Bool.{true, Bool, not}
use Prim.Native.Nat.{ℕ, ◌+◌, ◌*◌, ◌/◌, ◌%◌, ◌<◌, ◌≤◌}
use lib.Ieee.{Float, nan, inf, fin, Format, hid, ones, top, is_nan, of_bits, to_bits, nan_bits}
use lib.Ieee.Bits.{nan_bits_is, nan_bits_above}
use lib.Dec.{T}
use borrow.Author.Tests.{lt-ltb, le-ltb}

-- the only value for which `is_nan` holds
pub only_nan : (x : Float) → is_nan x ≡ true → nan ≡ x
unfolding is_nan
only_nan nan e = refl
only_nan (inf s) e = cc
only_nan (fin s m k) e = cc

-- the pattern that stands for it: the exponent's field all ones, and only the highest digit set
pub nan_bits_lem : (f : Format) (x : Float) → is_nan x ≡ true → ones f * hid f + hid f / 2 ≡ to_bits f x
unfolding to_bits
nan_bits_lem f x e = ap (to_bits f) (only_nan x e)

-- a pattern whose digits and exponent's field are above those of infinity is a NaN's, and no other is
pub nan_above : (f : Format) (n : ℕ) → ones f * hid f < n % top f → nan ≡ of_bits f n
nan_above f n h = only_nan (of_bits f n) (sym (nan_bits_is f n) ∙ nan_bits_above f n ∙ lt-ltb _ _ h)

pub no_nan_upto : (f : Format) (n : ℕ) → n % top f ≤ ones f * hid f → T (not (nan_bits f n))
no_nan_upto f n h = subst (λ (b : Bool). T (not b)) (sym (nan_bits_above f n ∙ le-ltb _ _ h)) tt
