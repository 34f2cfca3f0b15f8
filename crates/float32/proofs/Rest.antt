-- The exact remainder from the digits and scales of two values, in units of 2 ^ -149. Assumes nothing.
use mathlib.Core.Path.{◌≡◌, refl, sym, ap, ap₂, subst, ◌∙◌}
use mathlib.Core.Logic.{inl, inr, ◌⊎◌}
use mathlib.Core.Bool.{Bool, true, false}
use Prim.Native.Nat.{ℕ, zero, suc, ◌+◌, ◌-◌, ◌*◌, ◌%◌, ◌^◌, ◌<◌, ◌≤◌}
use native.Mathlib.Nat.{mul-pos, mul_comm, mul_assoc, mul_right_comm, mul-mul-mul_comm, one-mul, add-zero, zero-mul, mod-zero, mul-div_cancel, mul-mod_left, eq-zero-or-pos, zero-lt-suc, mod-eq_of_lt, le_trans, lt_of_lt_of_le, mul-le-mul_right}
use native.Mathlib.Omega.{arith}
use borrow.Author.Tests.{lt-ltb, le-ltb, ltb-true, ltb-false}
use lib.Arith.{mod-mul}
use lib.Dec.{eqb-suc-zero, ltb}
use lib.Pow.{pow-add, pow_pos, pow_mono, shl_exact, pow-lt}
use lib.Dec.{lit≤}
use lib.IntN.{ℤ}
use lib.Ieee.{Float, nan, inf, fin, Format, binary32, up, down, low, unlike, round, mul, rem, of_int}
use lib.Ieee.Exact.{HasValue}
use lib.Ieee.Fits.{up_pos, down_pos}
use lib.Ieee.Back.{round_whole}
use lib.Ieee.Scale.{round_same}
use Rattle.float32.specs.Helpers.{from_u32}
use Rattle.float32.specs.Parts.{unit_pattern, field_of, scale_of}
use Rattle.std.proofs.lemmas.Nat.{mul-mod_first}

-- ---- whole numbers
-- a remainder, scaled
pub mod_scaled : (a b c : ℕ) → 0 < c → a * c % (b * c) ≡ a % b * c
mod_scaled a b c C = elim (eq-zero-or-pos b) [
  | inl z ↦ rw (z, zero-mul, mod-zero (a * c), mod-zero a)
  | inr B ↦ mod-mul (a * c) B C ∙ ap₂ (λ (q r : ℕ). q % b * c + r) (mul-div_cancel a C) (mul-mod_left a c) ∙ add-zero (a % b * c)
]

-- from 24 places on nothing is taken off
pub small_rest : (q d k : ℕ) → q < 2 ^ 24 → 0 < d → 24 ≤ k → q ≡ q % (d * 2 ^ k)
small_rest q d k h D l =
    let wide : 2 ^ k ≤ d * 2 ^ k = subst (λ (x : ℕ). x ≤ d * 2 ^ k) (one-mul (2 ^ k)) (mul-le-mul_right (2 ^ k) D) in
    sym (mod-eq_of_lt (lt_of_lt_of_le h (le_trans (pow_mono {i = 24} {j = k} l) wide)))

-- 32 places at a time
pub rest-turn : (r d j k : ℕ) → r < 2 ^ 24 → 32 + j ≡ k → r * 2 ^ 32 % 2 ^ 64 % d * 2 ^ j % d ≡ r * 2 ^ k % d
rest-turn r d j k h e =
    ap (λ (x : ℕ). x % d * 2 ^ j % d) (shl_exact 24 32 64 h (lit≤ tt))
    ∙ mul-mod_first (r * 2 ^ 32) (2 ^ j) d
    ∙ ap (λ (x : ℕ). x % d) (mul_assoc r (2 ^ 32) (2 ^ j) ∙ ap (λ (x : ℕ). r * x) (sym (pow-add 2 32 j) ∙ ap (λ (x : ℕ). 2 ^ x) e))

-- a remainder of scaled numbers is one of the lower scale
pub rest_scaled : (q p d e r : ℕ) → p ≤ e → r ≡ q % (d * 2 ^ (e - p)) → r * 2 ^ p ≡ q * 2 ^ p % (d * 2 ^ e)
rest_scaled q p d e r l h =
    ap (λ (x : ℕ). x * 2 ^ p) h ∙ sym (mod_scaled q (d * 2 ^ (e - p)) (2 ^ p) (pow_pos p))
    ∙ ap (λ (x : ℕ). q * 2 ^ p % x) (mul_assoc d (2 ^ (e - p)) (2 ^ p) ∙ ap (λ (x : ℕ). d * x) (sym (pow-add 2 (e - p) p) ∙ ap (λ (x : ℕ). 2 ^ x) sum))
  where
    sum : e - p + p ≡ e
    sum = omega arith

pub rest_lower : (q p d e r : ℕ) → e ≤ p → r ≡ q * 2 ^ (p - e) % d → r * 2 ^ e ≡ q * 2 ^ p % (d * 2 ^ e)
rest_lower q p d e r l h =
    ap (λ (x : ℕ). x * 2 ^ e) h ∙ sym (mod_scaled (q * 2 ^ (p - e)) d (2 ^ e) (pow_pos e))
    ∙ ap (λ (x : ℕ). x % (d * 2 ^ e)) (mul_assoc q (2 ^ (p - e)) (2 ^ e) ∙ ap (λ (x : ℕ). q * x) (sym (pow-add 2 (p - e) e) ∙ ap (λ (x : ℕ). 2 ^ x) sum))
  where
    sum : p - e + e ≡ p
    sum = omega arith

-- ---- values
-- a product of values
pub mul-values : (f : Format) (x y : Float) (s t : Bool) (a c b d : ℕ) → 0 < c → 0 < d → HasValue x s a c → HasValue y t b d → mul f x y ≡ round f (unlike s t) (a * b) (c * d)
unfolding mul
mul-values f nan y s t a c b d C D h k = absurd h
mul-values f (inf u) y s t a c b d C D h k = absurd h
mul-values f (fin u m e) nan s t a c b d C D h k = absurd k
mul-values f (fin u m e) (inf v) s t a c b d C D h k = absurd k
mul-values f (fin u m e) (fin v n g) s t a c b d C D h k =
    ap₂ (λ (u v : Bool). round f (unlike u v) (m * up e * (n * up g)) (down e * down g)) h.0 k.0
    ∙ round_same f (unlike s t) (m * up e * (n * up g)) (down e * down g) (a * b) (c * d) (mul-pos (down_pos e) (down_pos g)) (mul-pos C D)
    (mul-mul-mul_comm (m * up e) (n * up g) c d ∙ ap₂ (λ (x y : ℕ). x * y) h.1 k.1 ∙ mul-mul-mul_comm a (down e) b (down g))

-- the cross product of a remainder
crossed : (X Y x y a b c : ℕ) → 0 < x → 0 < y → 0 < c → X * c ≡ a * x → Y * c ≡ b * y → X * y % (Y * x) * c ≡ a % b * (x * y)
crossed X Y x y a b c P Q C h k =
    let over : X * y * c ≡ a * (x * y) = mul_right_comm X y c ∙ ap (λ (z : ℕ). z * y) h ∙ mul_assoc a x y in
    let under : Y * x * c ≡ b * (x * y) = mul_right_comm Y x c ∙ ap (λ (z : ℕ). z * x) k ∙ mul_assoc b y x ∙ ap (λ (z : ℕ). b * z) (mul_comm y x) in
    sym (mod_scaled (X * y) (Y * x) c C) ∙ ap₂ (λ (v w : ℕ). v % w) over under ∙ mod_scaled a b (x * y) (mul-pos P Q)

-- nothing times a denominator is no size above 0
none-above : (g : ℤ) (b c : ℕ) → 0 < c → 0 < b → zero * up g * c ≡ b * down g → ⊥
none-above g b c C B h =
    let l : zero * up g * c ≡ 0 = ap (λ (z : ℕ). z * c) (zero-mul (up g)) ∙ zero-mul c in
    let p : 0 < b * down g = mul-pos B (down_pos g) in
    let e : b * down g ≡ 0 = sym h ∙ l in
    omega arith

-- the remainder of values that have one denominator
pub rem-values : (f : Format) (x y : Float) (s t : Bool) (a b c : ℕ) → 0 < c → 0 < b → HasValue x s a c → HasValue y t b c → rem f x y ≡ round f s (a % b) c
unfolding rem
rem-values f nan y s t a b c C B h k = absurd h
rem-values f (inf u) y s t a b c C B h k = absurd h
rem-values f (fin u m e) nan s t a b c C B h k = absurd k
rem-values f (fin u m e) (inf v) s t a b c C B h k = absurd k
rem-values f (fin u m e) (fin v zero g) s t a b c C B h k = absurd (none-above g b c C B k.1)
rem-values f (fin u m e) (fin v (suc n) g) s t a b c C B h k =
    rw (eqb-suc-zero n)
    (ap (λ (u : Bool). round f u (m * up e * down g % (suc n * up g * down e)) (down e * down g)) h.0
    ∙ round_same f s (m * up e * down g % (suc n * up g * down e)) (down e * down g) (a % b) c (mul-pos (down_pos e) (down_pos g)) C
    (crossed (m * up e) (suc n * up g) (down e) (down g) a b c (down_pos e) (down_pos g) C h.1 k.1))

-- by a value of size 0 it is the NaN
pub rem-none : (f : Format) (x y : Float) (s t : Bool) (a c : ℕ) → 0 < c → HasValue x s a c → HasValue y t 0 c → nan ≡ rem f x y
unfolding rem
rem-none f nan y s t a c C h k = absurd h
rem-none f (inf u) y s t a c C h k = absurd h
rem-none f (fin u m e) nan s t a c C h k = absurd k
rem-none f (fin u m e) (inf v) s t a c C h k = absurd k
rem-none f (fin u m e) (fin v zero g) s t a c C h k = refl
rem-none f (fin u m e) (fin v (suc n) g) s t a c C h k =
    let p : 0 < suc n * up g * c = mul-pos (mul-pos (zero-lt-suc n) (up_pos g)) C in
    let e : suc n * up g * c ≡ 0 = k.1 ∙ zero-mul (down g) in
    absurd (some p e)
  where
    some : {z : ℕ} → 0 < z → z ≡ 0 → ⊥
    some p e = omega arith

-- ---- the remainder of two values of one denominator, from what is left of their sizes
same-sign : (s : Bool) → unlike false s ≡ s
same-sign true = refl
same-sign false = refl

pub remainder-value : (x y u : Float) (s t : Bool) (a b r k : ℕ) → 0 < b → r ≤ 2 ^ 24 → HasValue x s a (2 ^ low binary32) → HasValue y t b (2 ^ low binary32)
    → HasValue u s k (2 ^ low binary32) → r * k ≡ a % b → mul binary32 (from_u32 r) u ≡ rem binary32 x y
unfolding of_int
remainder-value x y u s t a b r k B R h j v e =
    let c = 2 ^ low binary32 in
    let C : 0 < c = lit≤ tt in
    mul-values binary32 (from_u32 r) u false s r 1 k c (lit≤ tt) C (round_whole binary32 false r R) v
    ∙ ap₂ (λ (s : Bool) (n : ℕ). round binary32 s n c) (same-sign s) e
    ∙ sym (rem-values binary32 x y s t a b c C B h j)

-- ---- the scale of a pattern whose field is not all ones
pub scale-below : (n : ℕ) → (field_of n ≡ 255 → ⊥) → scale_of n ≤ 253
scale-below n h = omega arith

-- ---- 2 ^ p of the smallest values
split : (p k : ℕ) → (p < k) ⊎ (k ≤ p)
split p k = go (ltb p k) refl
  where
    go : (b : Bool) → ltb p k ≡ b → (p < k) ⊎ (k ≤ p)
    go true e = inl (ltb-true p k e)
    go false e = inr (ltb-false p k e)

pub unit-below : (p : ℕ) → p ≤ 253 → unit_pattern p ≤ 1937768448
unit-below p h = elim (split p 23) [
  | inl l ↦ let small : 2 ^ p < 2 ^ 23 = pow-lt {i = p} {j = 23} l in rw (lt-ltb p 23 l) (omega arith)
  | inr g ↦ rw (le-ltb p 23 g) (omega arith)
]
