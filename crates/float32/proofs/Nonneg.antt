-- Values that are no NaN and not below zero: sums, products, maxima and minima of them. Assumes nothing.
use mathlib.Core.Path.{◌≡◌, refl, sym, ap, subst, ◌∙◌}
use mathlib.Core.Logic.{inl, inr}
use mathlib.Core.Bool.{Bool, true, false, not, ◌&&◌, ◌||◌, cond, true≢false, false≢true, or-true}
use mathlib.Core.List.{List, [], ◌∷◌, foldl}
use Prim.Native.Nat.{ℕ, zero, suc, ◌+◌, ◌-◌, ◌*◌, ◌^◌, ◌<◌}
use native.Mathlib.Nat.{zero-mul, mul-pos, eq-zero-or-pos, mul_comm}
use native.Mathlib.Omega.{arith}
use borrow.Author.Tests.{lt-ltb, le-ltb, eq-eqb, ne_eqb, ltb-true, eqb-true, not-true}
use lib.Dec.{T, ltb, eqb, ltb→lt, lt→ltb, lit≤}
use lib.IntN.{ℤ, pos}
use lib.Pow.{pow_pos}
use lib.Ieee.{Float, nan, inf, fin, Format, binary32, binary64, prec, emax, low, unlike, up, down, odd, units, round, sum, add, mul, of_int, lt, le, is_nan, of_bits}
use lib.Ieee.Fits.{up_pos, down_pos, round_is}
use lib.Ieee.Exact.{HasValue, round_exact}
use lib.Ieee.Order.{round_mono}
use lib.Ieee.Positive.{above, above_of_le, first_pos}
use Rattle.float32.specs.Helpers.{max_f, min_f, zero_f, nonneg_f, finite_f, infinity_f}
use Rattle.float32.proofs.Order.{first_zero, zero_times, le_trans, le_of_not_lt, not-lt_of_le, not_le_of_lt, le-no_nan, lt-infinity}
use Rattle.float32.proofs.MaxMin.{max-same, max-ge-left, max-ge-right, min-all}
pub use Rattle.float32.proofs.MaxMin.{min-le, min-same}

-- ---- a fraction, rounded
odd_nonneg : (d q k l : ℕ) → nonneg_f (odd d false q k l) ≡ true
unfolding odd
odd_nonneg d zero k l = refl
odd_nonneg d (suc q) k l = refl

units_nonneg : (f : Format) (q k : ℕ) → nonneg_f (units f false q k) ≡ true
unfolding units
units_nonneg f q k = go (ltb (q * 2 ^ k) (2 ^ (low f + suc (emax f))))
  where
    go : (b : Bool) → nonneg_f (cond b (odd (suc (prec f)) false q k (low f)) (inf false)) ≡ true
    go true = odd_nonneg (suc (prec f)) q k (low f)
    go false = refl

-- without a sign
pub round-nonneg : (f : Format) (a c : ℕ) → nonneg_f (round f false a c) ≡ true
round-nonneg f a c = rw (round_is f false a c) (units_nonneg f _ _)

-- a value of size 0 is written with 0
pub zero_size : (t : Bool) (m : ℕ) (e : ℤ) (c : ℕ) → 0 < c → m * up e * c ≡ 0 * down e → m ≡ 0
zero_size t m e c C h = first_zero m (up e) (up_pos e) (first_zero (m * up e) c C (h ∙ zero-mul (down e)))

zero_value : (x : Float) (s : Bool) (c : ℕ) → 0 < c → HasValue x s 0 c → nonneg_f x ≡ true
zero_value nan s c C h = absurd h
zero_value (inf t) s c C h = absurd h
zero_value (fin t m e) s c C h = rw (eq-eqb m 0 (zero_size t m e c C h.1)) (or-true (not t))

-- zero rounds to zero
pub round-zero_value : (f : Format) (s : Bool) (c : ℕ) → 0 < c → HasValue (round f s 0 c) s 0 c
round-zero_value f s c C = round_exact f s 0 c 0 0 C (pow_pos (prec f)) (pow_pos (low f + suc (emax f))) (zero-mul (2 ^ low f) ∙ sym (zero-mul c))

-- and a zero of either sign is not below zero
pub round-zero_nonneg : (f : Format) (s : Bool) (a c : ℕ) → 0 < c → a ≡ 0 → nonneg_f (round f s a c) ≡ true
round-zero_nonneg f s a c C z = rw z (zero_value (round f s 0 c) s c C (round-zero_value f s c C))

-- ---- the sum
-- with a sign it is 0
pub or-zero : (s : Bool) (m : ℕ) → (not s || eqb m 0) ≡ true → s ≡ true → m ≡ 0
or-zero true m h e = eqb-true m 0 h
or-zero false m h e = absurd (false≢true e)

sum_nonneg : (f : Format) (s : Bool) (a : ℕ) (t : Bool) (b c : ℕ) → 0 < c → (s ≡ true → a ≡ 0) → (t ≡ true → b ≡ 0) → nonneg_f (sum f s a t b c) ≡ true
unfolding sum
sum_nonneg f false a false b c C h k = round-nonneg f (a + b) c
sum_nonneg f true a true b c C h k = round-zero_nonneg f true (a + b) c C (omega (arith, h refl, k refl))
sum_nonneg f false a true b c C h k = rw (le-ltb a b (omega (arith, k refl))) (round-nonneg f (a - b) c)
sum_nonneg f true a false b c C h k = go (ltb a b) (ltb b a) (le-ltb b a (omega (arith, h refl)))
  where
    go : (x y : Bool) → y ≡ false → nonneg_f (cond x (round f false (b - a) c) (round f (true && y) (a - b) c)) ≡ true
    go true y e = round-nonneg f (b - a) c
    go false y e = rw e (round-nonneg f (a - b) c)

-- of two such values
pub add-nonneg : (f : Format) (x y : Float) → nonneg_f x ≡ true → nonneg_f y ≡ true → nonneg_f (add f x y) ≡ true
unfolding add
add-nonneg f nan y h k = absurd (false≢true h)
add-nonneg f (inf s) nan h k = absurd (false≢true k)
add-nonneg f (inf true) (inf t) h k = absurd (false≢true h)
add-nonneg f (inf false) (inf true) h k = absurd (false≢true k)
add-nonneg f (inf false) (inf false) h k = refl
add-nonneg f (inf s) (fin t n d) h k = h
add-nonneg f (fin s m e) nan h k = absurd (false≢true k)
add-nonneg f (fin s m e) (inf t) h k = k
add-nonneg f (fin s m e) (fin t n d) h k =
    sum_nonneg f s (m * up e * down d) t (n * up d * down e) (down e * down d) (mul-pos (down_pos e) (down_pos d))
    (λ (p : s ≡ true). zero_times (down d) (zero_times (up e) (or-zero s m h p)))
    (λ (p : t ≡ true). zero_times (down e) (zero_times (up d) (or-zero t n k p)))

-- ---- the product, which is a NaN at 0 times an infinity, and only there
inf_nonneg : (t b : Bool) → (not t || b) ≡ true → is_nan (cond b nan (inf t)) ≡ false → nonneg_f (cond b nan (inf t)) ≡ true
unfolding is_nan
inf_nonneg t true h n = absurd (true≢false n)
inf_nonneg true false h n = absurd (false≢true h)
inf_nonneg false false h n = refl

fin_nonneg : (f : Format) (s t : Bool) (a b c : ℕ) → 0 < c → (s ≡ true → a ≡ 0) → (t ≡ true → b ≡ 0) → nonneg_f (round f (unlike s t) (a * b) c) ≡ true
fin_nonneg f true true a b c C h k = round-nonneg f (a * b) c
fin_nonneg f false false a b c C h k = round-nonneg f (a * b) c
fin_nonneg f true false a b c C h k = round-zero_nonneg f true (a * b) c C (zero_times b (h refl))
fin_nonneg f false true a b c C h k = round-zero_nonneg f true (a * b) c C (mul_comm a b ∙ zero_times a (k refl))

-- of two such values, where it is no NaN
pub mul-nonneg : (f : Format) (x y : Float) → nonneg_f x ≡ true → nonneg_f y ≡ true → is_nan (mul f x y) ≡ false → nonneg_f (mul f x y) ≡ true
unfolding mul
mul-nonneg f nan y h k q = absurd (false≢true h)
mul-nonneg f (inf s) nan h k q = absurd (false≢true k)
mul-nonneg f (inf true) (inf t) h k q = absurd (false≢true h)
mul-nonneg f (inf false) (inf true) h k q = absurd (false≢true k)
mul-nonneg f (inf false) (inf false) h k q = refl
mul-nonneg f (inf true) (fin t n d) h k q = absurd (false≢true h)
mul-nonneg f (inf false) (fin true n d) h k q = inf_nonneg true (eqb n 0) k q
mul-nonneg f (inf false) (fin false n d) h k q = inf_nonneg false (eqb n 0) k q
mul-nonneg f (fin s m e) nan h k q = absurd (false≢true k)
mul-nonneg f (fin s m e) (inf true) h k q = absurd (false≢true k)
mul-nonneg f (fin true m e) (inf false) h k q = inf_nonneg true (eqb m 0) h q
mul-nonneg f (fin false m e) (inf false) h k q = inf_nonneg false (eqb m 0) h q
mul-nonneg f (fin s m e) (fin t n d) h k q =
    fin_nonneg f s t (m * up e) (n * up d) (down e * down d) (mul-pos (down_pos e) (down_pos d))
    (λ (p : s ≡ true). zero_times (up e) (or-zero s m h p))
    (λ (p : t ≡ true). zero_times (up d) (or-zero t n k p))

-- ---- above zero, an infinity included
-- by the comparison
pub above_of_lt : (x : Float) → lt zero_f x ≡ true → T (above x)
unfolding lt of_bits
above_of_lt nan h = absurd (false≢true h)
above_of_lt (inf true) h = absurd (false≢true h)
above_of_lt (inf false) h = tt
above_of_lt (fin true n d) h = absurd (false≢true h)
above_of_lt (fin false n d) h = lt→ltb 0 n (first_pos n (up d) (first_pos (n * up d) 1 (go (ltb-true (0 * 1 * down d) (n * up d * 1) h))))
  where
    go : 0 * 1 * down d < n * up d * 1 → 0 < n * up d * 1
    go k = omega arith

not-zero : (n : ℕ) → T (ltb 0 n) → eqb n 0 ≡ false
not-zero n h = ne_eqb n 0 (λ (e : n ≡ 0). omega (arith, ltb→lt 0 n h))

-- the product of two values above zero is no NaN
pub mul-above : (f : Format) (x y : Float) → T (above x) → T (above y) → nonneg_f (mul f x y) ≡ true
unfolding mul
mul-above f nan y h k = absurd h
mul-above f (inf true) y h k = absurd h
mul-above f (inf false) nan h k = absurd k
mul-above f (inf false) (inf true) h k = absurd k
mul-above f (inf false) (inf false) h k = refl
mul-above f (inf false) (fin true n d) h k = absurd k
mul-above f (inf false) (fin false n d) h k = rw (not-zero n k)
mul-above f (fin true m e) y h k = absurd h
mul-above f (fin false m e) nan h k = absurd k
mul-above f (fin false m e) (inf true) h k = absurd k
mul-above f (fin false m e) (inf false) h k = rw (not-zero m h)
mul-above f (fin false m e) (fin true n d) h k = absurd k
mul-above f (fin false m e) (fin false n d) h k = round-nonneg f (m * up e * (n * up d)) (down e * down d)

one_round : (f : Format) → round f false 1 1 ≡ fin false 1 (pos 0)
unfolding round
one_round binary32 = refl
one_round binary64 = refl

-- an integer from 1 up is above zero as a float
pub of_int_above : (f : Format) (n : ℕ) → 0 < n → T (above (of_int f (pos n)))
unfolding of_int
of_int_above f n h =
    above_of_le (fin false 1 (pos 0)) (round f false n 1) tt
    (subst (λ (x : Float). T (le x (round f false n 1))) (one_round f) (round_mono f 1 1 n 1 (lit≤ tt) (lit≤ tt) (omega arith)))

-- a base above zero times a count of 1 or more: the run
pub times_count : (f : Format) (base : Float) (n : ℕ) → lt zero_f base ≡ true → 0 < n → nonneg_f (mul f base (of_int f (pos n))) ≡ true
times_count f base n h k = mul-above f base (of_int f (pos n)) (above_of_lt base h) (of_int_above f n k)

-- ---- `nonneg_f` by comparisons
-- such a value is no NaN
pub nonneg_no_nan : (x : Float) → nonneg_f x ≡ true → is_nan x ≡ false
unfolding is_nan
nonneg_no_nan nan h = sym h
nonneg_no_nan (inf s) h = refl
nonneg_no_nan (fin s m e) h = refl

-- off NaN it is one test
pub nonneg_is : (x : Float) → is_nan x ≡ false → nonneg_f x ≡ not (lt x zero_f)
unfolding lt is_nan of_bits
nonneg_is nan p = absurd (true≢false p)
nonneg_is (inf true) p = refl
nonneg_is (inf false) p = refl
nonneg_is (fin false m e) p = simp (le-ltb (m * up e * 1) (0 * down e) (omega arith))
nonneg_is (fin true m e) p = elim (eq-zero-or-pos m) [
  | inl z ↦ simp (eq-eqb m 0 z, le-ltb 0 (m * up e * 1 + 0 * down e) (omega (arith, zero_times (up e) z)))
  | inr q ↦ simp (ne_eqb m 0 (λ (z : m ≡ 0). omega arith), lt-ltb 0 (m * up e * 1 + 0 * down e) (omega (arith, mul-pos q (up_pos e))))
]

-- not below zero
pub nonneg_not_lt : (x : Float) → nonneg_f x ≡ true → lt x zero_f ≡ false
nonneg_not_lt x h = not-true _ (sym (nonneg_is x (nonneg_no_nan x h)) ∙ h)

-- 0.0 is such a value
pub zero_nonneg : nonneg_f zero_f ≡ true
unfolding of_bits
zero_nonneg = refl

-- zero is no larger than such a value
pub zero_le_nonneg : (x : Float) → nonneg_f x ≡ true → le zero_f x ≡ true
zero_le_nonneg x h = le_of_not_lt x zero_f (nonneg_no_nan x h) (nonneg_no_nan zero_f zero_nonneg) (nonneg_not_lt x h)

-- and what is no smaller than zero is one
pub nonneg_of_le : (x : Float) → le zero_f x ≡ true → nonneg_f x ≡ true
nonneg_of_le x h = nonneg_is x (le-no_nan zero_f x h).1 ∙ ap not (not-lt_of_le zero_f x h)

-- so is what is no smaller than such a value
pub nonneg_of_ge : (x y : Float) → nonneg_f x ≡ true → le x y ≡ true → nonneg_f y ≡ true
nonneg_of_ge x y h k = nonneg_of_le y (le_trans zero_f x y (zero_le_nonneg x h) k)

-- ---- max
-- of any value and zero
pub max-zero_nonneg : (x : Float) → nonneg_f (max_f x zero_f) ≡ true
max-zero_nonneg x = nonneg_of_le (max_f x zero_f) (max-ge-right x zero_f (nonneg_no_nan zero_f zero_nonneg))

-- zero changes no such value
pub max-zero_same : (x : Float) → nonneg_f x ≡ true → max_f x zero_f ≡ x
max-zero_same x h = max-same x zero_f (zero_le_nonneg x h)

-- of such a value and any other
pub max-nonneg : (x y : Float) → nonneg_f x ≡ true → nonneg_f (max_f x y) ≡ true
max-nonneg x y h = nonneg_of_ge x (max_f x y) h (max-ge-left x y (nonneg_no_nan x h))

-- also where it is the second
pub max-nonneg_right : (x y : Float) → nonneg_f y ≡ true → nonneg_f (max_f x y) ≡ true
max-nonneg_right x y h = nonneg_of_ge y (max_f x y) h (max-ge-right x y (nonneg_no_nan y h))

-- over a list, from such a value
pub fold-max_nonneg : (acc : Float) (xs : List Float) → nonneg_f acc ≡ true → nonneg_f (foldl max_f acc xs) ≡ true
fold-max_nonneg acc [] h = h
fold-max_nonneg acc (x ∷ xs) h = fold-max_nonneg (max_f acc x) xs (max-nonneg acc x h)

-- over a list, from zero: the base
pub fold-max_zero_nonneg : (xs : List Float) → nonneg_f (foldl max_f zero_f xs) ≡ true
fold-max_zero_nonneg xs = fold-max_nonneg zero_f xs zero_nonneg

-- ---- min
-- of two such values
pub min-nonneg : (x y : Float) → nonneg_f x ≡ true → nonneg_f y ≡ true → nonneg_f (min_f x y) ≡ true
min-nonneg x y h k = min-all x y (λ (m : Float). nonneg_f m ≡ true) h k

-- ---- finite values
-- such a value that is not finite is +infinity
pub nonneg_infinite : (x : Float) → nonneg_f x ≡ true → finite_f x ≡ false → x ≡ infinity_f
nonneg_infinite nan h k = absurd (false≢true h)
nonneg_infinite (inf true) h k = absurd (false≢true h)
nonneg_infinite (inf false) h k = refl
nonneg_infinite (fin s m e) h k = absurd (true≢false k)

-- below a finite bound it is finite
pub finite_of_le : (x y : Float) → nonneg_f x ≡ true → le x y ≡ true → finite_f y ≡ true → finite_f x ≡ true
finite_of_le x y h l k = go (finite_f x) refl
  where
    go : (b : Bool) → finite_f x ≡ b → finite_f x ≡ true
    go true e = e
    go false e = absurd (true≢false (sym l ∙ rw (nonneg_infinite x h e) (not_le_of_lt y infinity_f (lt-infinity y k))))
