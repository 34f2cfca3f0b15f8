-- Order of results: a sum of values that are not negative is no smaller than either, and a remainder is no larger than the divisor. Assumes nothing.
use mathlib.Core.Path.{◌≡◌, refl}
use mathlib.Core.Bool.{Bool, true, false, ◌&&◌, ◌||◌, cond, false≢true, or-true}
use Prim.Native.Nat.{ℕ, zero, suc, ◌+◌, ◌-◌, ◌*◌, ◌%◌, ◌<◌, ◌≤◌}
use native.Mathlib.Nat.{mul-pos, mul_comm, mul_assoc, mul_left_comm, mul-le-mul_right, le_trans, le_of_eq, mod-lt, zero-mod, le_of_lt, zero-lt-suc}
use native.Mathlib.Omega.{arith}
use borrow.Author.Tests.{le-ltb, eq-eqb}
use lib.Dec.{T, ltb, eqb-suc-zero}
use lib.IntN.{ℤ}
use lib.Ieee as Ieee
use lib.Ieee.{Float, nan, inf, fin, Format, up, down, round, add, rem, le, fits, of_bits}
use lib.Ieee.Bits.{is_true}
use lib.Ieee.Fits.{up_pos, down_pos}
use lib.Ieee.Exact.{HasValue}
use lib.Ieee.Order.{round_mono}
use Rattle.float32.specs.Helpers.{zero_f, nonneg_f}
use Rattle.float32.proofs.Order as order
use Rattle.float32.proofs.Order.{zero_times}
pub use Rattle.float32.proofs.Nonneg.{zero_le_nonneg}
use Rattle.float32.proofs.Nonneg.{add-nonneg, round-nonneg, or-zero, round-zero_value, zero_size, round-zero_nonneg}
use Rattle.float32.proofs.Value.{round-own}

-- a zero of either sign is no larger than zero
zero_le_zero : (s : Bool) (m : ℕ) (e : ℤ) → m ≡ 0 → le (fin s m e) zero_f ≡ true
unfolding le of_bits
zero_le_zero s m e z =
    let a : m * up e * 1 ≡ 0 = zero_times 1 (zero_times (up e) z) in
    go s (m * up e * 1) (0 * down e) a (omega arith)
  where
    go : (s : Bool) (a b : ℕ) → a ≡ 0 → b ≡ 0 → (Ieee.below s a false b || Ieee.level s a false b) ≡ true
    go false a b p q = rw (eq-eqb a b (omega arith)) (or-true (ltb a b))
    go true a b p q = rw (eq-eqb a b (omega arith), eq-eqb a 0 p) (or-true (ltb 0 (a + b)))

-- and than a value that is not negative
pub small_le : (s : Bool) (m : ℕ) (e : ℤ) (z : Float) → m ≡ 0 → nonneg_f z ≡ true → le (fin s m e) z ≡ true
small_le s m e z p h = order.le_trans (fin s m e) zero_f z (zero_le_zero s m e p) (zero_le_nonneg z h)

-- ---- a value that fits, and a fraction
-- the fraction is no smaller, so it rounds to no less
pub le-round : (f : Format) (m : ℕ) (e : ℤ) (a c : ℕ) → T (fits f (fin false m e)) → 0 < c → m * up e * c ≤ a * down e → le (fin false m e) (round f false a c) ≡ true
le-round f zero e a c p C h = small_le false 0 e (round f false a c) refl (round-nonneg f a c)
le-round f (suc m) e a c p C h = rw (← round-own f false m e p) (is_true (le (round f false (suc m * up e) (down e)) (round f false a c)) (round_mono f (suc m * up e) (down e) a c (down_pos e) C h))

-- the fraction is no larger, so it rounds to no more
pub round-le : (f : Format) (n : ℕ) (d : ℤ) (a c : ℕ) → T (fits f (fin false (suc n) d)) → 0 < c → a * down d ≤ suc n * up d * c → le (round f false a c) (fin false (suc n) d) ≡ true
round-le f n d a c p C h = rw (← round-own f false n d p) (is_true (le (round f false a c) (round f false (suc n * up d) (down d))) (round_mono f a c (suc n * up d) (down d) C (down_pos d) h))

-- ---- the sum
scaled : (x de dd b : ℕ) → x * (de * dd) ≤ (x * dd + b) * de
scaled x de dd b = le_trans (le_of_eq (simp (mul_assoc, mul_comm))) (mul-le-mul_right de (more (x * dd) b))
  where
    more : (y b : ℕ) → y ≤ y + b
    more y b = omega arith

add_small : (f : Format) (m : ℕ) (e : ℤ) (n : ℕ) (d : ℤ) → n ≡ 0 → add f (fin false m e) (fin true n d) ≡ round f false (m * up e * down d) (down e * down d)
unfolding add
add_small f m e n d q = go (m * up e * down d) (n * up d * down e) (down e * down d) (zero_times (down e) (zero_times (up d) q))
  where
    go : (a b c : ℕ) → b ≡ 0 → cond (ltb a b) (round f true (b - a) c) (round f (false && ltb b a) (a - b) c) ≡ round f false a c
    go a b c z = let less : a - b ≡ a = omega arith in rw (le-ltb a b (omega arith), less)

-- x + y is no smaller than x
pub add-ge : (f : Format) (x y : Float) → T (fits f x) → nonneg_f x ≡ true → nonneg_f y ≡ true → le x (add f x y) ≡ true
add-ge f nan y p h k = absurd (false≢true h)
add-ge f (inf true) y p h k = absurd (false≢true h)
add-ge f (inf false) nan p h k = absurd (false≢true k)
add-ge f (inf false) (inf true) p h k = absurd (false≢true k)
add-ge f (inf false) (inf false) p h k = unfold add le in refl
add-ge f (inf false) (fin t n d) p h k = unfold add le in refl
add-ge f (fin true m e) y p h k = small_le true m e (add f (fin true m e) y) (or-zero true m h refl) (add-nonneg f (fin true m e) y h k)
add-ge f (fin false m e) nan p h k = absurd (false≢true k)
add-ge f (fin false m e) (inf true) p h k = absurd (false≢true k)
add-ge f (fin false m e) (inf false) p h k = unfold add le in refl
add-ge f (fin false m e) (fin false n d) p h k =
    unfold add in
    le-round f m e (m * up e * down d + n * up d * down e) (down e * down d) p (mul-pos (down_pos e) (down_pos d)) (scaled (m * up e) (down e) (down d) (n * up d * down e))
add-ge f (fin false m e) (fin true n d) p h k =
    rw (add_small f m e n d (or-zero true n k refl))
    (le-round f m e (m * up e * down d) (down e * down d) p (mul-pos (down_pos e) (down_pos d)) (le_of_eq (simp (mul_assoc, mul_comm, mul_left_comm))))

-- ---- the remainder, by a divisor that is finite and above zero
round-zero_le : (f : Format) (s : Bool) (c : ℕ) → 0 < c → le (round f s 0 c) zero_f ≡ true
round-zero_le f s c C = go (round f s 0 c) (round-zero_value f s c C)
  where
    go : (x : Float) → HasValue x s 0 c → le x zero_f ≡ true
    go nan h = absurd h
    go (inf t) h = absurd h
    go (fin t m e) h = zero_le_zero t m e (zero_size t m e c C h.1)

rem_is : (f : Format) (s : Bool) (m : ℕ) (e : ℤ) (n : ℕ) (d : ℤ) → rem f (fin s m e) (fin false (suc n) d) ≡ round f s (m * up e * down d % (suc n * up d * down e)) (down e * down d)
unfolding rem
rem_is f s m e n d = rw (eqb-suc-zero n)

-- it is not negative where the dividend is not, and no larger than the divisor
pub rem-le : (f : Format) (s : Bool) (m : ℕ) (e : ℤ) (n : ℕ) (d : ℤ) → T (fits f (fin false (suc n) d)) → nonneg_f (fin s m e) ≡ true
    → (nonneg_f (rem f (fin s m e) (fin false (suc n) d)) ≡ true) × (le (rem f (fin s m e) (fin false (suc n) d)) (fin false (suc n) d) ≡ true)
rem-le f false m e n d p h =
    let c = down e * down d in
    let C : 0 < c = mul-pos (down_pos e) (down_pos d) in
    let b = suc n * up d * down e in
    let a = m * up e * down d % b in
    let l : a ≤ b = le_of_lt (mod-lt (m * up e * down d) (mul-pos (mul-pos (zero-lt-suc n) (up_pos d)) (down_pos e))) in
    rw rem_is (round-nonneg f a c, round-le f n d a c p C (le_trans (mul-le-mul_right (down d) l) (le_of_eq (mul_assoc (suc n * up d) (down e) (down d)))))
rem-le f true m e n d p h =
    let c = down e * down d in
    let C : 0 < c = mul-pos (down_pos e) (down_pos d) in
    let z : m * up e * down d ≡ 0 = zero_times (down d) (zero_times (up e) (or-zero true m h refl)) in
    rw (rem_is, z, zero-mod) (
      round-zero_nonneg f true 0 c C refl,
      order.le_trans (round f true 0 c) zero_f (fin false (suc n) d) (round-zero_le f true c C) (zero_le_nonneg (fin false (suc n) d) refl),
    )
