-- A zero added to a value gives no larger one.
use mathlib.Core.Path.{◌≡◌, refl, ap, ◌∙◌}
use mathlib.Core.Bool.{Bool, true, false, not, ◌&&◌, true≢false, false≢true, or-true}
use Prim.Native.Nat.{ℕ, zero, suc, ◌+◌, ◌-◌, ◌*◌, ◌<◌}
use native.Mathlib.Nat.{mul-pos, mul_comm, mul_assoc, zero-lt-suc, add-zero, sub-zero}
use native.Mathlib.Omega.{arith}
use borrow.Author.Tests.{lt-ltb, le-ltb, eqb-true}
use lib.Dec.{T, ltb}
use lib.IntN.{ℤ}
use lib.Ieee.{Float, nan, inf, fin, Format, up, down, round, sum, add, le, eq, is_nan, fits, of_bits}
use lib.Ieee.Fits.{up_pos, down_pos}
use lib.Ieee.Exact.{HasValue}
use lib.Ieee.Scale.{round_same}
use Rattle.float32.specs.Helpers.{zero_f, nonneg_f}
use Rattle.float32.proofs.Order.{le-self, zero_times}
use Rattle.float32.proofs.Nonneg.{zero_size, round-zero_value}
use Rattle.float32.proofs.Grow.{small_le}
use Rattle.float32.proofs.Value.{round-own}
use Rattle.std.proofs.lemmas.Bool.{and_parts}

-- what equals zero is written with 0
zero_digits : (t : Bool) (n : ℕ) (d : ℤ) → eq (fin t n d) zero_f ≡ true → n ≡ 0
unfolding eq of_bits
zero_digits t n d h = zero_size t n d 1 (zero-lt-suc 0) (eqb-true _ _ (and_parts _ _ h).0)

-- the sum of a value that is not zero and a zero is the value, rounded
sum_zero : (f : Format) (s : Bool) (a : ℕ) (t : Bool) (b c : ℕ) → b ≡ 0 → 0 < a → sum f s a t b c ≡ round f s a c
unfolding sum
sum_zero f false a false b c z A = rw (z, add-zero a)
sum_zero f true a true b c z A = rw (z, add-zero a)
sum_zero f false a true b c z A = rw (le-ltb a b (omega arith), z, sub-zero a)
sum_zero f true a false b c z A = rw (le-ltb a b (omega arith), lt-ltb b a (omega arith), z, sub-zero a)

-- a zero, rounded, is no larger than a zero
round-zero_le : (f : Format) (s : Bool) (a c : ℕ) (z : Float) → 0 < c → a ≡ 0 → nonneg_f z ≡ true → le (round f s a c) z ≡ true
round-zero_le f s a c z C e h = rw e (go (round f s 0 c) (round-zero_value f s c C))
  where
    go : (x : Float) → HasValue x s 0 c → le x z ≡ true
    go nan v = absurd v
    go (inf t) v = absurd v
    go (fin t m d) v = small_le t m d z (zero_size t m d c C v.1) h

-- the sum of two zeros, likewise
sum_zeros : (f : Format) (s : Bool) (a : ℕ) (t : Bool) (b c : ℕ) (z : Float) → 0 < c → a ≡ 0 → b ≡ 0 → nonneg_f z ≡ true → le (sum f s a t b c) z ≡ true
unfolding sum
sum_zeros f false a false b c z C p q h = round-zero_le f false (a + b) c z C (omega arith) h
sum_zeros f true a true b c z C p q h = round-zero_le f true (a + b) c z C (omega arith) h
sum_zeros f false a true b c z C p q h = rw (le-ltb a b (omega arith)) (round-zero_le f false (a - b) c z C (omega arith) h)
sum_zeros f true a false b c z C p q h = rw (le-ltb a b (omega arith)) (round-zero_le f (true && ltb b a) (a - b) c z C (omega arith) h)

-- a value that is not zero and that the format holds, plus a zero, is the value
plus-zero : (f : Format) (s : Bool) (m : ℕ) (e : ℤ) (t : Bool) (n : ℕ) (d : ℤ) → T (fits f (fin s (suc m) e)) → n ≡ 0 → add f (fin s (suc m) e) (fin t n d) ≡ fin s (suc m) e
unfolding add
plus-zero f s m e t n d p z =
    let a = suc m * up e in
    let c = down e * down d in
    sum_zero f s (a * down d) t (n * up d * down e) c (zero_times (down e) (zero_times (up d) z)) (mul-pos (mul-pos (zero-lt-suc m) (up_pos e)) (down_pos d))
    ∙ round_same f s (a * down d) c a (down e) (mul-pos (down_pos e) (down_pos d)) (down_pos e) (mul_assoc a (down d) (down e) ∙ ap (λ (k : ℕ). a * k) (mul_comm (down d) (down e)))
    ∙ round-own f s m e p

-- x + d is no larger than x, where d equals zero and the format holds x
pub add-zero_le : (f : Format) (x d : Float) → T (fits f x) → is_nan x ≡ false → eq d zero_f ≡ true → le (add f x d) x ≡ true
add-zero_le f nan d p x z = absurd (true≢false (unfold is_nan in x))
add-zero_le f (inf s) nan p x z = absurd (false≢true (unfold eq in z))
add-zero_le f (inf s) (inf t) p x z = absurd (false≢true (unfold eq of_bits in z))
add-zero_le f (inf s) (fin t n d) p x z = unfold add in le-self (inf s) x
add-zero_le f (fin s m e) nan p x z = absurd (false≢true (unfold eq in z))
add-zero_le f (fin s m e) (inf t) p x z = absurd (false≢true (unfold eq of_bits in z))
add-zero_le f (fin s zero e) (fin t n d) p x z =
    unfold add in
    sum_zeros f s (0 * up e * down d) t (n * up d * down e) (down e * down d) (fin s 0 e) (mul-pos (down_pos e) (down_pos d))
    (zero_times (down d) (zero_times (up e) refl)) (zero_times (down e) (zero_times (up d) (zero_digits t n d z))) (or-true (not s))
add-zero_le f (fin s (suc m) e) (fin t n d) p x z = rw (plus-zero f s m e t n d p (zero_digits t n d z)) (le-self (fin s (suc m) e) x)
