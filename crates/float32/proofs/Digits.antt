-- Numbers alone: how many binary digits a number has, a number shifted, and a fraction rounded to the nearest whole number (`closest` of the kit), a tie to the even one. Assumes nothing.
use mathlib.Core.Path.{◌≡◌, refl, sym, ap, subst, ◌∙◌}
use mathlib.Core.Bool.{true, false, true≢false, false≢true}
use Prim.Native.Nat.{ℕ, zero, suc, ◌+◌, ◌-◌, ◌*◌, ◌/◌, ◌%◌, ◌^◌, ◌<◌, ◌≤◌, compare, Ordering}
use native.Mathlib.Nat.{le_antisymm, le_trans, le_of_eq, le_of_lt, lt_of_lt_of_le, lt_of_le_of_lt, lt_of_not-le, not-le_of_lt, zero-lt-suc, suc-add, add-sub_cancel_left, mul-one, one-mul, mul_comm, mul_assoc, mul-le-mul_right, div-one, mod-one, div-eq_of_lt, div-lt_iff_lt-mul, mul-le-mul_left}
use native.Mathlib.Omega.{arith}
use native.Mathlib.Numerals.{add-one}
use borrow.Author.Tests.{le-leb, lt-leb, eq-eqb, ne_eqb}
use lib.Dec.{is_le, compare_is_eq, lit≤}
use lib.Arith.{le-zero}
use lib.Count.{count_leading_zeros, leading_of_zero, leading_top}
use lib.Pow.{pow-add, pow_pos, pow_mono, shl_lt, shl_exact}
use lib.Ieee.{size, nearest}
use lib.Ieee.Digits.{size-lt, size-le, size_reaches}
use lib.Ieee.Nearest.{closest, closest_mono, closest_same, div_same}

-- ---- the count of digits
no_more : (n z : ℕ) → 2 ^ z ≤ n → z < size n
no_more n z lo = lt_of_not-le (λ (g : size n ≤ z). not-le_of_lt (lt_of_lt_of_le (size-lt n) (pow_mono g)) lo)

-- it is one more than the leading digit's place
size_is : (n z : ℕ) → 2 ^ z ≤ n → n < 2 ^ suc z → size n ≡ suc z
size_is n z lo hi = le_antisymm (size-le n (suc z) hi) (no_more n z lo)

-- at every width w, the leading zeros and the digits make w
pub size_leading : (w n : ℕ) → n < 2 ^ w → w - count_leading_zeros w n ≡ size n
size_leading w zero h = ap (λ (x : ℕ). w - x) (leading_of_zero w) ∙ none w ∙ sym (le-zero (size-le 0 0 (zero-lt-suc 0)))
  where
    none : (x : ℕ) → x - x ≡ 0
    none x = omega arith
size_leading w (suc n) h =
    let t = leading_top w (suc n) (zero-lt-suc n) h in
    ap (λ (x : ℕ). x - count_leading_zeros w (suc n)) (sym t.1) ∙ add-sub_cancel_left (count_leading_zeros w (suc n)) (suc t.0) ∙ sym (size_is (suc n) t.0 t.2 t.3)

-- a number above 0 has a leading digit, at some place z
pub leading : (n : ℕ) → 0 < n → (z : ℕ) × (size n ≡ suc z) × (2 ^ z ≤ n) × (n < 2 ^ suc z)
leading n h =
    let some : 0 < size n = no_more n 0 h in
    let e : size n ≡ suc (size n - 1) = omega arith in
    (size n - 1, e, size_reaches n (size n - 1) (omega arith), subst (λ (x : ℕ). n < 2 ^ x) e (size-lt n))

-- k zeros at the end are k digits more
pub size-shift : (n z k : ℕ) → 2 ^ z ≤ n → n < 2 ^ suc z → size (n * 2 ^ k) ≡ suc (z + k)
size-shift n z k lo hi =
    size_is (n * 2 ^ k) (z + k) (le_trans (le_of_eq (pow-add 2 z k)) (mul-le-mul_right (2 ^ k) lo)) (subst (λ (x : ℕ). n * 2 ^ k < 2 ^ x) (suc-add z k) (shl_lt (suc z) k hi))

-- ---- powers of two
-- a product of two powers goes by the sum of their exponents
pub powers : (a b c d : ℕ) → a + b ≡ c + d → 2 ^ a * 2 ^ b ≡ 2 ^ c * 2 ^ d
powers a b c d e = sym (pow-add 2 a b) ∙ ap (λ (x : ℕ). 2 ^ x) e ∙ pow-add 2 c d

-- n * 2 ^ p / 2 ^ z and n * 2 ^ q / 2 ^ y are one fraction: only the difference of the two exponents matters
cross_scale : (n p z q y : ℕ) → p + y ≡ q + z → n * 2 ^ p * 2 ^ y ≡ n * 2 ^ q * 2 ^ z
cross_scale n p z q y e = mul_assoc n (2 ^ p) (2 ^ y) ∙ ap (λ (x : ℕ). n * x) (powers p y q z e) ∙ sym (mul_assoc n (2 ^ q) (2 ^ z))

-- 1 << k, at every width w
pub one_shifted : (w k : ℕ) → k < w → 1 * 2 ^ k % 2 ^ w ≡ 2 ^ k
one_shifted w k h = shl_exact {a = 1} 1 k w (lit≤ tt) (omega arith) ∙ one-mul (2 ^ k)

-- a quotient by 2 or more is below half of the range
pub quotient_half : (n u k : ℕ) → 1 < u → n < k * 2 → n / u < k
quotient_half n u k U h = (div-lt_iff_lt-mul (le_of_lt U)).1 (lt_of_lt_of_le h (mul-le-mul_left k U))

-- ---- n shifted by p - z places: n * 2 ^ p / 2 ^ z
-- only the difference of the two exponents matters
pub shift_scale : (n p z q y : ℕ) → p + y ≡ q + z → n * 2 ^ p / 2 ^ z ≡ n * 2 ^ q / 2 ^ y
shift_scale n p z q y e = div_same (n * 2 ^ p) (2 ^ z) (n * 2 ^ q) (2 ^ y) (pow_pos z) (pow_pos y) (cross_scale n p z q y e)

-- to the left
pub shift_left : (n p z : ℕ) → z ≤ p → n * 2 ^ p / 2 ^ z ≡ n * 2 ^ (p - z)
shift_left n p z h = shift_scale n p z (p - z) 0 (omega arith) ∙ div-one (n * 2 ^ (p - z))

-- to the right
pub shift_right : (n p z : ℕ) → p ≤ z → n * 2 ^ p / 2 ^ z ≡ n / 2 ^ (z - p)
shift_right n p z h = shift_scale n p z 0 (z - p) (omega arith) ∙ ap (λ (x : ℕ). x / 2 ^ (z - p)) (mul-one n)

-- to the right by all of its j digits, or more
pub shift_out : (n j p z : ℕ) → n < 2 ^ j → j + p ≤ z → n * 2 ^ p / 2 ^ z ≡ 0
shift_out n j p z h k = div-eq_of_lt (lt_of_lt_of_le (shl_lt j p h) (pow_mono k))

-- what comes to less than 2 ^ w was not shifted far to the left
pub shift_reach : (n j p z w : ℕ) → 2 ^ j ≤ n → n * 2 ^ p / 2 ^ z < 2 ^ w → j + p < w + z
shift_reach n j p z w h k =
    lt_of_not-le (λ (g : w + z ≤ j + p).
    not-le_of_lt (lt_of_le_of_lt (le_trans (le_of_eq (pow-add 2 j p)) (mul-le-mul_right (2 ^ p) h)) ((div-lt_iff_lt-mul (pow_pos z)).0 k))
    (le_trans (le_of_eq (sym (pow-add 2 w z))) (pow_mono g)))

-- ---- n / u to the nearest whole number, for every u
module _ (n u : ℕ) where
  -- a remainder below half of u is dropped
  pub closest-down : n % u * 2 < u → closest n u ≡ n / u
  closest-down h = go (compare (n % u * 2) u) (le-leb (n % u * 2) u (le_of_lt h)) (ne_eqb (n % u * 2) u (λ (e : n % u * 2 ≡ u). omega arith))
    where
      go : (o : Ordering) → is_le o ≡ true → compare_is_eq o ≡ false → nearest (n / u) o ≡ n / u
      go Ordering.lt p q = refl
      go Ordering.eq p q = absurd (true≢false q)
      go Ordering.gt p q = absurd (false≢true p)

  -- above half of u it counts as one more
  pub closest-up : u < n % u * 2 → closest n u ≡ n / u + 1
  closest-up h = go (compare (n % u * 2) u) (lt-leb (n % u * 2) u h)
    where
      go : (o : Ordering) → is_le o ≡ false → nearest (n / u) o ≡ n / u + 1
      go Ordering.lt p = absurd (true≢false p)
      go Ordering.eq p = absurd (true≢false p)
      go Ordering.gt p = sym (add-one (n / u))

  -- a tie goes to the even one
  pub closest-tie : n % u * 2 ≡ u → closest n u ≡ n / u + n / u % 2
  closest-tie e = go (compare (n % u * 2) u) (eq-eqb (n % u * 2) u e)
    where
      go : (o : Ordering) → compare_is_eq o ≡ true → nearest (n / u) o ≡ n / u + n / u % 2
      go Ordering.lt p = absurd (false≢true p)
      go Ordering.eq p = refl
      go Ordering.gt p = absurd (false≢true p)

closest-one : (x : ℕ) → closest x 1 ≡ x
closest-one x = rw (div-one x, mod-one x)

-- ---- n of z binary digits, written with p of them, for every count: n * 2 ^ p / 2 ^ z
-- only the difference of the two counts matters
pub closest-scale : (n p z q y : ℕ) → p + y ≡ q + z → closest (n * 2 ^ p) (2 ^ z) ≡ closest (n * 2 ^ q) (2 ^ y)
closest-scale n p z q y e =
    closest_same (n * 2 ^ p) (2 ^ z) (n * 2 ^ q) (2 ^ y) (pow_pos z) (pow_pos y) (cross_scale n p z q y e)

-- with room for all digits, none is dropped
pub closest-whole : (n z p : ℕ) → z ≤ p → closest (n * 2 ^ p) (2 ^ z) ≡ n * 2 ^ (p - z)
closest-whole n z p h = closest-scale n p z (p - z) 0 (omega arith) ∙ closest-one (n * 2 ^ (p - z))

-- else the last z - p are
pub closest-cut : (n z p : ℕ) → p ≤ z → closest (n * 2 ^ p) (2 ^ z) ≡ closest n (2 ^ (z - p))
closest-cut n z p h = closest-scale n p z 0 (z - p) (omega arith) ∙ ap (λ (x : ℕ). closest x (2 ^ (z - p))) (mul-one n)

-- a carry makes 2 ^ p, and nothing makes more
pub closest-le : (n z p : ℕ) → n < 2 ^ z → closest (n * 2 ^ p) (2 ^ z) ≤ 2 ^ p
closest-le n z p h =
    le_trans (closest_mono (n * 2 ^ p) (2 ^ z) (2 ^ p) 1 (pow_pos z) (zero-lt-suc 0)
    (le_trans (le_of_eq (mul-one (n * 2 ^ p))) (le_trans (mul-le-mul_right (2 ^ p) (le_of_lt h)) (le_of_eq (mul_comm (2 ^ z) (2 ^ p))))))
    (le_of_eq (closest-one (2 ^ p)))

-- all p digits are in use where n has all of its z + 1
pub closest-ge : (n z p h : ℕ) → p ≡ suc h → 2 ^ z ≤ n → 2 ^ h ≤ closest (n * 2 ^ p) (2 ^ suc z)
closest-ge n z p h e lo =
    le_trans (le_of_eq (sym (closest-one (2 ^ h))))
    (closest_mono (2 ^ h) 1 (n * 2 ^ p) (2 ^ suc z) (zero-lt-suc 0) (pow_pos (suc z))
    (le_trans (le_of_eq (powers h (suc z) z p (omega arith))) (le_trans (mul-le-mul_right (2 ^ p) lo) (le_of_eq (sym (mul-one (n * 2 ^ p)))))))
