-- Values that are equal as numbers (`eq`), as zeros of either sign are: comparisons, minima, remainders and differences do not tell them apart. Assumes nothing.
use mathlib.Core.Path.{◌≡◌, refl, sym, ap, ap₂, ◌∙◌}
use mathlib.Core.Logic.{◌⊎◌, inl, inr}
use mathlib.Core.Bool.{Bool, true, false, not, ◌&&◌, ◌||◌, beq, cond, false≢true, or-true}
use Prim.Native.Nat.{ℕ, ◌+◌, ◌-◌, ◌*◌, ◌%◌, ◌<◌}
use native.Mathlib.Nat.{mul-pos, mul_comm, mul_assoc, mul_right_comm, add-mul, mul-sub, zero-mod, mul-lt-mul_of_pos_right, lt_of_mul-lt-mul_right}
use borrow.Author.Tests.{eqb-true, lt-ltb, ltb-true}
use lib.Dec.{eqb, ltb}
use lib.IntN.{ℤ}
use lib.Ieee.{Float, nan, inf, fin, Format, up, down, round, sum, add, sub, rem, neg, lt, le, eq}
use lib.Ieee.Bits.{is_true}
use lib.Ieee.Exact.{HasValue}
use lib.Ieee.Fits.{up_pos, down_pos}
use lib.Ieee.Scale.{round_same}
use Rattle.std.proofs.lemmas.Float.{T_from_true, eq_flip as flip}
use Rattle.float32.specs.Helpers.{min_f}
use Rattle.float32.proofs.Order.{first_zero, zero_times, le-no_nan, le_trans, le_of_eq, lt_of_lt_of_le}
use Rattle.float32.proofs.MaxMin.{min-is}
use Rattle.float32.proofs.Rest.{mod_scaled}
use Rattle.float32.proofs.Nonneg.{zero_size, round-zero_value}
use Rattle.std.proofs.lemmas.Bool.{and_parts}

-- ---- what `eq` says of two values
-- the other way round
pub eq_flip : (x y : Float) → eq x y ≡ true → eq y x ≡ true
eq_flip x y h = is_true (eq y x) (flip x y (T_from_true (eq x y) h))

zero_of : (m : ℕ) (e : ℤ) (c : ℕ) → 0 < c → m * up e * c ≡ 0 → m ≡ 0
zero_of m e c C h = first_zero m (up e) (up_pos e) (first_zero (m * up e) c C h)

-- a proof by what they are: the same, two zeros, or two forms of one number
module _ (P : Float → Float → Type 0) (same : (x : Float) → P x x)
    (zeros : (s t : Bool) (m n : ℕ) (e d : ℤ) → m ≡ 0 → n ≡ 0 → eq (fin s m e) (fin t n d) ≡ true → P (fin s m e) (fin t n d))
    (forms : (s : Bool) (m n : ℕ) (e d : ℤ) → m * up e * down d ≡ n * up d * down e → eq (fin s m e) (fin s n d) ≡ true → P (fin s m e) (fin s n d)) where
  pub eq-by : (x y : Float) → eq x y ≡ true → P x y
  unfolding eq
  eq-by nan y h = absurd (false≢true h)
  eq-by (inf s) nan h = absurd (false≢true h)
  eq-by (inf true) (inf true) h = same (inf true)
  eq-by (inf true) (inf false) h = absurd (false≢true h)
  eq-by (inf false) (inf true) h = absurd (false≢true h)
  eq-by (inf false) (inf false) h = same (inf false)
  eq-by (inf s) (fin t n d) h = absurd (false≢true h)
  eq-by (fin s m e) nan h = absurd (false≢true h)
  eq-by (fin s m e) (inf t) h = absurd (false≢true h)
  eq-by (fin s m e) (fin t n d) h =
      let k = and_parts (eqb (m * up e * down d) (n * up d * down e)) (beq s t || eqb (m * up e * down d) 0) h in
      go s t (eqb-true (m * up e * down d) (n * up d * down e) k.0) k.1 h
    where
      either : (s t : Bool) → m * up e * down d ≡ n * up d * down e → eqb (m * up e * down d) 0 ≡ true → eq (fin s m e) (fin t n d) ≡ true → P (fin s m e) (fin t n d)
      either s t c z h =
          let a : m * up e * down d ≡ 0 = eqb-true (m * up e * down d) 0 z in
          zeros s t m n e d (zero_of m e (down d) (down_pos d) a) (zero_of n d (down e) (down_pos e) (sym c ∙ a)) h

      go : (s t : Bool) → m * up e * down d ≡ n * up d * down e → (beq s t || eqb (m * up e * down d) 0) ≡ true → eq (fin s m e) (fin t n d) ≡ true → P (fin s m e) (fin t n d)
      go true true c k h = forms true m n e d c h
      go true false c k h = either true false c k h
      go false true c k h = either false true c k h
      go false false c k h = forms false m n e d c h

-- ---- the tests do not tell them apart
-- the same, or equal as numbers
abbrev pub Same : Float → Float → Type 0
Same x y = (x ≡ y) ⊎ (eq x y ≡ true)

tests_same : (a b : Bool) → (a ≡ true → b ≡ true) → (b ≡ true → a ≡ true) → a ≡ b
tests_same true b h k = sym (h refl)
tests_same false true h k = k refl
tests_same false false h k = refl

pub le_same : (x y z : Float) → Same x y → le x z ≡ le y z
le_same x y z (inl e) = ap (λ (v : Float). le v z) e
le_same x y z (inr e) = tests_same (le x z) (le y z) (le_trans y x z (le_of_eq y x (eq_flip x y e))) (le_trans x y z (le_of_eq x y e))

pub ge_same : (x y z : Float) → Same x y → le z x ≡ le z y
ge_same x y z (inl e) = ap (le z) e
ge_same x y z (inr e) = tests_same (le z x) (le z y) (λ h. le_trans z x y h (le_of_eq x y e)) (λ h. le_trans z y x h (le_of_eq y x (eq_flip x y e)))

lt_same : (x y z : Float) → eq x y ≡ true → lt z x ≡ lt z y
lt_same x y z e = tests_same (lt z x) (lt z y) (λ h. lt_of_lt_of_le z x y h (le_of_eq x y e)) (λ h. lt_of_lt_of_le z y x h (le_of_eq y x (eq_flip x y e)))

pub either_same : (c : Bool) (b x y : Float) → Same x y → Same (cond c b x) (cond c b y)
either_same true b x y s = inl refl
either_same false b x y s = s

pub min-equal : (x y b : Float) → eq x y ≡ true → Same (min_f x b) (min_f y b)
min-equal x y b h =
    let n = le-no_nan x y (le_of_eq x y h) in
    rw (min-is x b n.0, min-is y b n.1, lt_same x y b h) (either_same (lt b y) b x y (inr h))

-- ---- remainders and differences of them
-- zeros of either sign
zeros_equal : (x y : Float) (s t : Bool) (c d : ℕ) → 0 < c → 0 < d → HasValue x s 0 c → HasValue y t 0 d → eq x y ≡ true
unfolding eq
zeros_equal nan y s t c d C D h k = absurd h
zeros_equal (inf s') y s t c d C D h k = absurd h
zeros_equal (fin s' m e) nan s t c d C D h k = absurd k
zeros_equal (fin s' m e) (inf t') s t c d C D h k = absurd k
zeros_equal (fin s' m e) (fin t' n g) s t c d C D h k =
    let a : m * up e * down g ≡ 0 = zero_times (down g) (zero_times (up e) (zero_size s' m e c C h.1)) in
    let b : n * up g * down e ≡ 0 = zero_times (down e) (zero_times (up g) (zero_size t' n g d D k.1)) in
    rw (a, b) (or-true (beq s' t'))

module _ (f : Format) where
  zero-rem : (s : Bool) (m : ℕ) (e : ℤ) (k : ℕ) (g : ℤ) → m ≡ 0 → HasValue (round f s (m * up e * down g % (k * up g * down e)) (down e * down g)) s 0 (down e * down g)
  zero-rem s m e k g z =
      let a : m * up e * down g ≡ 0 = zero_times (down g) (zero_times (up e) z) in
      rw (a, zero-mod) (round-zero_value f s (down e * down g) (mul-pos (down_pos e) (down_pos g)))

  -- remainders by one divisor
  rem-zeros : (s t : Bool) (m n : ℕ) (e d : ℤ) → m ≡ 0 → n ≡ 0 → eq (fin s m e) (fin t n d) ≡ true → (b : Float) → Same (rem f (fin s m e) b) (rem f (fin t n d) b)
  unfolding rem
  rem-zeros s t m n e d p q h nan = inl refl
  rem-zeros s t m n e d p q h (inf u) = inr h
  rem-zeros s t m n e d p q h (fin u k g) =
      either_same (eqb k 0) nan _ _
      (inr (zeros_equal _ _ s t (down e * down g) (down d * down g) (mul-pos (down_pos e) (down_pos g)) (mul-pos (down_pos d) (down_pos g)) (zero-rem s m e k g p) (zero-rem t n d k g q)))

  rem-crossed : (a b k g e d : ℕ) → 0 < e → 0 < d → a * d ≡ b * e → a * g % (k * e) * (d * g) ≡ b * g % (k * d) * (e * g)
  rem-crossed a b k g e d E D c =
      let x : a * g * d ≡ b * g * e = mul_right_comm a g d ∙ ap (λ (z : ℕ). z * g) c ∙ mul_right_comm b e g in
      let y : a * g % (k * e) * d ≡ b * g % (k * d) * e = sym (mod_scaled (a * g) (k * e) d D) ∙ ap₂ (λ (v w : ℕ). v % w) x (mul_right_comm k e d) ∙ mod_scaled (b * g) (k * d) e E in
      sym (mul_assoc (a * g % (k * e)) d g) ∙ ap (λ (z : ℕ). z * g) y ∙ mul_assoc (b * g % (k * d)) e g

  rem-forms : (s : Bool) (m n : ℕ) (e d : ℤ) → m * up e * down d ≡ n * up d * down e → eq (fin s m e) (fin s n d) ≡ true → (b : Float) → Same (rem f (fin s m e) b) (rem f (fin s n d) b)
  unfolding rem
  rem-forms s m n e d c h nan = inl refl
  rem-forms s m n e d c h (inf u) = inr h
  rem-forms s m n e d c h (fin u k g) =
      either_same (eqb k 0) nan _ _
      (inl (round_same f s (m * up e * down g % (k * up g * down e)) (down e * down g) (n * up d * down g % (k * up g * down d)) (down d * down g) (mul-pos (down_pos e) (down_pos g)) (mul-pos (down_pos d) (down_pos g))
      (rem-crossed (m * up e) (n * up d) (k * up g) (down g) (down e) (down d) (down_pos e) (down_pos d) c)))

  pub rem-same : (x y b : Float) → eq x y ≡ true → Same (rem f x b) (rem f y b)
  rem-same x y b h = eq-by (λ x y. (b : Float) → Same (rem f x b) (rem f y b)) (λ x b. inl refl) rem-zeros rem-forms x y h b

  -- ±a / c + ±b / c, over a larger denominator
  sum-scaled : (s t : Bool) (a b c k : ℕ) → 0 < c → 0 < k → sum f s (a * k) t (b * k) (c * k) ≡ sum f s a t b c
  unfolding sum
  sum-scaled s t a b c k C K = rw (less a b, less b a, minus a b, minus b a, ← add-mul a b k, one s (a + b), one t (b - a), one (s && ltb b a) (a - b))
    where
      one : (u : Bool) (x : ℕ) → round f u (x * k) (c * k) ≡ round f u x c
      one u x = round_same f u (x * k) (c * k) x c (mul-pos C K) C (mul_assoc x k c ∙ ap (λ (z : ℕ). x * z) (mul_comm k c))

      less : (x y : ℕ) → ltb (x * k) (y * k) ≡ ltb x y
      less x y = tests_same (ltb (x * k) (y * k)) (ltb x y) (λ h. lt-ltb x y (lt_of_mul-lt-mul_right k (ltb-true (x * k) (y * k) h))) (λ h. lt-ltb (x * k) (y * k) (mul-lt-mul_of_pos_right (ltb-true x y h) K))

      minus : (x y : ℕ) → x * k - y * k ≡ (x - y) * k
      minus x y = ap₂ (λ (v w : ℕ). v - w) (mul_comm x k) (mul_comm y k) ∙ sym (mul-sub k x y) ∙ mul_comm k (x - y)

  -- taken from p
  pub sub-forms : (p : Float) (s : Bool) (m n : ℕ) (e d : ℤ) → m * up e * down d ≡ n * up d * down e → sub f p (fin s m e) ≡ sub f p (fin s n d)
  unfolding sub add neg
  sub-forms nan s m n e d c = refl
  sub-forms (inf u) s m n e d c = refl
  sub-forms (fin u k g) s m n e d c =
      sym (sum-scaled u (not s) (k * up g * down e) (m * up e * down g) (down g * down e) (down d) (mul-pos (down_pos g) (down_pos e)) (down_pos d))
      ∙ rw (mul_right_comm (k * up g) (down e) (down d), mul_right_comm (m * up e) (down g) (down d), c, mul_right_comm (n * up d) (down e) (down g), mul_right_comm (down g) (down e) (down d))
      (sum-scaled u (not s) (k * up g * down d) (n * up d * down g) (down g * down d) (down e) (mul-pos (down_pos g) (down_pos d)) (down_pos e))
