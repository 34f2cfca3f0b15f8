-- `max`, `min` and `clamp` by their cases and in the order. Only this file and the functions' own proofs read the definitions' text. Assumes nothing.
use mathlib.Core.Path.{◌≡◌, refl, sym, ap, ◌∙◌}
use mathlib.Core.Logic.{inl, inr}
use mathlib.Core.Bool.{Bool, true, false, cond, true≢false}
use mathlib.Core.List.Memᴰ
use mathlib.Core.List.{List, [], ◌∷◌, foldl, Memᴰ}
use lib.Ieee.{Float, lt, le, is_nan, of_bits}
use Rattle.float32.specs.Helpers.{max_f, min_f, clamp_f, zero_f, one_f}
use Rattle.float32.proofs.Order.{le-self, le_trans, le_of_lt, le_of_not_lt, not-lt_of_le, le-no_nan, lt-no_nan, lt-nan_left, lt-nan_right, nan_same}

-- ---- max and min are one choice by a test: b where a is a NaN or the test says so, else a
abbrev choice : Float → Float → Bool → Float
choice a b t = cond (is_nan a) b (cond t b a)

choice_by : (P : Float → Type 0) (a b : Float) (t : Bool) → (is_nan a ≡ false → t ≡ false → P a) → (is_nan a ≡ false → t ≡ true → P b) → (is_nan a ≡ true → P b) → P (choice a b t)
choice_by P a b t first second other = go (is_nan a) t refl refl
  where
    go : (n u : Bool) → is_nan a ≡ n → t ≡ u → P (cond n b (cond u b a))
    go true u p q = other p
    go false true p q = second p q
    go false false p q = first p q

module _ (a b : Float) (t : Bool) where
  choice-is : is_nan a ≡ false → choice a b t ≡ cond t b a
  choice-is p = rw p

  choice-nan : is_nan a ≡ true → choice a b t ≡ b
  choice-nan p = rw p

  choice-nan-right : is_nan b ≡ true → t ≡ false → choice a b t ≡ a
  choice-nan-right n q = choice_by (λ (m : Float). m ≡ a) a b t (λ p u. refl) (λ p u. absurd (true≢false (sym u ∙ q))) (λ p. nan_same b a n p)

-- the choice and the order R, which is ≤ for max and ≥ for min: the test passes only where R a b, and fails only where R b a
module _ (R : Float → Float → Bool) (self : (x : Float) → is_nan x ≡ false → R x x ≡ true) (a b : Float) (t : Bool) where
  choice-left : (t ≡ true → R a b ≡ true) → is_nan a ≡ false → R a (choice a b t) ≡ true
  choice-left passed p = choice_by (λ (m : Float). R a m ≡ true) a b t (λ q u. self a p) (λ q u. passed u) (λ n. absurd (true≢false (sym n ∙ p)))

  choice-right : (is_nan a ≡ false → t ≡ false → R b a ≡ true) → is_nan b ≡ false → R b (choice a b t) ≡ true
  choice-right failed p = choice_by (λ (m : Float). R b m ≡ true) a b t failed (λ q u. self b p) (λ n. self b p)

-- ---- max
module _ (x y : Float) where
  -- a proof by its cases
  pub max-by : (P : Float → Type 0) → (is_nan x ≡ false → lt x y ≡ false → P x) → (is_nan x ≡ false → lt x y ≡ true → P y) → (is_nan x ≡ true → P y) → P (max_f x y)
  unfolding max_f
  max-by P = choice_by P x y (lt x y)

  -- what holds of both holds of it
  pub max-all : (P : Float → Type 0) → P x → P y → P (max_f x y)
  max-all P h k = max-by P (λ p q. h) (λ p q. k) (λ p. k)

  -- by one test, where the first is no NaN
  pub max-is : is_nan x ≡ false → max_f x y ≡ cond (lt x y) y x
  unfolding max_f
  max-is = choice-is x y (lt x y)

  -- a NaN operand gives the other one
  pub max-nan-left : is_nan x ≡ true → max_f x y ≡ y
  unfolding max_f
  max-nan-left = choice-nan x y (lt x y)

  -- also where it is the second
  pub max-nan-right : is_nan y ≡ true → max_f x y ≡ x
  unfolding max_f
  max-nan-right n = choice-nan-right x y (lt x y) n (lt-nan_right x y n)

  -- the first, where the second is no larger
  pub max-same : le y x ≡ true → max_f x y ≡ x
  max-same h = max-is (le-no_nan y x h).1 ∙ rw (not-lt_of_le y x h)

  -- the second, where it is larger
  pub max-other : lt x y ≡ true → max_f x y ≡ y
  max-other h = max-is (lt-no_nan x y h).0 ∙ rw h

  -- no smaller than the first
  pub max-ge-left : is_nan x ≡ false → le x (max_f x y) ≡ true
  unfolding max_f
  max-ge-left = choice-left le le-self x y (lt x y) (le_of_lt x y)

  -- nor than the second
  pub max-ge-right : is_nan y ≡ false → le y (max_f x y) ≡ true
  unfolding max_f
  max-ge-right p = choice-right le le-self x y (lt x y) (λ q h. le_of_not_lt x y q p h) p

  -- no NaN where the first is none
  pub max-no-nan : is_nan x ≡ false → is_nan (max_f x y) ≡ false
  max-no-nan p = (le-no_nan x (max_f x y) (max-ge-left p)).1

  -- nor where the second is none
  pub max-no-nan-right : is_nan y ≡ false → is_nan (max_f x y) ≡ false
  max-no-nan-right p = (le-no_nan y (max_f x y) (max-ge-right p)).1

-- ---- max over a list, from a value that is no NaN
-- by one test for each element
pub fold-max_is : (acc : Float) (xs : List Float) → is_nan acc ≡ false → foldl max_f acc xs ≡ foldl (λ (a x : Float). cond (lt a x) x a) acc xs
fold-max_is acc [] p = refl
fold-max_is acc (x ∷ xs) p = fold-max_is (max_f acc x) xs (max-no-nan acc x p) ∙ ap (λ (a : Float). foldl (λ (a x : Float). cond (lt a x) x a) a xs) (max-is acc x p)

-- no smaller than where it starts
pub fold-max_ge : (acc : Float) (xs : List Float) → is_nan acc ≡ false → le acc (foldl max_f acc xs) ≡ true
fold-max_ge acc [] p = le-self acc p
fold-max_ge acc (x ∷ xs) p = le_trans acc (max_f acc x) (foldl max_f (max_f acc x) xs) (max-ge-left acc x p) (fold-max_ge (max_f acc x) xs (max-no-nan acc x p))

-- nor than any element that is no NaN
pub fold-max_each : (acc : Float) (xs : List Float) (x : Float) → is_nan acc ≡ false → is_nan x ≡ false → Memᴰ x xs → le x (foldl max_f acc xs) ≡ true
fold-max_each acc [] x p q m = absurd (Memᴰ.not-nil m)
fold-max_each acc (y ∷ xs) x p q m = elim (Memᴰ.cases_cons m) [
  | inl e ↦ rw e (le_trans y (max_f acc y) (foldl max_f (max_f acc y) xs) (max-ge-right acc y (rw e at q)) (fold-max_ge (max_f acc y) xs (max-no-nan acc y p)))
  | inr t ↦ fold-max_each (max_f acc y) xs x (max-no-nan acc y p) q t
]

-- ---- min
abbrev ge : Float → Float → Bool
ge x y = le y x

module _ (x y : Float) where
  -- a proof by its cases
  pub min-by : (P : Float → Type 0) → (is_nan x ≡ false → lt y x ≡ false → P x) → (is_nan x ≡ false → lt y x ≡ true → P y) → (is_nan x ≡ true → P y) → P (min_f x y)
  unfolding min_f
  min-by P = choice_by P x y (lt y x)

  -- what holds of both holds of it
  pub min-all : (P : Float → Type 0) → P x → P y → P (min_f x y)
  min-all P h k = min-by P (λ p q. h) (λ p q. k) (λ p. k)

  -- by one test, where the first is no NaN
  pub min-is : is_nan x ≡ false → min_f x y ≡ cond (lt y x) y x
  unfolding min_f
  min-is = choice-is x y (lt y x)

  -- a NaN operand gives the other one
  pub min-nan-left : is_nan x ≡ true → min_f x y ≡ y
  unfolding min_f
  min-nan-left = choice-nan x y (lt y x)

  -- also where it is the second
  pub min-nan-right : is_nan y ≡ true → min_f x y ≡ x
  unfolding min_f
  min-nan-right n = choice-nan-right x y (lt y x) n (lt-nan_left y x n)

  -- the first, where the second is no smaller
  pub min-same : le x y ≡ true → min_f x y ≡ x
  min-same h = min-is (le-no_nan x y h).0 ∙ rw (not-lt_of_le x y h)

  -- the second, where it is smaller
  pub min-other : lt y x ≡ true → min_f x y ≡ y
  min-other h = min-is (lt-no_nan y x h).1 ∙ rw h

  -- no larger than the second
  pub min-le : is_nan y ≡ false → le (min_f x y) y ≡ true
  unfolding min_f
  min-le p = choice-right ge le-self x y (lt y x) (λ q h. le_of_not_lt y x p q h) p

  -- nor than the first
  pub min_le_left : is_nan x ≡ false → le (min_f x y) x ≡ true
  unfolding min_f
  min_le_left = choice-left ge le-self x y (lt y x) (le_of_lt y x)

  -- no NaN where the first is none
  pub min-no-nan : is_nan x ≡ false → is_nan (min_f x y) ≡ false
  min-no-nan p = (le-no_nan (min_f x y) x (min_le_left p)).0

  -- nor where the second is none
  pub min-no-nan-right : is_nan y ≡ false → is_nan (min_f x y) ≡ false
  min-no-nan-right p = (le-no_nan (min_f x y) y (min-le p)).0

-- ---- clamp
module _ (x lo hi : Float) where
  clamp-by : (P : Float → Type 0) → (lt x lo ≡ true → P lo) → (lt x lo ≡ false → lt hi x ≡ true → P hi) → (lt x lo ≡ false → lt hi x ≡ false → P x) → P (clamp_f x lo hi)
  unfolding clamp_f
  clamp-by P below above between = go (lt x lo) (lt hi x) refl refl
    where
      go : (a b : Bool) → lt x lo ≡ a → lt hi x ≡ b → P (cond a lo (cond b hi x))
      go true b p q = below p
      go false true p q = above p q
      go false false p q = between p q

  -- a NaN is kept
  pub clamp-nan : is_nan x ≡ true → clamp_f x lo hi ≡ x
  unfolding clamp_f
  clamp-nan n = rw (lt-nan_left x lo n, lt-nan_right hi x n)

  -- so is a value between the bounds
  pub clamp-same : le lo x ≡ true → le x hi ≡ true → clamp_f x lo hi ≡ x
  unfolding clamp_f
  clamp-same h k = rw (not-lt_of_le lo x h, not-lt_of_le x hi k)

  -- what is no NaN comes to the lower bound at least
  pub clamp-ge : is_nan x ≡ false → le lo hi ≡ true → le lo (clamp_f x lo hi) ≡ true
  clamp-ge p h =
      let n = (le-no_nan lo hi h).0 in
      clamp-by (λ (m : Float). le lo m ≡ true) (λ a. le-self lo n) (λ a b. h) (λ a b. le_of_not_lt x lo p n a)

  -- and to the upper one at most
  pub clamp-le : is_nan x ≡ false → le lo hi ≡ true → le (clamp_f x lo hi) hi ≡ true
  clamp-le p h =
      let n = (le-no_nan lo hi h).1 in
      clamp-by (λ (m : Float). le m hi ≡ true) (λ a. h) (λ a b. le-self hi n) (λ a b. le_of_not_lt hi x n p b)

zero_le_one : le zero_f one_f ≡ true
unfolding le of_bits
zero_le_one = refl

-- a share of a run, if it is no NaN, comes between 0 and 1
pub clamp_share : (x : Float) → is_nan x ≡ false → (le zero_f (clamp_f x zero_f one_f) ≡ true) × (le (clamp_f x zero_f one_f) one_f ≡ true)
clamp_share x p = (clamp-ge x zero_f one_f p zero_le_one, clamp-le x zero_f one_f p zero_le_one)
