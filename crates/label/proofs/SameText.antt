-- `same_text` is equality, and what slices answer; and the laws of a loop that compares two texts from the front.
use Prim.Native.Nat.{ℕ, suc, ◌+◌, ◌<◌, ◌≤◌}
use mathlib.Core.Path.{◌≡◌, refl, sym, ◌∙◌, ap}
use mathlib.Core.Bool.{true, false, false≢true, and-false}
use mathlib.Core.List.{List, [], ◌∷◌}
use native.Mathlib.Numerals.{add-one}
use borrow.Author.Tests.{eq-eqb, ne_eqb}
use lib.Dec.{eqb}
use lib.Pointwise.{pointwise, bytes_decides}
use lib.ListN.{length, get_or, drop, drop_of_length-le}
use lib.Seq.{drop-cons}
use Rattle.label.specs.Label.{same_text}

-- as slices compare
pub same_pointwise : (xs ys : List ℕ) → pointwise eqb xs ys ≡ same_text xs ys
unfolding same_text
same_pointwise [] [] = refl
same_pointwise [] (y ∷ ys) = refl
same_pointwise (x ∷ xs) [] = refl
same_pointwise (x ∷ xs) (y ∷ ys) = rw (same_pointwise xs ys)

-- the test is true: the texts are equal
pub same_true : (xs ys : List ℕ) → same_text xs ys ≡ true → xs ≡ ys
same_true xs ys e = (bytes_decides xs ys).0 (same_pointwise xs ys ∙ e)

-- the texts are equal: the test is true
pub eq-same : (xs ys : List ℕ) → xs ≡ ys → same_text xs ys ≡ true
eq-same xs ys e = sym (same_pointwise xs ys) ∙ (bytes_decides xs ys).1 e

-- a text is the same as itself
pub same_refl : (xs : List ℕ) → same_text xs xs ≡ true
same_refl xs = eq-same xs xs refl

-- the test is false: the texts are not equal
pub same_false : (xs ys : List ℕ) → same_text xs ys ≡ false → xs ≡ ys → ⊥
same_false xs ys f e = false≢true (sym f ∙ eq-same xs ys e)

-- texts of unlike lengths
pub same_length : (xs ys : List ℕ) → (length xs ≡ length ys → ⊥) → same_text xs ys ≡ false
unfolding same_text
same_length [] [] h = absurd (h refl)
same_length [] (y ∷ ys) h = refl
same_length (x ∷ xs) [] h = refl
same_length (x ∷ xs) (y ∷ ys) h = rw (same_length xs ys (λ e. h (ap suc e)), and-false)

module _ (xs ys : List ℕ) (i : ℕ) where
  -- a turn finds equal bytes
  pub same_more : i < length xs → i < length ys → get_or xs i 0 ≡ get_or ys i 0 → same_text (drop i xs) (drop i ys) ≡ same_text (drop (i + 1) xs) (drop (i + 1) ys)
  unfolding same_text
  same_more h k e = rw (add-one, drop-cons xs i 0 h, drop-cons ys i 0 k, eq-eqb _ _ e)

  -- a turn finds unlike bytes
  pub same_not : i < length xs → i < length ys → (get_or xs i 0 ≡ get_or ys i 0 → ⊥) → same_text (drop i xs) (drop i ys) ≡ false
  unfolding same_text
  same_not h k e = rw (drop-cons xs i 0 h, drop-cons ys i 0 k, ne_eqb _ _ e)

  -- no byte is left
  pub same_end : length xs ≤ i → length ys ≤ i → same_text (drop i xs) (drop i ys) ≡ true
  unfolding same_text
  same_end h k = rw (drop_of_length-le xs h, drop_of_length-le ys k)
