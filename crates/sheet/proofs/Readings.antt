-- The reader's answer, by that of the description.
use Prim.Native.Nat.{ℕ}
use mathlib.Core.Path.{◌≡◌, refl}
use mathlib.Core.Bool.{Bool, true, false}
use mathlib.Core.List.{List}
use borrow.Author.Tests.{eqb-false}
use lib.Dec.{eqb}
use Rattle.timeline.specs.Placements.{empty}
use Rattle.sheet_format.specs.Check.{check_number}
use Rattle.sheet_format.specs.Descriptions.{NumberedDescription, described_by}
use Rattle.sheet.specs.Build.{built, reading_of}

module _ (s : List ℕ) (a : NumberedDescription) (e : a ≡ described_by s) where
  pub reading-refused : (a.refusal ≡ 0 → ⊥) → record { refusal = a.refusal; described = a.description; timeline = empty } ≡ reading_of s
  unfolding described_by reading_of
  reading-refused n = go (eqb (check_number s) 0) refl
    where
      go : (b : Bool) → eqb (check_number s) 0 ≡ b → record { refusal = a.refusal; described = a.description; timeline = empty } ≡ reading_of s
      go true t = absurd (n (rw (e, t)))
      go false t = rw (e, t)

  pub reading-accepted : a.refusal ≡ 0 → record { refusal = a.refusal; described = a.description; timeline = built a.description } ≡ reading_of s
  unfolding described_by reading_of
  reading-accepted z = go (eqb (check_number s) 0) refl (rw e at z)
    where
      go : (b : Bool) → eqb (check_number s) 0 ≡ b → (described_by s).refusal ≡ 0 → record { refusal = a.refusal; described = a.description; timeline = built a.description } ≡ reading_of s
      go true t q = rw (e, t)
      go false t q = absurd (eqb-false (check_number s) 0 t (rw t at q))
