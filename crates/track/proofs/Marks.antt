-- Entries and the marks that steps leave on them.
use Prim.Native.Nat.{ℕ, zero, suc, ◌<◌, ◌≤◌, min}
use mathlib.Core.Path.{◌≡◌, refl, sym, ap, ◌∙◌}
use mathlib.Core.Bool.{Bool, false}
use mathlib.Core.List.{List, [], ◌∷◌, ◌++◌, append_assoc, append-nil}
use native.Mathlib.Nat.{not-suc-le-zero, le_of_suc-le-suc}
use native.Mathlib.Omega.{arith}
use lib.ListN.{length, get_or, take, drop, length-append, length-drop, take-append-drop}
use lib.Seq.{drop-length, drop-append-le}
use lib.Ieee.{nan}
use Rattle.steps.specs.Rows.{row, stepped}
use Rattle.steps.specs.declared.Entry.{Entry}
use Rattle.steps.specs.declared.Stepped.{Stepped}
use Rattle.steps.specs.Slices.{over}
use Rattle.steps.proofs.Lists.{take_own}
use Rattle.track.specs.Tracks.{marked, marks, done_of}

-- what an index past the end of a list of entries, or of steps, reads
abbrev pub no_entry : Entry
no_entry = record { start = nan; duration = nan; done = false }

abbrev pub no_step : Stepped
no_step = stepped (row 0 nan nan) false

pub length-marks : (es : List Entry) (ss : List Stepped) → length ss ≡ length es → length (marks es (done_of ss)) ≡ length es
length-marks [] ss e = refl
length-marks (x ∷ es) [] e = e
length-marks (x ∷ es) (s ∷ ss) e = ap suc (length-marks es ss (omega arith))

-- there are no more than entries
pub marks-within : (es : List Entry) (ss : List Stepped) → length (marks es (done_of ss)) ≤ length es
marks-within [] ss = omega arith
marks-within (x ∷ es) [] = omega arith
marks-within (x ∷ es) (s ∷ ss) = let h = marks-within es ss in omega (arith, h)

-- as many as entries and marks
pub length_marked : (es : List Entry) (ds : List Bool) → length (marks es ds) ≡ min (length es) (length ds)
length_marked [] ds = omega arith
length_marked (x ∷ es) [] = omega arith
length_marked (x ∷ es) (d ∷ ds) = let r = length_marked es ds in omega (arith, r)

-- one of them, as a turn makes it
pub marks-at : (es : List Entry) (ds : List Bool) (i : ℕ) → i < length es → i < length ds → get_or (marks es ds) i no_entry ≡ marked (get_or es i no_entry) (get_or ds i false)
marks-at [] ds i h k = absurd (not-suc-le-zero h)
marks-at (e ∷ es) [] i h k = absurd (not-suc-le-zero k)
marks-at (e ∷ es) (d ∷ ds) zero h k = refl
marks-at (e ∷ es) (d ∷ ds) (suc i) h k = marks-at es ds i (le_of_suc-le-suc h) (le_of_suc-le-suc k)

-- ---- laid over

module _ {A : Type 0} where
  pub length_over : (xs ys : List A) → length xs ≤ length ys → length (over xs ys) ≡ length ys
  length_over xs ys h = omega (arith, h, length-append xs (drop (length xs) ys), length-drop (length xs) ys)

  -- what is laid over a part is laid over the whole
  pub over-over : (xs ys zs : List A) → length xs ≤ length ys → over (over xs ys) zs ≡ over xs (over ys zs)
  over-over xs ys zs h =
      rw (length_over xs ys h, append_assoc xs (drop (length xs) ys) (drop (length ys) zs), drop-append-le (length xs) ys (drop (length ys) zs) h)

  -- a part over the whole that it is of
  pub over-part : (n : ℕ) (l : List A) → over (take n l) l ≡ l
  over-part n l = ap (λ (xs : List A). xs ++ drop (length (take n l)) l) (sym (take_own n l)) ∙ take-append-drop (length (take n l)) l

  -- the first of what is laid over
  pub take-over : (xs l : List A) (n : ℕ) → length xs ≤ length (take n l) → take n (over xs l) ≡ over xs (take n l)
  take-over [] l n h = refl
  take-over (x ∷ xs) l zero h = let f : ⊥ = omega arith in absurd f
  take-over (x ∷ xs) [] (suc n) h = let f : ⊥ = omega arith in absurd f
  take-over (x ∷ xs) (y ∷ l) (suc n) h = ap (λ (t : List A). x ∷ t) (take-over xs l n (omega arith))

  -- as many as there are
  pub over-all : (xs ys : List A) → length xs ≡ length ys → over xs ys ≡ xs
  over-all xs ys e = rw (e, drop-length ys, append-nil xs)

-- with a step for each they are all there is
pub over-own : (es : List Entry) (ss : List Stepped) → length ss ≡ length es → over (marks es (done_of ss)) es ≡ marks es (done_of ss)
over-own es ss e = over-all (marks es (done_of ss)) es (length-marks es ss e)
