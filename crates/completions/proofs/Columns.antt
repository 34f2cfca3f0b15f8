-- The ends of entries in two columns, and what an iterator over both has left.
use Prim.Native.Nat.{ℕ, zero, suc, min, ◌<◌, ◌≤◌}
use mathlib.Core.Path.{◌≡◌, refl, sym, ap, ◌∙◌}
use mathlib.Core.List.{List, [], ◌∷◌, nil≢cons, head-eq_of_cons-eq, tail-eq_of_cons-eq, map}
use mathlib.Core.Logic.{inl, inr}
use native.Mathlib.Omega.{arith}
use native.Mathlib.Nat.{not-suc-le-zero, le_of_suc-le-suc}
use denote.Ref.{Bor}
use lib.ListN.{length, take, length-take, get_or}
use lib.Ieee.{Float, binary32, add, nan}
use lib.Seq.{get_or-take}
use Rattle.std.specs.declared.iter.Zip.{Zip}
use Rattle.std.specs.declared.slice.Iter.{Iter}
use Rattle.std.specs.Prelude.{Option, Some, None}
use Rattle.std.specs.Iterator.{AlwaysYields}
use Rattle.std.specs.Iterator.Adapters.{zip_first, zip_second}
use Rattle.std.specs.Slice.Iter.{iter_rest}
use Rattle.std.proofs.iter.Yields.{fronts}
use Rattle.std.proofs.lemmas.Iterator.{zips}
use Rattle.std.proofs.lemmas.Slice.Zip.{Zip-more, either_empty_from_Zip}
use Rattle.steps.proofs.Lists.{take_own}
use Rattle.steps.specs.Times.{end_at}
use Rattle.steps.specs.declared.Entry.{Entry}
use Rattle.completions.specs.Columns.{ends_of, ends_in}

-- ---- how many ends there are

pub all_long : (ss ds : List Float) → length (ends_of ss ds) ≡ min (length ss) (length ds)
all_long [] ds = omega arith
all_long (s ∷ ss) [] = omega arith
all_long (s ∷ ss) (d ∷ ds) = omega (arith, all_long ss ds)

pub all_at : (ss ds : List Float) (i : ℕ) → i < length ss → i < length ds → get_or (ends_of ss ds) i nan ≡ add binary32 (get_or ss i nan) (get_or ds i nan)
all_at [] ds i h k = absurd (not-suc-le-zero h)
all_at (s ∷ ss) [] i h k = absurd (not-suc-le-zero k)
all_at (s ∷ ss) (d ∷ ds) zero h k = refl
all_at (s ∷ ss) (d ∷ ds) (suc i) h k = all_at ss ds i (le_of_suc-le-suc h) (le_of_suc-le-suc k)

module _ (n : ℕ) (ss ds : List Float) where
  pub ends-counted : length (ends_in n ss ds) ≡ min n (min (length ss) (length ds))
  ends-counted = length-take n (ends_of ss ds) ∙ ap (min n) (all_long ss ds)

  -- as many as asked for, where both columns have them
  pub ends-long : n ≤ length ss → n ≤ length ds → length (ends_in n ss ds) ≡ n
  ends-long h k = omega (arith, ends-counted)

  pub ends_at : (i : ℕ) → i < n → i < length ss → i < length ds → get_or (ends_in n ss ds) i nan ≡ add binary32 (get_or ss i nan) (get_or ds i nan)
  ends_at i g h k = get_or-take n (ends_of ss ds) i nan g ∙ all_at ss ds i h k

-- of the first count entries, the n that the columns have
module _ (count n : ℕ) (ss ds : List Float) (e : n ≡ length (ends_in count ss ds)) where
  pub held-within : (n ≤ count) × (n ≤ length ss) × (n ≤ length ds)
  held-within = omega (arith, e, ends-counted count ss ds)

  pub held_same : ends_in n ss ds ≡ ends_in count ss ds
  held_same = ap (λ (k : ℕ). ends_in k ss ds) e ∙ take_own count (ends_of ss ds)

no_ends : (ss : List Float) → ends_of ss [] ≡ []
no_ends [] = refl
no_ends (s ∷ ss) = refl

-- ---- the ends that an iterator over both columns has left

abbrev pub left : Zip (Iter Float) (Iter Float) → List Float
left z = ends_of (iter_rest (zip_first z)) (iter_rest (zip_second z))

module _ (s t : Zip (Iter Float) (Iter Float)) (r : Option (Bor Float × Bor Float)) where
  pub left_more : (p : Bor Float × Bor Float) → r ≡ Some p → zips fronts fronts s r t → left s ≡ add binary32 p.0.now p.1.now ∷ left t
  left_more p e h = let k = Zip-more s t r p e h in rw (k.0, k.1)

  pub left_none : r ≡ None → zips fronts fronts s r t → left s ≡ []
  left_none e h = elim (either_empty_from_Zip s t r e h) [ inl a ↦ rw a | inr b ↦ rw b (no_ends (iter_rest (zip_first s))) ]

-- every run of the iterator gives the ends
pub gives_ends : (l : List Float) (s : Zip (Iter Float) (Iter Float)) → left s ≡ l → AlwaysYields (zips fronts fronts) (λ p. add binary32 p.0.now p.1.now) s l
gives_ends [] s e = λ x j h. absurd (nil≢cons (sym e ∙ left_more s j (Some x) x refl h))
gives_ends (y ∷ ys) s e = (
  λ j h. absurd (nil≢cons (sym (left_none s j None refl h) ∙ e)),
  λ x j h.
      let k = sym (left_more s j (Some x) x refl h) ∙ e in
      (head-eq_of_cons-eq k, gives_ends ys j (tail-eq_of_cons-eq k)),
)

-- ---- the first entries of both columns

-- the first n ends are those of the first n of either column
pub ends_first : (n : ℕ) (ss ds : List Float) → ends_in n ss ds ≡ ends_of (take n ss) (take n ds)
ends_first zero ss ds = refl
ends_first (suc n) [] ds = refl
ends_first (suc n) (s ∷ ss) [] = refl
ends_first (suc n) (s ∷ ss) (d ∷ ds) = ap (λ (t : List Float). add binary32 s d ∷ t) (ends_first n ss ds)

-- the first k of both columns, where k is how many of the first n there are
pub first_same : (n k : ℕ) (ss ds : List Float) → k ≡ min n (length (ends_of ss ds)) → ends_of (take k ss) (take k ds) ≡ ends_in n ss ds
first_same n k ss ds e = sym (ends_first k ss ds) ∙ rw (e, ← length-take n (ends_of ss ds)) (take_own n (ends_of ss ds))

-- ---- the columns of a list of entries

pub ends_of_entries : (es : List Entry) → ends_of (map (λ (e : Entry). e.start) es) (map (λ (e : Entry). e.duration) es) ≡ map end_at es
ends_of_entries [] = refl
ends_of_entries (e ∷ es) = ap (λ (t : List Float). end_at e ∷ t) (ends_of_entries es)

-- the ends of entries that are the first n of the columns
pub ends_held : (n : ℕ) (ss ds : List Float) (es : List Entry) → map (λ (e : Entry). e.start) es ≡ take n ss → map (λ (e : Entry). e.duration) es ≡ take n ds → ends_in n ss ds ≡ map end_at es
ends_held n ss ds es p q = ends_first n ss ds ∙ rw (← p, ← q) (ends_of_entries es)
