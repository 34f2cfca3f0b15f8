-- One cycle, entry by entry, and the stores of its numbers.
use mathlib.Core.Path.{◌≡◌, refl, ap, sym, subst, ◌∙◌}
use mathlib.Core.Bool.{Bool, true, false, cond}
use mathlib.Core.List.{List, [], ◌∷◌, ◌++◌}
use Prim.Native.Nat.{ℕ, suc, ◌+◌, ◌≤◌, ◌<◌}
use native.Mathlib.Numerals.{add-one}
use native.Mathlib.Nat.{add-zero, zero-add}
use native.Mathlib.Omega.{arith}
use denote.Ref.{Bor}
use lib.ListN.{length, set, drop, get_or, drop_of_length-le}
use lib.Seq.{sets, sets-eq, drop-cons}
use lib.Ieee.{Float, binary32, add, nan}
use Rattle.std.specs.declared.iter.Enumerate.{Enumerate}
use Rattle.std.specs.declared.iter.Zip.{Zip}
use Rattle.std.specs.declared.slice.Iter.{Iter}
use Rattle.std.specs.Prelude.{Option, Some, None}
use Rattle.std.specs.Iterator.Adapters.{enumerate_count, enumerate_source, enumerate_steps}
use Rattle.std.proofs.iter.Yields.{fronts}
use Rattle.std.proofs.lemmas.Iterator.{zips}
use Rattle.completions.specs.declared.Walk.{Walk}
use Rattle.completions.specs.Completions.{completes, keep, in_cycle}
use Rattle.completions.proofs.Columns.{left, left_more, left_none}
use Rattle.steps.specs.Slices.{over}

-- how many numbers there are goes by no entry's number, and each is that of one entry
many_same : (w : Walk) (start : Float) (i j : ℕ) (ends : List Float) → length (in_cycle w start i ends) ≡ length (in_cycle w start j ends)
unfolding in_cycle
many_same w start i j [] = refl
many_same w start i j (end ∷ ends) = kept (completes w start end) _ _ (many_same w start (suc i) (suc j) ends)
  where
    kept : (b : Bool) (xs ys : List ℕ) → length xs ≡ length ys → length (keep b i xs) ≡ length (keep b j ys)
    kept true xs ys e = omega (arith, e)
    kept false xs ys e = e

pub few_numbers : (w : Walk) (start : Float) (i : ℕ) (ends : List Float) → length (in_cycle w start i ends) ≤ length ends
unfolding in_cycle
few_numbers w start i [] = omega arith
few_numbers w start i (end ∷ ends) = kept (completes w start end) _ _ (few_numbers w start (suc i) ends)
  where
    kept : (b : Bool) (xs : List ℕ) (n : ℕ) → length xs ≤ n → length (keep b i xs) ≤ suc n
    kept true xs n h = omega (arith, h)
    kept false xs n h = omega (arith, h)

-- how many numbers the cycle lists of the entries that an iterator over them has left
abbrev pub many : Walk → Float → Zip (Iter Float) (Iter Float) → ℕ
many w start it = length (in_cycle w start 0 (left it))

module _ (w : Walk) (start : Float) (it it' : Zip (Iter Float) (Iter Float)) (r : Option (Bor Float × Bor Float)) where
  pub many_turn : (x : Bor Float × Bor Float) → r ≡ Some x → zips fronts fronts it r it' → (b : Bool) → b ≡ completes w start (add binary32 x.0.now x.1.now) → many w start it ≡ cond b 1 0 + many w start it'
  unfolding in_cycle
  many_turn x e h b t = rw (left_more it it' r x e h, ← t) (kept b)
    where
      kept : (b : Bool) → length (keep b 0 (in_cycle w start 1 (left it'))) ≡ cond b 1 0 + many w start it'
      kept true = omega (arith, many_same w start 1 0 (left it'))
      kept false = omega (arith, many_same w start 1 0 (left it'))

  pub many_end : r ≡ None → zips fronts fronts it r it' → many w start it ≡ 0
  unfolding in_cycle
  many_end e h = rw (left_none it it' r e h)

-- what the cycle lists of the entries that an iterator over them has left
abbrev pub still : Walk → Float → Enumerate (Zip (Iter Float) (Iter Float)) → List ℕ
still w start it = in_cycle w start (enumerate_count it) (left (enumerate_source it))

module _ (w : Walk) (start : Float) (it it' : Enumerate (Zip (Iter Float) (Iter Float))) (r : Option (ℕ × (Bor Float × Bor Float))) where
  pub still_turn : (x : ℕ × (Bor Float × Bor Float)) → r ≡ Some x → enumerate_steps (zips fronts fronts) it r it' → (b : Bool) → b ≡ completes w start (add binary32 x.1.0.now x.1.1.now)
      → (still w start it ≡ keep b x.0 (still w start it')) × (enumerate_count it + length (left (enumerate_source it)) ≡ enumerate_count it' + length (left (enumerate_source it')))
  unfolding in_cycle
  still_turn x e h b t =
      let k = subst (λ o. enumerate_steps (zips fronts fronts) it o it') e h in
      let more = left_more (enumerate_source it) (enumerate_source it') (Some x.1) x.1 refl k.0 in
      (rw (more, k.1, k.2, t, add-one) refl, omega (arith, k.2, ap length more))

  pub still_end : r ≡ None → enumerate_steps (zips fronts fronts) it r it' → still w start it ≡ []
  unfolding in_cycle
  still_end e h =
      let k = subst (λ o. enumerate_steps (zips fronts fronts) it o it') e h in
      rw (left_none (enumerate_source it) (enumerate_source it') None refl k.0)

-- what the cycle lists from the entry i on
unfoldable pub rest : Walk → Float → List Float → ℕ → List ℕ
rest w start ends i = in_cycle w start i (drop i ends)

module _ (w : Walk) (start : Float) (ends : List Float) where
  pub rest-start : rest w start ends 0 ≡ in_cycle w start 0 ends
  unfolding rest
  rest-start = refl

  pub rest_end : (i : ℕ) → length ends ≤ i → rest w start ends i ≡ []
  unfolding rest in_cycle
  rest_end i h = rw (drop_of_length-le ends h)

  pub rest-turn : (i : ℕ) (b : Bool) → i < length ends → b ≡ completes w start (get_or ends i nan) → rest w start ends i ≡ keep b i (rest w start ends (i + 1))
  unfolding rest in_cycle
  rest-turn i b h e = rw (e, add-one, drop-cons ends i nan)

-- a run of stores is two
pub sets-append : (l : List ℕ) (i : ℕ) (xs ys : List ℕ) → sets l i (xs ++ ys) ≡ sets (sets l i xs) (i + length xs) ys
sets-append l i [] ys = rw (add-zero i)
sets-append l i (x ∷ xs) ys = sets-append (set l i x) (suc i) xs ys ∙ ap (λ (n : ℕ). sets (sets (set l i x) (suc i) xs) n ys) (omega arith)

-- one store, of those still to come
pub store_one : (l : List ℕ) (k i : ℕ) (l' : List ℕ) (k' : ℕ) (xs ys : List ℕ) → l' ≡ set l k i → k' ≡ k + 1 → xs ≡ i ∷ ys → sets l' k' ys ≡ sets l k xs
store_one l k i l' k' xs ys e₁ e₂ e₃ = rw (e₁, e₂, e₃, add-one)

-- a run of stores, of those still to come
pub store_run : (l : List ℕ) (n : ℕ) (l' : List ℕ) (n' : ℕ) (xs ys zs : List ℕ) → l' ≡ sets l n xs → n' ≡ n + length xs → zs ≡ xs ++ ys → sets l' n' ys ≡ sets l n zs
store_run l n l' n' xs ys zs e₁ e₂ e₃ = rw (e₁, e₂, e₃) (sym (sets-append l n xs ys))

-- all of them, from the front
pub store_all : (xs l : List ℕ) → length xs ≤ length l → sets l 0 xs ≡ over xs l
store_all xs l h = rw zero-add at (sets-eq xs l 0 (omega arith))
