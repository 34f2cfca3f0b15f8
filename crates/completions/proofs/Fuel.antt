-- The loop over the cycles, broken off early: what a list has room for is there as soon as nearly every cycle lists an entry.
use mathlib.Core.Path.{◌≡◌, refl, ap, sym, subst, ◌∙◌}
use mathlib.Core.Logic.{◌⊎◌, inl, inr}
use mathlib.Core.Bool.{Bool, true, false, true≢false}
use mathlib.Core.List.{List, [], ◌∷◌, ◌++◌}
use Prim.Native.Nat.{ℕ, zero, suc, ◌+◌, ◌-◌, ◌≤◌, ◌<◌}
use native.Mathlib.Omega.{arith}
use lib.ListN.{length, take}
use lib.Dec.{ltb}
use lib.Ieee.{Float}
use borrow.Author.Tests.{ltb-true, ltb-false}
use Rattle.completions.specs.declared.Walk.{Walk}
use Rattle.completions.specs.Completions.{cycle_start, in_cycle, last_cycle, next_cycle, breaks_at, stops_at, cycles}
use Rattle.completions.specs.Prompt.{zero_if, turns}
use Rattle.completions.proofs.Cycles.{cycles-stop, top_stops, below_top}

take_same : (n : ℕ) (xs ys zs : List ℕ) → take (n - length xs) ys ≡ take (n - length xs) zs → take n (xs ++ ys) ≡ take n (xs ++ zs)
take_same zero xs ys zs h = refl
take_same (suc n) [] ys zs h = subst (λ (k : ℕ). take k ys ≡ take k zs) (less n) h
  where
    less : (n : ℕ) → suc n - 0 ≡ suc n
    less n = omega arith
take_same (suc n) (x ∷ xs) ys zs h = ap (λ (l : List ℕ). x ∷ l) (take_same n xs ys zs (subst (λ (k : ℕ). take k ys ≡ take k zs) (less n (length xs)) h))
  where
    less : (n k : ℕ) → suc n - suc k ≡ n - k
    less n k = omega arith

zero_if_le : (b : Bool) (n : ℕ) → zero_if b n ≤ n
zero_if_le true n = omega arith
zero_if_le false n = omega arith

module _ (w : Walk) (ends : List Float) where
  abbrev listed : ℕ → List ℕ
  listed c = in_cycle w (cycle_start w c) 0 ends

  -- every cycle from n on stops the loop
  abbrev pub StopsFrom : ℕ → Type 0
  StopsFrom n = (c : ℕ) → n ≤ c → c ≤ last_cycle → stops_at w c ≡ true

  -- then fuel for the cycles before n is enough
  pub settled : (n fuel big c : ℕ) (stop : Bool) → StopsFrom n → fuel ≤ big → stops_at w c ≡ stop → c ≤ last_cycle → n ≤ fuel + c → cycles w ends fuel stop c ≡ cycles w ends big stop c
  unfolding cycles
  settled n zero big c true S l e h k = sym (cycles-stop w ends big c)
  settled n zero big c false S l e h k = absurd (true≢false (sym (S c (omega arith) h) ∙ e))
  settled n (suc fuel) zero c stop S l e h k = let f : ⊥ = omega arith in absurd f
  settled n (suc fuel) (suc big) c true S l e h k = refl
  settled n (suc fuel) (suc big) c false S l e h k =
      let b : c < last_cycle = below_top w c h e in
      ap (λ (xs : List ℕ). listed c ++ xs) (settled n fuel big (next_cycle c) (stops_at w (next_cycle c)) S (omega arith) refl (omega arith) (omega arith))

  -- from cycle m on, each cycle lists an entry, or the loop stops for good k cycles later
  abbrev pub Lists : ℕ → ℕ → Type 0
  Lists m k = (c : ℕ) → m ≤ c → c ≤ last_cycle → stops_at w c ≡ false → (0 < length (listed c)) ⊎ StopsFrom (c + k)

  module _ (m k : ℕ) (L : Lists m k) where
    abbrev rest : ℕ → ℕ → List ℕ
    rest fuel c = cycles w ends fuel (stops_at w (next_cycle c)) (next_cycle c)

    turn : (fuel big c n : ℕ) → fuel ≤ big → c < last_cycle → stops_at w c ≡ false → (m - c) + n + k ≤ suc fuel
        → ((n' : ℕ) → (m - next_cycle c) + n' + k ≤ fuel → take n' (rest fuel c) ≡ take n' (rest big c))
        → take n (listed c ++ rest fuel c) ≡ take n (listed c ++ rest big c)
    turn fuel big c zero l h e f ih = refl
    turn fuel big c (suc n) l h e f ih = go (ltb c m) refl
      where
        onward : (m - next_cycle c) + (suc n - length (listed c)) + k ≤ fuel → take (suc n) (listed c ++ rest fuel c) ≡ take (suc n) (listed c ++ rest big c)
        onward g = take_same (suc n) (listed c) (rest fuel c) (rest big c) (ih (suc n - length (listed c)) g)

        go : (t : Bool) → ltb c m ≡ t → take (suc n) (listed c ++ rest fuel c) ≡ take (suc n) (listed c ++ rest big c)
        go true t = let x : c < m = ltb-true c m t in onward (omega arith)
        go false t =
            let x : m ≤ c = ltb-false c m t in
            elim (L c x (omega arith) e) [
              | inl p ↦ onward (omega arith)
              | inr s ↦ ap (λ (xs : List ℕ). take (suc n) (listed c ++ xs)) (settled (c + k) fuel big (next_cycle c) (stops_at w (next_cycle c)) s l refl (omega arith) (omega arith))
            ]

    pub enough : (fuel big c : ℕ) (stop : Bool) (n : ℕ) → 0 < k → fuel ≤ big → stops_at w c ≡ stop → c ≤ last_cycle → (m - c) + n + k ≤ fuel → take n (cycles w ends fuel stop c) ≡ take n (cycles w ends big stop c)
    unfolding cycles
    enough zero big c stop n K l e h f = let g : ⊥ = omega arith in absurd g
    enough (suc fuel) zero c stop n K l e h f = let g : ⊥ = omega arith in absurd g
    enough (suc fuel) (suc big) c true n K l e h f = refl
    enough (suc fuel) (suc big) c false n K l e h f =
        let b : c < last_cycle = below_top w c h e in
        turn fuel big c n (omega arith) b e f (λ (n' : ℕ) (g : (m - next_cycle c) + n' + k ≤ fuel). enough fuel big (next_cycle c) (stops_at w (next_cycle c)) n' K (omega arith) refl (omega arith) g)

    -- from the first cycle on, which is not asked whether it is the last
    pub enough-from : (fuel big n c : ℕ) → 0 < k → c ≤ last_cycle → fuel ≤ big → (m - c) + n + k < fuel → take n (cycles w ends fuel (breaks_at w c) c) ≡ take n (cycles w ends big (breaks_at w c) c)
    enough-from fuel big n c K h l f = go (breaks_at w c)
      where
        go : (b : Bool) → take n (cycles w ends fuel b c) ≡ take n (cycles w ends big b c)
        go true = ap (take n) (cycles-stop w ends fuel c ∙ sym (cycles-stop w ends big c))
        go false = one fuel big l f
          where
            one : (fuel big : ℕ) → fuel ≤ big → (m - c) + n + k < fuel → take n (cycles w ends fuel false c) ≡ take n (cycles w ends big false c)
            one zero big l f = let g : ⊥ = omega arith in absurd g
            one (suc fuel) zero l f = let g : ⊥ = omega arith in absurd g
            one (suc fuel) (suc big) l f =
                unfold cycles in
                take_same n (listed c) _ _ (enough fuel big (next_cycle c) (stops_at w (next_cycle c)) (n - length (listed c)) K (omega arith) refl (omega arith) (omega arith))

  -- fuel for all cycles of a u32 is enough for every walk
  pub settled-from : (fuel big c : ℕ) → c ≤ last_cycle → fuel ≤ big → last_cycle < fuel → cycles w ends fuel (breaks_at w c) c ≡ cycles w ends big (breaks_at w c) c
  settled-from fuel big c h l f = go (breaks_at w c)
    where
      last : StopsFrom last_cycle
      last c a b = top_stops w c (omega arith)

      one : (fuel big : ℕ) → fuel ≤ big → last_cycle < fuel → cycles w ends fuel false c ≡ cycles w ends big false c
      one zero big l f = let g : ⊥ = omega arith in absurd g
      one (suc fuel) zero l f = let g : ⊥ = omega arith in absurd g
      one (suc fuel) (suc big) l f = unfold cycles in ap (λ (xs : List ℕ). listed c ++ xs) (settled last_cycle fuel big (next_cycle c) (stops_at w (next_cycle c)) last (omega arith) refl (omega arith) (omega arith))

      go : (b : Bool) → cycles w ends fuel b c ≡ cycles w ends big b c
      go true = cycles-stop w ends fuel c ∙ sym (cycles-stop w ends big c)
      go false = one fuel big l f

  -- ---- how many cycles are gone over
  -- none that stops the loop for good
  few-settled : (n fuel room c : ℕ) (stop : Bool) → StopsFrom n → stops_at w c ≡ stop → c ≤ last_cycle → turns w ends room fuel stop c ≤ n - c
  unfolding turns
  few-settled n zero room c stop S e h = omega arith
  few-settled n (suc fuel) room c true S e h = omega arith
  few-settled n (suc fuel) room c false S e h =
      let b : c < last_cycle = below_top w c h e in
      let k : c < n = before c (λ (t : n ≤ c). true≢false (sym (S c t h) ∙ e)) in
      let r : turns w ends (room - length (listed c)) fuel (stops_at w (next_cycle c)) (next_cycle c) ≤ n - next_cycle c =
      few-settled n fuel (room - length (listed c)) (next_cycle c) (stops_at w (next_cycle c)) S refl (omega arith) in
      let u = zero_if_le (ltb room (length (listed c))) (turns w ends (room - length (listed c)) fuel (stops_at w (next_cycle c)) (next_cycle c)) in
      omega arith
    where
      before : (c : ℕ) → (n ≤ c → ⊥) → c < n
      before c h = go (ltb c n) refl
        where
          go : (t : Bool) → ltb c n ≡ t → c < n
          go true t = ltb-true c n t
          go false t = absurd (h (ltb-false c n t))

  module _ (m k : ℕ) (L : Lists m k) where
    few : (fuel room c : ℕ) (stop : Bool) → 0 < k → stops_at w c ≡ stop → c ≤ last_cycle → turns w ends room fuel stop c ≤ (m - c) + suc room + k
    unfolding turns
    few zero room c stop K e h = omega arith
    few (suc fuel) room c true K e h = omega arith
    few (suc fuel) room c false K e h =
        let b : c < last_cycle = below_top w c h e in
        go b (ltb c m) (ltb room (length (listed c))) refl refl (few fuel (room - length (listed c)) (next_cycle c) (stops_at w (next_cycle c)) K refl (omega arith))
      where
        after : ℕ
        after = turns w ends (room - length (listed c)) fuel (stops_at w (next_cycle c)) (next_cycle c)

        go : c < last_cycle → (t u : Bool) → ltb c m ≡ t → ltb room (length (listed c)) ≡ u → after ≤ (m - next_cycle c) + suc (room - length (listed c)) + k → suc (zero_if u after) ≤ (m - c) + suc room + k
        go b t true p q ih = omega arith
        go b true false p q ih = let x : c < m = ltb-true c m p in omega arith
        go b false false p q ih =
            let x : m ≤ c = ltb-false c m p in
            let y : length (listed c) ≤ room = ltb-false room (length (listed c)) q in
            elim (L c x h e) [
              | inl s ↦ omega arith
              | inr s ↦
                  let z : after ≤ c + k - next_cycle c = few-settled (c + k) fuel (room - length (listed c)) (next_cycle c) (stops_at w (next_cycle c)) s refl (omega arith) in
                  omega arith
            ]

    -- from the first cycle on
    pub few-from : (fuel room c : ℕ) (stop : Bool) → 0 < k → c ≤ last_cycle → turns w ends room fuel stop c ≤ suc ((m - c) + suc room + k)
    unfolding turns
    few-from zero room c stop K h = omega arith
    few-from (suc fuel) room c true K h = omega arith
    few-from (suc fuel) room c false K h =
        let after : ℕ = turns w ends (room - length (listed c)) fuel (stops_at w (next_cycle c)) (next_cycle c) in
        let r : after ≤ (m - next_cycle c) + suc (room - length (listed c)) + k = few fuel (room - length (listed c)) (next_cycle c) (stops_at w (next_cycle c)) K refl (omega arith) in
        let u : zero_if (ltb room (length (listed c))) after ≤ after = zero_if_le (ltb room (length (listed c))) after in
        omega arith
