-- The loops over the cycles by a range: what it has left is the walk from there on.
use mathlib.Core.Path.{◌≡◌, refl, ap, sym, subst, ◌∙◌}
use mathlib.Core.Logic.{◌⊎◌, inl, inr}
use mathlib.Core.Bool.{Bool, true, false, ◌||◌, or-true, true≢false}
use mathlib.Core.List.{List, [], ◌++◌}
use Prim.Native.Nat.{ℕ, zero, suc, ◌+◌, ◌-◌, ◌≤◌, ◌<◌, ◌^◌, max}
use native.Mathlib.Nat.{not-suc-le-zero}
use native.Mathlib.Omega.{arith}
use borrow.Author.Tests.{eqb-true, ne_eqb}
use lib.Dec.{eqb}
use lib.Ieee.{Float}
use lib.ListN.{length}
use Rattle.std.specs.Prelude.{Option, Some, None}
use Rattle.std.specs.Range.{range_inclusive_start, range_inclusive_end, range_inclusive_exhausted, range_inclusive_len, range_inclusive_left, range_inclusive_steps}
use Rattle.std.specs.declared.ops.RangeInclusive.{RangeInclusive}
use Rattle.completions.specs.declared.Walk.{Walk}
use Rattle.completions.specs.Completions.{cycle_start, in_cycle, last_cycle, next_cycle, breaks_at, stops_at, cycles, cycles_from}
use Rattle.completions.specs.Prompt.{turns, turns_from}
use Rattle.completions.proofs.Cycles.{cycles-stop, top_stops, turn}
use Rattle.completions.proofs.Turns.{turns-stop, turns-turn}

-- how many cycles it has left
abbrev pub cycles_left : RangeInclusive ℕ → ℕ
cycles_left = range_inclusive_left (λ x y. y - x)

abbrev pub steps : RangeInclusive ℕ → Option ℕ → RangeInclusive ℕ → Type 0
steps = range_inclusive_steps (λ x y. y - x) (λ x y. y ≡ x + 1)

-- it goes from the first cycle to the last but one, or is the first alone
pub record InRange (first : ℕ) (s : RangeInclusive ℕ) : Type 0 where
  pub from : 0 < cycles_left s → first ≤ range_inclusive_start s
  pub to : range_inclusive_end s ≡ max first (last_cycle - 1)

-- whether a loop over it stops here
abbrev pub stops : Walk → RangeInclusive ℕ → Bool
stops w s = eqb (cycles_left s) 0 || breaks_at w (range_inclusive_start s)

-- the numbers that the loop has still to list, and the cycles that it has still to go over
abbrev pub still : Walk → List Float → RangeInclusive ℕ → List ℕ
still w ends s = cycles w ends (2 ^ 32) (stops w s) (range_inclusive_start s)

abbrev pub turns_left : Walk → List Float → ℕ → RangeInclusive ℕ → ℕ
turns_left w ends room s = turns w ends room (2 ^ 32) (stops w s) (range_inclusive_start s)

-- after a cycle the range is where the walk goes on, or both have come to their end
abbrev Same : Walk → RangeInclusive ℕ → ℕ → Type 0
Same w t c = ((stops w t ≡ true) × (stops_at w (next_cycle c) ≡ true)) ⊎ ((range_inclusive_start t ≡ next_cycle c) × (stops w t ≡ stops_at w (next_cycle c)))

-- a range that has a cycle left goes up to its end
open-length : (b : Bool) (x y n : ℕ) → range_inclusive_len (λ x y. y - x) x y b ≡ n + 1 → y - x + 1 - (x - y) ≡ n + 1
open-length true x y n e = let f : ⊥ = omega (arith, e) in absurd f
open-length false x y n e = e

positive : (n : ℕ) → eqb n 0 ≡ false → 0 < n
positive zero e = absurd (true≢false e)
positive (suc n) e = omega arith

stops_before : (w : Walk) (c : ℕ) → eqb c last_cycle ≡ false → stops_at w c ≡ breaks_at w c
unfolding stops_at
stops_before w c e = rw e

next : (w : Walk) (first : ℕ) (s t : RangeInclusive ℕ) (c : ℕ) → InRange first s → steps s (Some c) t → Same w t c
next w first s t c O h = go (eqb (cycles_left t) 0) refl
  where
    whole : range_inclusive_end s - range_inclusive_start s + 1 - (range_inclusive_start s - range_inclusive_end s) ≡ cycles_left t + 1
    whole = open-length (range_inclusive_exhausted s) (range_inclusive_start s) (range_inclusive_end s) (cycles_left t) (sym h.1.1)

    before : 0 < cycles_left s
    before = omega (arith, h.1.1)

    on : (x : Bool) → range_inclusive_exhausted t ≡ x → eqb (cycles_left t) 0 ≡ false → Same w t c
    on true x e = absurd (true≢false (rw x at e))
    on false x e =
        let p = positive (cycles_left t) e in
        let more = open-length (range_inclusive_exhausted t) (range_inclusive_start t) (range_inclusive_end t) (cycles_left t - 1) (omega (arith, p)) in
        let n : range_inclusive_start t ≡ next_cycle c = omega (arith, h.0, h.1.0, h.1.2 x, more, p, O.from before, O.to) in
        let l : eqb (next_cycle c) last_cycle ≡ false = ne_eqb (next_cycle c) last_cycle (omega (arith, h.0, h.1.0, h.1.2 x, more, p, O.from before, O.to)) in
        let z : stops w t ≡ breaks_at w (range_inclusive_start t) = rw e in
        inr (n, z ∙ ap (breaks_at w) n ∙ sym (stops_before w (next_cycle c) l))

    go : (b : Bool) → eqb (cycles_left t) 0 ≡ b → Same w t c
    go true e =
        let z : cycles_left t ≡ 0 = eqb-true (cycles_left t) 0 e in
        let l : next_cycle c ≡ last_cycle = omega (arith, z, whole, h.1.0, O.from before, O.to) in
        inl (rw e, top_stops w (next_cycle c) l)
    go false e = on (range_inclusive_exhausted t) refl e

-- so what goes by where the walk stands, and is the same wherever it has stopped, goes by the range
same : {X : Type 0} (w : Walk) (t : RangeInclusive ℕ) (c : ℕ) (f : Bool → ℕ → X) → ((i j : ℕ) → f true i ≡ f true j) → Same w t c → f (stops w t) (range_inclusive_start t) ≡ f (stops_at w (next_cycle c)) (next_cycle c)
same w t c f stopped h = elim h [
  | inl p ↦ ap (λ b. f b (range_inclusive_start t)) p.0 ∙ stopped (range_inclusive_start t) (next_cycle c) ∙ ap (λ b. f b (next_cycle c)) (sym p.1)
  | inr p ↦ ap (λ i. f (stops w t) i) p.0 ∙ ap (λ b. f b (next_cycle c)) p.1
]

-- the range of all cycles is the walk from the first on
module _ (w : Walk) (first : ℕ) (s : RangeInclusive ℕ) (a : range_inclusive_start s ≡ first) (b : range_inclusive_end s ≡ max first (last_cycle - 1)) (e : range_inclusive_exhausted s ≡ false) where
  pub first_in : InRange first s
  first_in = record { from = λ h. omega (arith, a); to = b }

  first-stops : stops w s ≡ breaks_at w first
  first-stops =
      let n : eqb (cycles_left s) 0 ≡ false = rw e (ne_eqb _ 0 (omega (arith, a, b))) in
      rw n (ap (breaks_at w) a)

  pub first_still : (ends : List Float) → still w ends s ≡ cycles_from w ends first
  first_still ends = ap (λ i. cycles w ends (2 ^ 32) (stops w s) i) a ∙ ap (λ t. cycles w ends (2 ^ 32) t first) first-stops

  pub first_turns : (ends : List Float) (room room' : ℕ) → room' ≡ room → turns_left w ends room' s ≡ turns_from w ends room first
  first_turns ends room room' r =
      ap (λ n. turns w ends n (2 ^ 32) (stops w s) (range_inclusive_start s)) r
      ∙ ap (λ i. turns w ends room (2 ^ 32) (stops w s) i) a
      ∙ ap (λ t. turns w ends room (2 ^ 32) t first) first-stops

module _ (w : Walk) (ends : List Float) (s t : RangeInclusive ℕ) (r : Option ℕ) (h : steps s r t) where
  -- at its end, and where the walk breaks, nothing is left
  pub still_end : r ≡ None → still w ends s ≡ []
  still_end e =
      let k = subst (λ o. steps s o t) e h in
      rw k.1.0 (cycles-stop w ends (2 ^ 32) (range_inclusive_start s))

  module _ (c : ℕ) (e : r ≡ Some c) where
    k : steps s (Some c) t
    k = subst (λ o. steps s o t) e h

    pub still_broken : breaks_at w c ≡ true → still w ends s ≡ []
    still_broken b =
        let z : stops w s ≡ true = rw (← k.1.0, b, or-true _) in
        rw z (cycles-stop w ends (2 ^ 32) (range_inclusive_start s))

    goes-on : breaks_at w c ≡ false → stops w s ≡ false
    goes-on b =
        let n : eqb (cycles_left s) 0 ≡ false = ne_eqb (cycles_left s) 0 (omega (arith, k.1.1)) in
        rw (n, ← k.1.0, b)

    module _ (first : ℕ) (O : InRange first s) where
      pub in_range : InRange first t
      in_range = record { from = λ l. go (range_inclusive_exhausted t) refl l; to = k.0 ∙ O.to }
        where
          go : (x : Bool) → range_inclusive_exhausted t ≡ x → 0 < cycles_left t → first ≤ range_inclusive_start t
          go true x l = absurd (not-suc-le-zero (rw x at l))
          go false x l = omega (arith, k.1.2 x, O.from (omega (arith, k.1.1)))

      -- a turn: this cycle's numbers, then those of the rest, and one cycle that was gone over
      pub still_turn : {start : Float} → breaks_at w c ≡ false → start ≡ cycle_start w c → still w ends s ≡ in_cycle w start 0 ends ++ still w ends t
      still_turn {start = start} b e₁ =
          rw (goes-on b, ← k.1.0)
          (turn w ends c refl e₁ refl refl ∙ ap (λ (xs : List ℕ). in_cycle w start 0 ends ++ xs) (sym (same w t c (cycles w ends (2 ^ 32)) (λ i j. cycles-stop w ends (2 ^ 32) i ∙ sym (cycles-stop w ends (2 ^ 32) j)) (next w first s t c O k))))

      pub turns_turn : (room : ℕ) {n room' : ℕ} {start : Float} → breaks_at w c ≡ false → start ≡ cycle_start w c → n ≡ length (in_cycle w start 0 ends) → n ≤ room → room' ≡ room - n
          → turns_left w ends room s ≡ suc (turns_left w ends room' t)
      turns_turn room {n = n} b e₁ e₂ l r =
          rw (r, goes-on b, ← k.1.0)
          (turns-turn w ends room c e₁ e₂ l ∙ ap suc (sym (same w t c (turns w ends (room - n) (2 ^ 32)) (λ i j. turns-stop w ends (room - n) (2 ^ 32) i ∙ sym (turns-stop w ends (room - n) (2 ^ 32) j)) (next w first s t c O k))))
