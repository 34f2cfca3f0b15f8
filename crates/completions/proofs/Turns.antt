-- How many cycles a walk still goes over: one fewer after each turn.
use mathlib.Core.Path.{◌≡◌, refl, ap, subst, ◌∙◌, sym}
use mathlib.Core.Bool.{Bool, true, false}
use mathlib.Core.List.{List}
use Prim.Native.Nat.{ℕ, zero, suc, ◌+◌, ◌-◌, ◌≤◌, ◌<◌, ◌^◌}
use native.Mathlib.Omega.{arith}
use native.Mathlib.Nat.{le_of_eq}
use lib.Dec.{ltb}
use lib.Ieee.{Float}
use lib.ListN.{length}
use borrow.Author.Tests.{le-ltb}
use Rattle.completions.specs.declared.Walk.{Walk}
use Rattle.completions.specs.Completions.{cycle_start, in_cycle, last_cycle, next_cycle, stops_at}
use Rattle.completions.specs.Prompt.{zero_if, turns}
use Rattle.completions.proofs.Cycles.{below_top}

module _ (w : Walk) (ends : List Float) where
  abbrev many : ℕ → ℕ
  many c = length (in_cycle w (cycle_start w c) 0 ends)

  fuel-more : (fuel room c : ℕ) (stop : Bool) → stops_at w c ≡ stop → c ≤ last_cycle → last_cycle ≤ fuel + c → turns w ends room fuel stop c ≡ turns w ends room (suc fuel) stop c
  unfolding turns
  fuel-more zero room c true e h h' = refl
  fuel-more zero room c false e h h' = let l : c < last_cycle = below_top w c h e in let f : ⊥ = omega arith in absurd f
  fuel-more (suc fuel) room c true e h h' = refl
  fuel-more (suc fuel) room c false e h h' =
      let l : c < last_cycle = below_top w c h e in
      ap (λ (n : ℕ). suc (zero_if (ltb room (many c)) n)) (fuel-more fuel (room - many c) (next_cycle c) (stops_at w (next_cycle c)) refl (omega arith) (omega arith))

  unroll-at : (fuel room c : ℕ) → last_cycle ≤ fuel + next_cycle c
      → turns w ends room (suc fuel) false c ≡ suc (zero_if (ltb room (many c)) (turns w ends (room - many c) (suc fuel) (stops_at w (next_cycle c)) (next_cycle c)))
  unfolding turns
  unroll-at fuel room c h = ap (λ (n : ℕ). suc (zero_if (ltb room (many c)) n)) (fuel-more fuel (room - many c) (next_cycle c) (stops_at w (next_cycle c)) refl (omega arith) h)

  unroll : (room c : ℕ) → turns w ends room (2 ^ 32) false c ≡ suc (zero_if (ltb room (many c)) (turns w ends (room - many c) (2 ^ 32) (stops_at w (next_cycle c)) (next_cycle c)))
  unroll room c = unroll-at last_cycle room c (omega arith)

  -- one fewer after a turn
  one_fewer : (room c : ℕ) → many c ≤ room → turns w ends (room - many c) (2 ^ 32) (stops_at w (next_cycle c)) (next_cycle c) < turns w ends room (2 ^ 32) false c
  one_fewer room c h = le_of_eq (sym (unroll room c ∙ ap (λ (b : Bool). suc (zero_if b (turns w ends (room - many c) (2 ^ 32) (stops_at w (next_cycle c)) (next_cycle c)))) (le-ltb room (many c) h)))

  -- a loop that breaks goes over none
  pub turns-stop : (room fuel c : ℕ) → turns w ends room fuel true c ≡ 0
  unfolding turns
  turns-stop room zero c = refl
  turns-stop room (suc fuel) c = refl

  -- one more with each turn, in the values that the code has
  pub turns-turn : (room c : ℕ) {k : ℕ} {start : Float} → start ≡ cycle_start w c → k ≡ length (in_cycle w start 0 ends) → k ≤ room
      → turns w ends room (2 ^ 32) false c ≡ suc (turns w ends (room - k) (2 ^ 32) (stops_at w (next_cycle c)) (next_cycle c))
  turns-turn room c {k = k} e₁ e₂ h =
      let m : k ≡ many c = rw e₁ at e₂ in
      rw m (unroll room c ∙ ap (λ (b : Bool). suc (zero_if b (turns w ends (room - many c) (2 ^ 32) (stops_at w (next_cycle c)) (next_cycle c)))) (le-ltb room (many c) (subst (λ (n : ℕ). n ≤ room) m h)))

-- one fewer, in the values that the code has
pub turns-less : (w : Walk) (ends : List Float) (room room' c : ℕ) {stop stop' : Bool} {c' k : ℕ} {start : Float}
    → stop ≡ false → start ≡ cycle_start w c → k ≡ length (in_cycle w start 0 ends) → k ≤ room → room' ≡ room - k → c' ≡ next_cycle c → stop' ≡ stops_at w c'
    → turns w ends room' (2 ^ 32) stop' c' < turns w ends room (2 ^ 32) stop c
turns-less w ends room room' c {k = k} e₁ e₂ e₃ h e₄ e₅ e₆ =
    let m : k ≡ length (in_cycle w (cycle_start w c) 0 ends) = rw e₂ at e₃ in
    rw (e₁, e₆, e₅, e₄, m) (one_fewer w ends room c (subst (λ (n : ℕ). n ≤ room) m h))
