-- The loop over the cycles: its fuel never runs out.
use mathlib.Core.Path.{◌≡◌, refl, ap, sym, ◌∙◌}
use mathlib.Core.Bool.{Bool, true, false, true≢false}
use mathlib.Core.List.{List, [], ◌++◌}
use Prim.Native.Nat.{ℕ, zero, suc, ◌+◌, ◌≤◌, ◌<◌, ◌^◌}
use native.Mathlib.Omega.{arith}
use lib.Ieee.{Float}
use borrow.Author.Tests.{eq-eqb}
use Rattle.completions.specs.declared.Walk.{Walk}
use Rattle.completions.specs.Completions.{cycle_start, in_cycle, last_cycle, next_cycle, stops_at, cycles}

-- a cycle at which the loop does not stop is not the last
pub top_stops : (w : Walk) (c : ℕ) → c ≡ last_cycle → stops_at w c ≡ true
unfolding stops_at
top_stops w c e = rw (eq-eqb c last_cycle e)

pub below_top : (w : Walk) (c : ℕ) → c ≤ last_cycle → stops_at w c ≡ false → c < last_cycle
below_top w c h e =
    let ne : c ≡ last_cycle → ⊥ = λ t. true≢false (sym (top_stops w c t) ∙ e) in
    omega arith

module _ (w : Walk) (ends : List Float) where
  -- a loop that breaks lists nothing more
  pub cycles-stop : (fuel c : ℕ) → cycles w ends fuel true c ≡ []
  unfolding cycles
  cycles-stop zero c = refl
  cycles-stop (suc fuel) c = refl

  -- where as much fuel is left as there are cycles, one unit more lists the same
  fuel-more : (fuel c : ℕ) (stop : Bool) → stops_at w c ≡ stop → c ≤ last_cycle → last_cycle ≤ fuel + c → cycles w ends fuel stop c ≡ cycles w ends (suc fuel) stop c
  unfolding cycles
  fuel-more zero c true e h h' = refl
  fuel-more zero c false e h h' = let l : c < last_cycle = below_top w c h e in let f : ⊥ = omega arith in absurd f
  fuel-more (suc fuel) c true e h h' = refl
  fuel-more (suc fuel) c false e h h' =
      let l : c < last_cycle = below_top w c h e in
      ap (λ (xs : List ℕ). in_cycle w (cycle_start w c) 0 ends ++ xs) (fuel-more fuel (next_cycle c) (stops_at w (next_cycle c)) refl (omega arith) (omega arith))

  unroll-at : (fuel c : ℕ) → last_cycle ≤ fuel + next_cycle c
      → cycles w ends (suc fuel) false c ≡ in_cycle w (cycle_start w c) 0 ends ++ cycles w ends (suc fuel) (stops_at w (next_cycle c)) (next_cycle c)
  unfolding cycles
  unroll-at fuel c h = ap (λ (xs : List ℕ). in_cycle w (cycle_start w c) 0 ends ++ xs) (fuel-more fuel (next_cycle c) (stops_at w (next_cycle c)) refl (omega arith) h)

  -- a turn of the loop at full fuel: this cycle's numbers, then those of the next. `cycles` stays shut: open, it would be run
  unroll : (c : ℕ) → cycles w ends (2 ^ 32) false c ≡ in_cycle w (cycle_start w c) 0 ends ++ cycles w ends (2 ^ 32) (stops_at w (next_cycle c)) (next_cycle c)
  unroll c = unroll-at last_cycle c (omega arith)

-- a turn, in the values that the code has
pub turn : (w : Walk) (ends : List Float) (c : ℕ) {stop stop' : Bool} {c' : ℕ} {start : Float}
    → stop ≡ false → start ≡ cycle_start w c → c' ≡ next_cycle c → stop' ≡ stops_at w c'
    → cycles w ends (2 ^ 32) stop c ≡ in_cycle w start 0 ends ++ cycles w ends (2 ^ 32) stop' c'
turn w ends c e₁ e₂ e₃ e₄ = rw (e₁, e₂, e₄, e₃) (unroll w ends c)
