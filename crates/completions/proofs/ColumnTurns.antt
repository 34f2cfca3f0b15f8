-- The turns of loops over two columns, by the columns' values.
use Prim.Native.Nat.{ℕ, ◌+◌, ◌<◌, ◌≤◌}
use mathlib.Core.Path.{◌≡◌, sym, ap, ◌∙◌}
use mathlib.Core.Bool.{Bool}
use mathlib.Core.List.{List, [], foldl}
use native.Mathlib.Omega.{arith}
use lib.ListN.{length, get_or, drop}
use lib.Ieee.{Float, nan, binary32, add}
use Rattle.float32.specs.Helpers.{max_f}
use Rattle.steps.proofs.Lists.{fold_more, fold_end}
use Rattle.completions.specs.declared.Walk.{Walk}
use Rattle.completions.specs.Completions.{completes, keep}
use Rattle.completions.specs.Columns.{ends_of, ends_in}
use Rattle.completions.proofs.Columns.{all_at, ends-long, ends_at}
use Rattle.completions.proofs.Cycle.{rest, rest-turn, rest_end}

module _ (n : ℕ) (ss ds : List Float) (h : n ≤ length ss) (k : n ≤ length ds) (i : ℕ) where
  below : i < n → i < length (ends_in n ss ds)
  below g = omega (arith, ends-long n ss ds h k)

  past : n ≤ i → length (ends_in n ss ds) ≤ i
  past g = omega (arith, ends-long n ss ds h k)

  here : i < n → get_or (ends_in n ss ds) i nan ≡ add binary32 (get_or ss i nan) (get_or ds i nan)
  here g = ends_at n ss ds i g (omega arith) (omega arith)

  -- one cycle
  pub cycle-turn : (w : Walk) (start : Float) → i < n → (b : Bool) → b ≡ completes w start (add binary32 (get_or ss i nan) (get_or ds i nan))
      → rest w start (ends_in n ss ds) i ≡ keep b i (rest w start (ends_in n ss ds) (i + 1))
  cycle-turn w start g b e = rest-turn w start (ends_in n ss ds) i b (below g) (e ∙ ap (completes w start) (sym (here g)))

  pub cycle-end : (w : Walk) (start : Float) → n ≤ i → rest w start (ends_in n ss ds) i ≡ []
  cycle-end w start g = rest_end w start (ends_in n ss ds) i (past g)

  -- the base
  pub base-turn : (acc r z : Float) → i < n → r ≡ max_f acc (add binary32 (get_or ss i nan) (get_or ds i nan))
      → foldl max_f acc (drop i (ends_in n ss ds)) ≡ z → foldl max_f r (drop (i + 1) (ends_in n ss ds)) ≡ z
  base-turn acc r z g e p = fold_more max_f acc r z n (ends_of ss ds) i nan (below g) (e ∙ ap (max_f acc) (sym (all_at ss ds i (omega arith) (omega arith)))) p

  pub base-end : (acc z : Float) → n ≤ i → foldl max_f acc (drop i (ends_in n ss ds)) ≡ z → acc ≡ z
  base-end acc z g p = fold_end max_f acc z (ends_in n ss ds) i (past g) p
