-- What holds where checks do not refuse.
use Prim.Native.Nat.{ℕ, suc}
use mathlib.Core.Path.{◌≡◌, refl}
use mathlib.Core.Bool.{Bool, true, false, cond, not}
use native.Mathlib.Omega.{arith}
use borrow.Author.Tests.{eqb-true, eqb-false}
use lib.Dec.{eqb}
use Rattle.refusal.specs.Refusal.{refused_if, in_turn}

-- a check that does not refuse was passed, and so were those after it
pub passed : (refused : Bool) (number next : ℕ) → refused_if refused (suc number) next ≡ 0 → (refused ≡ false) × (next ≡ 0)
passed true number next e = absurd (omega arith)
passed false number next e = (refl, e)

-- the same of a check that something is good
pub passed_good : (good : Bool) (number next : ℕ) → refused_if (not good) (suc number) next ≡ 0 → (good ≡ true) × (next ≡ 0)
passed_good true number next e = (refl, e)
passed_good false number next e = absurd (omega arith)

pub in_turn_lem : (first second : ℕ) → in_turn first second ≡ 0 → (first ≡ 0) × (second ≡ 0)
in_turn_lem first second e = go (eqb first 0) refl e
  where
    go : (b : Bool) → eqb first 0 ≡ b → cond b second first ≡ 0 → (first ≡ 0) × (second ≡ 0)
    go true t q = (eqb-true first 0 t, q)
    go false t q = absurd (eqb-false first 0 t q)
