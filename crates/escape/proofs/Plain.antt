-- Which bytes stand for themselves.
use Prim.Native.Nat.{ℕ, ◌≤◌, ◌<◌}
use mathlib.Core.Path.{◌≡◌, sym}
use mathlib.Core.Bool.{true, false, and-true}
use borrow.Author.Tests.{leb-true, not-true, le-leb, lt-leb, ne_eqb}
use lib.Dec.{leb, eqb}
use Rattle.std.proofs.lemmas.Bool.{and_parts}
use Rattle.escape.specs.Escape.{plain}

-- ---- the test, bound by bound

pub plain-low : (b : ℕ) → b < 32 → leb 32 b ≡ plain b
plain-low b h = rw (lt-leb 32 b h)

pub plain-high : (b : ℕ) → 32 ≤ b → (b ≡ 92 → ⊥) → leb b 126 ≡ plain b
plain-high b h n = rw (le-leb 32 b h, ne_eqb b 92 n) (sym (and-true (leb b 126)))

-- ---- what the test tells

pub plain-within : (b : ℕ) → plain b ≡ true → (32 ≤ b) × (b ≤ 126)
plain-within b e =
    let p = and_parts _ _ e in
    (leb-true 32 b p.0, leb-true b 126 (and_parts (leb b 126) _ p.1).0)

pub plain_other : (b : ℕ) → plain b ≡ true → eqb b 92 ≡ false
plain_other b e = not-true (eqb b 92) (and_parts (leb b 126) _ (and_parts (leb 32 b) _ e).1).1
