-- Values of binary32 above zero, in units of 2 ^ -149: integers, products, quotients and sums of them. At one format, since the walk's drift is counted in its 24 digits (Near). Assumes nothing.
use mathlib.Core.Path.{◌≡◌, refl, sym, ap, subst, ◌∙◌}
use mathlib.Core.Bool.{Bool, true, false, cond}
use Prim.Native.Nat.{ℕ, zero, suc, ◌+◌, ◌*◌, ◌^◌, ◌<◌, ◌≤◌}
use native.Mathlib.Nat.{le_trans, le_of_eq, zero-lt-suc, add-mul, mul-one, mul_assoc, mul_comm, mul_left_comm, mul_right_comm, mul-le-mul_right, mul-pos}
use native.Mathlib.Omega.{arith}
use lib.Dec.{T, eqb, lit≤, eqb-suc-zero}
use lib.Pow.{pow_pos}
use lib.Ieee.{Float, nan, inf, fin, binary32, low, up, down, round, add, mul, div, le, fits}
use lib.Ieee.Digits.{size-le}
use lib.Ieee.Exact.{HasValue}
use lib.Ieee.Scale.{grid, finite, round_val, round_under, round_same}
use lib.Ieee.Positive.{num, den, den_pos, positive, above, own_value, value→cross, value_pos, mul_at}
use Rattle.float32.specs.Helpers.{from_u32}
use Rattle.float32.proofs.Value.{round-own}
use Rattle.float32.proofs.Grow.{round-le}
use Rattle.float32.proofs.Nonneg.{of_int_above}
use Rattle.float32.proofs.Convert.{of_int_value}
use Rattle.float32.proofs.Near.{Near, kept24, near-low, near-high}

-- how many units there are in 1
abbrev pub D : ℕ
D = 2 ^ low binary32

pub D-pos : 0 < D
D-pos = pow_pos (low binary32)

pub D-16 : 16 ≤ D
D-16 = lit≤ tt

-- ---- by the value
pub value_above : (x : Float) (a c : ℕ) → HasValue x false a c → T (above x) → T (positive x)
value_above nan a c h k = absurd h
value_above (inf s) a c h k = absurd h
value_above (fin true m e) a c h k = absurd k
value_above (fin false m e) a c h k = k

pub finite_above : (x : Float) → T (finite x) → T (above x) → T (positive x)
finite_above nan h k = absurd h
finite_above (inf s) h k = absurd h
finite_above (fin true m e) h k = absurd k
finite_above (fin false m e) h k = k

-- a value that fits is some number of units
pub fits-value : (x : Float) → T (fits binary32 x) → T (positive x) → HasValue x false (grid binary32 (num x) (den x)) D
fits-value nan h k = absurd k
fits-value (inf s) h k = absurd k
fits-value (fin true m e) h k = absurd k
fits-value (fin false zero e) h k = absurd k
fits-value (fin false (suc m) e) h k =
    let own : round binary32 false (suc m * up e) (down e) ≡ fin false (suc m) e = round-own binary32 false m e h in
    subst (λ (x : Float). HasValue x false (grid binary32 (suc m * up e) (down e)) D) own
    (round_val binary32 (suc m * up e) (down e) (round_under binary32 (suc m * up e) (down e) (subst (λ (x : Float). T (finite x)) (sym own) tt)))

-- what rounds from no more units is no larger
pub round-le_value : (x : Float) (q a : ℕ) → T (fits binary32 x) → T (positive x) → HasValue x false q D → a ≤ q → le (round binary32 false a D) x ≡ true
round-le_value nan q a p k v h = absurd k
round-le_value (inf s) q a p k v h = absurd k
round-le_value (fin true m e) q a p k v h = absurd k
round-le_value (fin false zero e) q a p k v h = absurd k
round-le_value (fin false (suc n) d) q a p k v h = round-le binary32 n d a D p D-pos (le_trans (mul-le-mul_right (down d) h) (le_of_eq (sym v.1)))

-- ---- an integer
module _ (c : ℕ) (top : c ≤ 4294967295) where
  abbrev pub int : ℕ
  int = kept24 (c * D) 1

  pub int-low : Near (c * D) int 1
  int-low = rw mul-one at (near-low (c * D) 1 (zero-lt-suc 0))

  pub int-high : Near int (c * D) 1
  int-high = rw mul-one at (near-high (c * D) 1 (zero-lt-suc 0))

  pub int-value : 0 < c → HasValue (from_u32 c) false int D
  int-value h = of_int_value binary32 c h (le_trans (size-le c 32 (below c top)) (lit≤ tt))
    where
      below : (c : ℕ) → c ≤ 4294967295 → c < 2 ^ 32
      below c l = omega arith

  pub int-positive : 0 < c → T (positive (from_u32 c))
  int-positive h = value_above (from_u32 c) int D (int-value h) (of_int_above binary32 c h)

-- ---- a product
-- with a factor above zero it is finite only where the other is
pub mul-finite : (x y : Float) → T (positive x) → T (above y) → T (finite (mul binary32 x y)) → T (positive y)
unfolding mul
mul-finite nan y p k h = absurd p
mul-finite (inf s) y p k h = absurd p
mul-finite (fin true m e) y p k h = absurd p
mul-finite (fin false m e) nan p k h = absurd k
mul-finite (fin false m e) (inf true) p k h = absurd k
mul-finite (fin false m e) (inf false) p k h = go (eqb m 0) h
  where
    go : (b : Bool) → T (finite (cond b nan (inf false))) → ⊥
    go true g = g
    go false g = g
mul-finite (fin false m e) (fin true n d) p k h = absurd k
mul-finite (fin false m e) (fin false n d) p k h = k

pub mul-value : (x y : Float) (a b : ℕ) → T (positive x) → T (positive y) → HasValue x false a D → HasValue y false b D → T (finite (mul binary32 x y))
    → HasValue (mul binary32 x y) false (kept24 (a * b * D) (D * D)) D
mul-value x y a b p q v w h =
    let e : mul binary32 x y ≡ round binary32 false (a * b) (D * D) = mul_at binary32 x y a D b D p q D-pos D-pos v w in
    subst (λ (z : Float). HasValue z false (kept24 (a * b * D) (D * D)) D) (sym e)
    (round_val binary32 (a * b) (D * D) (round_under binary32 (a * b) (D * D) (subst (λ (z : Float). T (finite z)) e h)))

-- ---- a quotient
div_is : (x y : Float) → T (positive x) → T (positive y) → div binary32 x y ≡ round binary32 false (num x * den y) (num y * den x)
unfolding div
div_is nan y p q = absurd p
div_is (inf s) y p q = absurd p
div_is (fin true m e) y p q = absurd p
div_is (fin false m e) nan p q = absurd q
div_is (fin false m e) (inf t) p q = absurd q
div_is (fin false m e) (fin true n d) p q = absurd q
div_is (fin false m e) (fin false zero d) p q = absurd q
div_is (fin false m e) (fin false (suc n) d) p q = rw (eqb-suc-zero n)

pub div-at : (x y : Float) (b : ℕ) → T (positive x) → T (positive y) → HasValue y false b D → div binary32 x y ≡ round binary32 false (num x * D) (b * den x)
div-at x y b p q w =
    div_is x y p q
    ∙ round_same binary32 false (num x * den y) (num y * den x) (num x * D) (b * den x) (mul-pos (num_pos y q) (den_pos x)) (mul-pos (value_pos y b D q D-pos w) (den_pos x))
    (cross (num x) (den x) (num y) (den y) b D (value→cross y b D w))
  where
    num_pos : (x : Float) → T (positive x) → 0 < num x
    num_pos x k = value_pos x (num x) (den x) k (den_pos x) (own_value x k)

    cross : (nx dx ny dy b D : ℕ) → ny * D ≡ b * dy → nx * dy * (b * dx) ≡ nx * D * (ny * dx)
    cross nx dx ny dy b D h =
        let e : nx * dx * (b * dy) ≡ nx * dx * (ny * D) = ap (λ (z : ℕ). nx * dx * z) (sym h) in
        let l : nx * dy * (b * dx) ≡ nx * dx * (b * dy) = simp (mul_assoc, mul_comm, mul_left_comm) in
        let r : nx * dx * (ny * D) ≡ nx * D * (ny * dx) = simp (mul_assoc, mul_comm, mul_left_comm) in
        l ∙ e ∙ r

-- ---- a sum
add_is : (x y : Float) → T (positive x) → T (positive y) → add binary32 x y ≡ round binary32 false (num x * den y + num y * den x) (den x * den y)
unfolding add
add_is nan y p q = absurd p
add_is (inf s) y p q = absurd p
add_is (fin true m e) y p q = absurd p
add_is (fin false m e) nan p q = absurd q
add_is (fin false m e) (inf t) p q = absurd q
add_is (fin false m e) (fin true n d) p q = absurd q
add_is (fin false m e) (fin false n d) p q = refl

pub add_at : (x y : Float) (a b : ℕ) → T (positive x) → T (positive y) → HasValue x false a D → HasValue y false b D → add binary32 x y ≡ round binary32 false (a + b) D
add_at x y a b p q v w =
    add_is x y p q
    ∙ round_same binary32 false (num x * den y + num y * den x) (den x * den y) (a + b) D (mul-pos (den_pos x) (den_pos y)) D-pos
    (cross (num x) (den x) (num y) (den y) a b D (value→cross x a D v) (value→cross y b D w))
  where
    cross : (nx dx ny dy a b D : ℕ) → nx * D ≡ a * dx → ny * D ≡ b * dy → (nx * dy + ny * dx) * D ≡ (a + b) * (dx * dy)
    cross nx dx ny dy a b D h k =
        add-mul (nx * dy) (ny * dx) D
        ∙ ap (λ (z : ℕ). z + ny * dx * D) (mul_right_comm nx dy D ∙ ap (λ (z : ℕ). z * dy) h ∙ mul_assoc a dx dy)
        ∙ ap (λ (z : ℕ). a * (dx * dy) + z) (mul_right_comm ny dx D ∙ ap (λ (z : ℕ). z * dx) k ∙ mul_assoc b dy dx ∙ ap (λ (z : ℕ). b * z) (mul_comm dy dx))
        ∙ sym (add-mul a b (dx * dy))
