-- How far rounding to 24 binary digits moves a fraction: by one part in 2 ^ 24, and one unit, at most. Assumes nothing.
use mathlib.Core.Path.{◌≡◌, sym, ap, ◌∙◌}
use mathlib.Core.Logic.{inl, inr}
use Prim.Native.Nat.{ℕ, ◌+◌, ◌-◌, ◌*◌, ◌/◌, ◌%◌, ◌^◌, ◌<◌, ◌≤◌, compare}
use native.Mathlib.Nat.{le_trans, le_of_eq, mod-lt, div-add-mod', add-mul, one-mul, mul-one, mul_assoc, mul_comm, mul_right_comm, mul-le-mul_right, mul-pos, eq-zero-or-pos, le-div_iff_mul-le}
use native.Mathlib.Omega.{arith}
use lib.Pow.{pow-add, pow_pos}
use lib.Ieee.{size}
use lib.Ieee.Digits.{size_reaches}
use lib.Ieee.Nearest.{closest, nearest-ge}
use lib.Ieee.Order.{drop, kept}
use Rattle.std.proofs.lemmas.Bool.{cases_order}
use Rattle.float32.proofs.Digits.{closest-down, closest-up, closest-tie}

-- x is no more than y and one part in 2 ^ 24 more, and z units
abbrev pub Near : ℕ → ℕ → ℕ → Type 0
Near x y z = x * 16777216 ≤ y * 16777217 + z * 16777216

pub near_times : (x y z b : ℕ) → Near x y z → Near (x * b) (y * b) (z * b)
near_times x y z b h =
    let k : x * 16777216 * b ≤ (y * 16777217 + z * 16777216) * b = mul-le-mul_right b h in
    let e1 : x * 16777216 * b ≡ x * b * 16777216 = mul_right_comm x 16777216 b in
    let e2 : (y * 16777217 + z * 16777216) * b ≡ y * 16777217 * b + z * 16777216 * b = add-mul (y * 16777217) (z * 16777216) b in
    let e3 : y * 16777217 * b ≡ y * b * 16777217 = mul_right_comm y 16777217 b in
    let e4 : z * 16777216 * b ≡ z * b * 16777216 = mul_right_comm z 16777216 b in
    omega arith

pub near_is : {x x' y y' z z' : ℕ} → x ≡ x' → y ≡ y' → z ≡ z' → Near x y z → Near x' y' z'
near_is p q r h = rw (← p, ← q, ← r) h

pub near_more : (x y : ℕ) {z w : ℕ} → Near x y z → z ≤ w → Near x y w
near_more x y h k = omega arith

-- a / b to the nearest whole number is off by a half at most
pub closest-within : (a b : ℕ) → 0 < b → (a * 2 ≤ closest a b * b * 2 + b) × (closest a b * b * 2 ≤ a * 2 + b)
closest-within a b B =
    let w = a / b in
    let r = a % b in
    let d : w * b + r ≡ a = div-add-mod' a b in
    let l : r < b = mod-lt a B in
    elim (cases_order (r * 2) b) [
      | inr (inl h) ↦ rw (closest-down a b h) (omega arith, omega arith)
      | inl h ↦
          let m : w % 2 * b ≤ 1 * b = mul-le-mul_right b (small w) in
          let s : (w + w % 2) * b ≡ w * b + w % 2 * b = add-mul w (w % 2) b in
          let o : 1 * b ≡ b = one-mul b in
          rw (closest-tie a b h) (omega arith, omega arith)
      | inr (inr h) ↦
          let s : (w + 1) * b ≡ w * b + 1 * b = add-mul w 1 b in
          let o : 1 * b ≡ b = one-mul b in
          rw (closest-up a b h) (omega arith, omega arith)
    ]
  where
    small : (w : ℕ) → w % 2 ≤ 1
    small w = omega arith

-- n / c in units of the smallest value, with 24 binary digits kept
abbrev pub kept24 : ℕ → ℕ → ℕ
kept24 n c = kept 24 n c * 2 ^ drop 24 n c

module _ (n c : ℕ) (C : 0 < c) where
  abbrev k : ℕ
  k = drop 24 n c

  abbrev u : ℕ
  u = c * 2 ^ k

  within : (n * 2 ≤ kept 24 n c * u * 2 + u) × (kept 24 n c * u * 2 ≤ n * 2 + u)
  within = closest-within n u (mul-pos C (pow_pos k))

  moved : kept24 n c * c ≡ kept 24 n c * u
  moved = mul_assoc (kept 24 n c) (2 ^ k) c ∙ ap (λ (x : ℕ). kept 24 n c * x) (mul_comm (2 ^ k) c)

  -- where digits are dropped, 2 ^ 23 times the last one's unit is no more than the fraction
  full : 0 < k → 8388608 * u ≤ n
  full K =
      let e : 8388608 * 2 ^ k ≤ n / c = le_trans (le_of_eq (sym (pow-add 2 23 k))) (size_reaches (n / c) (23 + k) (reach (size (n / c)) K)) in
      le_trans (le_of_eq (ap (λ (x : ℕ). 8388608 * x) (mul_comm c (2 ^ k)) ∙ sym (mul_assoc 8388608 (2 ^ k) c))) ((le-div_iff_mul-le C).0 e)
    where
      reach : (z : ℕ) → 0 < z - 24 → 23 + (z - 24) < z
      reach z h = omega arith

  -- nor than the result
  full-kept : 0 < k → 8388608 * u ≤ kept 24 n c * u
  full-kept K = mul-le-mul_right u (le_trans ((le-div_iff_mul-le (mul-pos C (pow_pos k))).1 (full K)) (nearest-ge (n / u) (compare (n % u * 2) u)))

  unit : k ≡ 0 → u ≡ c
  unit e = rw e (mul-one c)

  pub near-low : Near n (kept24 n c * c) c
  near-low = elim (eq-zero-or-pos k) [
    | inl z ↦ let e : u ≡ c = unit z in let m = moved in let h : n * 2 ≤ kept 24 n c * u * 2 + u = within.0 in omega arith
    | inr p ↦ let m = moved in let h : n * 2 ≤ kept 24 n c * u * 2 + u = within.0 in let g : 8388608 * u ≤ kept 24 n c * u = full-kept p in omega arith
  ]

  pub near-high : Near (kept24 n c * c) n c
  near-high = elim (eq-zero-or-pos k) [
    | inl z ↦ let e : u ≡ c = unit z in let m = moved in let h : kept 24 n c * u * 2 ≤ n * 2 + u = within.1 in omega arith
    | inr p ↦ let m = moved in let h : kept 24 n c * u * 2 ≤ n * 2 + u = within.1 in let g : 8388608 * u ≤ n = full p in omega arith
  ]
