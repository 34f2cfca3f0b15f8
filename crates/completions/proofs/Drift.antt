-- Numbers alone: how far the cycle numbers can drift, through four roundings of one part in 2 ^ 24 each. D is the count of units in 1. Assumes nothing.
use mathlib.Core.Path.{◌≡◌, refl, sym, ap, ◌∙◌}
use Prim.Native.Nat.{ℕ, ◌+◌, ◌*◌, ◌<◌, ◌≤◌}
use native.Mathlib.Nat.{le_trans, le_of_eq, add-mul, one-mul, mul-one, mul_assoc, mul_comm, mul_left_comm, mul-le-mul_right, mul-le-mul_left, mul-pos, le_of_mul-le-mul_right}
use native.Mathlib.Omega.{arith}
use Rattle.float32.proofs.Near.{Near, near_times, near_is, near_more}

-- ---- four roundings, each side scaled to one unit t
-- up to some 2 ^ 32 units, one part in 2 ^ 24 is 257 units at most
near_add : (x y z t : ℕ) → Near x y z → y ≤ t * 4296015872 → x ≤ y + z + t * 257
near_add x y z t h k = omega arith

abbrev Step : ℕ → ℕ → ℕ → ℕ → Type 0
Step x y z t = y ≤ t * 4296015872 → x ≤ y + z + t * 257

chain_early : (cT c₀T t fW y x gW v : ℕ) → Step cT fW v t → Step fW y t t → y ≤ x → Step x gW v t → gW ≤ c₀T + t → v * 16 ≤ t
    → c₀T ≤ t * 4294967295 → cT ≤ c₀T + t * 774
chain_early cT c₀T t fW y x gW v h1 h2 h3 h4 h5 h6 h7 =
    let a : x ≤ gW + v + t * 257 = h4 (omega arith) in
    let b : fW ≤ y + t + t * 257 = h2 (omega arith) in
    let c : cT ≤ fW + v + t * 257 = h1 (omega arith) in
    omega arith

chain_late : (cT c'T t fW f'W y y' v : ℕ) → Step c'T f'W v t → Step f'W y' t t → y' ≤ y + t → Step y fW t t → Step fW cT v t → v * 16 ≤ t
    → cT ≤ t * 4294967295 → c'T ≤ cT + t * 1032
chain_late cT c'T t fW f'W y y' v h1 h2 h3 h4 h5 h6 h7 =
    let a : fW ≤ cT + v + t * 257 = h5 (omega arith) in
    let b : y ≤ fW + t + t * 257 = h4 (omega arith) in
    let c : f'W ≤ y' + t + t * 257 = h2 (omega arith) in
    let d : c'T ≤ f'W + v + t * 257 = h1 (omega arith) in
    omega arith

cancel_add : (c c₀ k t : ℕ) → 0 < t → c * t ≤ c₀ * t + t * k → c ≤ c₀ + k
cancel_add c c₀ k t h l =
    let e : (c₀ + k) * t ≡ c₀ * t + t * k = add-mul c₀ k t ∙ ap (λ (x : ℕ). c₀ * t + x) (mul_comm k t) in
    le_of_mul-le-mul_right (le_trans l (le_of_eq (sym e))) h

module _ (D p : ℕ) (D16 : 16 ≤ D) (P : 0 < p) where
  -- S = s / D is c as f32, which is f / D, times p / D; prev is a / b, and prev / period is g / D, cut to c₀
  pub early : (c c₀ f s a b g : ℕ) → 0 < b
      → Near (c * D) f 1 → Near (f * p * D) (s * (D * D)) (D * D) → s * b ≤ a * D → Near (a * D * D) (g * (p * b)) (p * b) → g ≤ (c₀ + 1) * D
      → c₀ ≤ 4294967295 → c ≤ c₀ + 774
  early c c₀ f s a b g B h1 h2 h3 h4 h5 h7 =
      let W = p * b * D in
      let t = D * W in
      let k1 : Near (c * t) (f * W) W = near_is (mul_assoc c D W) refl (one-mul W) (near_times (c * D) f 1 W h1) in
      let k2' : Near (f * W) (s * (D * D) * b) (D * D * b) = near_is (simp (mul_assoc, mul_comm, mul_left_comm)) refl refl (near_times (f * p * D) (s * (D * D)) (D * D) b h2) in
      let k2 : Near (f * W) (s * (D * D) * b) t = near_more (f * W) (s * (D * D) * b) k2' (le_trans (le_of_eq (sym (mul-one (D * D * b)))) (le_trans (mul-le-mul_left (D * D * b) P) (le_of_eq (simp (mul_assoc, mul_comm, mul_left_comm))))) in
      let k3 : s * (D * D) * b ≤ a * D * D * D = le_trans (le_of_eq (simp (mul_assoc, mul_comm, mul_left_comm))) (le_trans (mul-le-mul_right (D * D) h3) (le_of_eq (simp (mul_assoc, mul_comm, mul_left_comm)))) in
      let k4 : Near (a * D * D * D) (g * W) W = near_is refl (mul_assoc g (p * b) D) refl (near_times (a * D * D) (g * (p * b)) (p * b) D h4) in
      let k5 : g * W ≤ c₀ * t + t = le_trans (mul-le-mul_right W h5) (le_of_eq (mul_assoc (c₀ + 1) D W ∙ add-mul c₀ 1 t ∙ ap (λ (x : ℕ). c₀ * t + x) (one-mul t))) in
      let k6 : W * 16 ≤ t = le_trans (le_of_eq (mul_comm W 16)) (mul-le-mul_right W D16) in
      let k7 : c₀ * t ≤ t * 4294967295 = le_trans (mul-le-mul_right t h7) (le_of_eq (mul_comm 4294967295 t)) in
      cancel_add c c₀ 774 t (mul-pos (omega arith) (mul-pos (mul-pos P B) (omega arith)))
      (chain_early (c * t) (c₀ * t) t (f * W) (s * (D * D) * b) (a * D * D * D) (g * W) W
      (near_add (c * t) (f * W) W t k1) (near_add (f * W) (s * (D * D) * b) t t k2) k3 (near_add (a * D * D * D) (g * W) W t k4) k5 k6 k7)

  -- S and S' are those of c and c'; S' is not past S + period
  pub late : (c c' f f' s s' : ℕ)
      → Near (c' * D) f' 1 → Near (f' * p * D) (s' * (D * D)) (D * D) → s' ≤ s + p → Near (s * (D * D)) (f * p * D) (D * D) → Near f (c * D) 1
      → c ≤ 4294967295 → c' ≤ c + 1032
  late c c' f f' s s' h1 h2 h3 h4 h5 h7 =
      let W = p * D in
      let t = D * W in
      let DD : D * D ≤ t = le_trans (le_of_eq (sym (mul-one (D * D)))) (le_trans (mul-le-mul_left (D * D) P) (le_of_eq (simp (mul_assoc, mul_comm)))) in
      let k1 : Near (c' * t) (f' * W) W = near_is (mul_assoc c' D W) refl (one-mul W) (near_times (c' * D) f' 1 W h1) in
      let k2 : Near (f' * W) (s' * (D * D)) t = near_more (f' * W) (s' * (D * D)) (near_is (mul_assoc f' p D) refl refl h2) DD in
      let k3 : s' * (D * D) ≤ s * (D * D) + t = le_trans (mul-le-mul_right (D * D) h3) (le_of_eq (add-mul s p (D * D) ∙ ap (λ (x : ℕ). s * (D * D) + x) (simp (mul_comm, mul_left_comm)))) in
      let k4 : Near (s * (D * D)) (f * W) t = near_more (s * (D * D)) (f * W) (near_is refl (mul_assoc f p D) refl h4) DD in
      let k5 : Near (f * W) (c * t) W = near_is refl (mul_assoc c D W) (one-mul W) (near_times f (c * D) 1 W h5) in
      let k6 : W * 16 ≤ t = le_trans (le_of_eq (mul_comm W 16)) (mul-le-mul_right W D16) in
      let k7 : c * t ≤ t * 4294967295 = le_trans (mul-le-mul_right t h7) (le_of_eq (mul_comm 4294967295 t)) in
      cancel_add c' c 1032 t (mul-pos (omega arith) (mul-pos P (omega arith)))
      (chain_late (c * t) (c' * t) t (f * W) (f' * W) (s * (D * D)) (s' * (D * D)) W
      (near_add (c' * t) (f' * W) W t k1) (near_add (f' * W) (s' * (D * D)) t t k2) k3 (near_add (s * (D * D)) (f * W) t t k4) (near_add (f * W) (c * t) W t k5) k6 k7)
