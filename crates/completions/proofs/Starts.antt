-- Where the cycles of a walk start: in which of them what ends with the cycle comes before the step, and how soon after the step the starts pass it. Assumes nothing.
use mathlib.Core.Path.{◌≡◌, refl, sym, ap, subst, ◌∙◌}
use mathlib.Core.Logic.{inl, inr}
use mathlib.Core.Bool.{Bool, true, false, true≢false, false≢true}
use Prim.Native.Nat.{ℕ, ◌+◌, ◌*◌, ◌<◌, ◌≤◌}
use native.Mathlib.Nat.{le_trans, le_of_eq, le_of_lt, mul-one, mul_assoc, mul-le-mul_right, mul-le-mul_left, mul-pos, zero-mul, eq-zero-or-pos, le_of_mul-le-mul_right}
use native.Mathlib.Omega.{arith}
use borrow.Author.Tests.{ltb-true, ltb-false}
use lib.Dec.{T, ltb}
use lib.Ieee.{Float, nan, inf, fin, binary32, add, mul, div, round, le, lt, fits}
use lib.Ieee.Fits.{mul-fits}
use lib.Ieee.Exact.{HasValue}
use lib.Ieee.Scale.{finite, grid, round_val, round_under}
use lib.Ieee.Positive.{num, den, den_pos, positive, above, own_value, value_pos, positive_of_value, positive-finite, above_of_le, values_of_le, cross→le, mul_mono}
use Rattle.float32.specs.Helpers.{zero_f, max_f, from_u32, to_u32, nonneg_f}
use Rattle.float32.proofs.Order.{lt_of_le_of_lt, not-lt_of_le}
use Rattle.float32.proofs.Nonneg.{max-zero_same, round-nonneg, mul-above, of_int_above}
use Rattle.float32.proofs.Convert.{of_int_mono}
use Rattle.float32.proofs.Cut.{cut_finite, cut_below}
use Rattle.float32.proofs.Near.{Near, near_times, kept24, near-low, near-high}
use Rattle.completions.proofs.Drift as drift
use Rattle.float32.proofs.Units.{D, D-pos, D-16, finite_above, fits-value, round-le_value, int, int-low, int-high, int-value, int-positive, mul-finite, mul-value, div-at, add_at}

pub T_true : (b : Bool) → b ≡ true → T b
T_true true e = tt
T_true false e = absurd (false≢true e)

-- by contradiction
not-above : (a b : ℕ) → (b < a → a ≤ b) → a ≤ b
not-above a b h = go (ltb b a) refl
  where
    go : (t : Bool) → ltb b a ≡ t → a ≤ b
    go true e = h (ltb-true b a e)
    go false e = ltb-false b a e

-- no start from cycle 2 on is 0
start_pos : (d c f s p : ℕ) → 16 ≤ d → 0 < p → 2 ≤ c → Near (c * d) f 1 → Near (f * p * d) (s * (d * d)) (d * d) → 0 < s
start_pos d c f s p D16 P C h1 h2 = elim (eq-zero-or-pos s) [
  | inl z ↦
      let k1 : Near (c * d * d) (f * d) (1 * d) = near_times (c * d) f 1 d h1 in
      let k2 : s * (d * d) ≡ 0 = ap (λ (x : ℕ). x * (d * d)) z ∙ zero-mul (d * d) in
      let k3 : f * d ≤ f * p * d = mul-le-mul_right d (le_trans (le_of_eq (sym (mul-one f))) (mul-le-mul_left f P)) in
      let k4 : 2 * d * d ≤ c * d * d = mul-le-mul_right d (mul-le-mul_right d C) in
      let k5 : 2 * d * d ≡ 2 * (d * d) = mul_assoc 2 d d in
      let k6 : 16 * d ≤ d * d = mul-le-mul_right d D16 in
      let k7 : 0 < d * d = mul-pos (omega arith) (omega arith) in
      absurd (no (c * d * d) (f * d) d (d * d) (f * p * d) (s * (d * d)) k1 h2 k2 k3 (omega arith) k6 k7)
  | inr p ↦ p
]
  where
    no : (x y d dd z s : ℕ) → Near x y (1 * d) → Near z s dd → s ≡ 0 → y ≤ z → 2 * dd ≤ x → 16 * d ≤ dd → 0 < dd → ⊥
    no x y d dd z s h1 h2 h3 h4 h5 h6 h7 = omega arith

pub above_nonneg : (x : Float) → T (above x) → nonneg_f x ≡ true
above_nonneg nan h = absurd h
above_nonneg (inf true) h = absurd h
above_nonneg (inf false) h = refl
above_nonneg (fin true m e) h = absurd h
above_nonneg (fin false m e) h = refl

pub lt-finite : (x y : Float) → nonneg_f x ≡ true → lt x y ≡ true → T (finite x)
unfolding lt
lt-finite nan y h k = absurd (false≢true h)
lt-finite (inf true) y h k = absurd (false≢true h)
lt-finite (inf false) nan h k = absurd (false≢true k)
lt-finite (inf false) (inf t) h k = absurd (false≢true k)
lt-finite (inf false) (fin t n d) h k = absurd (false≢true k)
lt-finite (fin s m e) y h k = tt

pub le-finite : (x y : Float) → nonneg_f x ≡ true → T (le x y) → T (finite y) → T (finite x)
unfolding le
le-finite nan y h k f = absurd (false≢true h)
le-finite (inf true) y h k f = absurd (false≢true h)
le-finite (inf false) nan h k f = absurd f
le-finite (inf false) (inf t) h k f = absurd f
le-finite (inf false) (fin t n d) h k f = absurd k
le-finite (fin s m e) y h k f = tt

-- ---- a period that fits and is above zero, and the starts of its cycles
module _ (P : Float) (fit : T (fits binary32 P)) (up : T (above P)) where
  abbrev pub start : ℕ → Float
  start c = mul binary32 (from_u32 c) P

  -- the numbers of a start that is finite
  module _ (c : ℕ) (two : 2 ≤ c) (top : c ≤ 4294967295) (h : T (finite (start c))) where
    c_pos : T (positive (from_u32 c))
    c_pos = int-positive c top (omega arith)

    pub P_pos : T (positive P)
    P_pos = mul-finite (from_u32 c) P c_pos up h

    abbrev p : ℕ
    p = grid binary32 (num P) (den P)

    p-value : HasValue P false p D
    p-value = fits-value P fit P_pos

    p-pos : 0 < p
    p-pos = value_pos P p D P_pos D-pos p-value

    abbrev s : ℕ
    s = kept24 (int c top * p * D) (D * D)

    s-value : HasValue (start c) false s D
    s-value = mul-value (from_u32 c) P (int c top) p c_pos P_pos (int-value c top (omega arith)) p-value h

    s-low : Near (int c top * p * D) (s * (D * D)) (D * D)
    s-low = near-low (int c top * p * D) (D * D) (mul-pos D-pos D-pos)

    s-high : Near (s * (D * D)) (int c top * p * D) (D * D)
    s-high = near-high (int c top * p * D) (D * D) (mul-pos D-pos D-pos)

    s-pos : T (positive (start c))
    s-pos = positive_of_value (start c) s D s-value (start_pos D c (int c top) s p D-16 p-pos two (int-low c top) s-low)

  pub start-nonneg : (c : ℕ) → 0 < c → nonneg_f (start c) ≡ true
  start-nonneg c h = mul-above binary32 (from_u32 c) P (of_int_above binary32 c h) up

  abbrev pub first : Float → ℕ
  first prev = to_u32 (max_f (div binary32 prev P) zero_f)

  -- a cycle that starts no later than prev is at most 774 past the first
  pub early : (prev : Float) (c : ℕ) → T (finite prev) → c ≤ 4294967295 → T (finite (start c)) → le (start c) prev ≡ true → c ≤ first prev + 774
  early prev c fin-prev top h l =
      not-above c (first prev + 774) (λ far.
      let two : 2 ≤ c = omega arith in
      let pos_p : T (positive P) = P_pos c two top h in
      let pos_v : T (positive prev) = finite_above prev fin-prev (above_of_le (start c) prev (s-pos c two top h) (T_true _ l)) in
      let q : ℕ = p c two top h in
      let Q : 0 < q = p-pos c two top h in
      let is_q : div binary32 prev P ≡ round binary32 false (num prev * D) (q * den prev) = div-at prev P q pos_v pos_p (p-value c two top h) in
      let non : nonneg_f (div binary32 prev P) ≡ true = rw is_q (round-nonneg binary32 (num prev * D) (q * den prev)) in
      let cut : max_f (div binary32 prev P) zero_f ≡ round binary32 false (num prev * D) (q * den prev) = max-zero_same (div binary32 prev P) non ∙ is_q in
      let low : to_u32 (round binary32 false (num prev * D) (q * den prev)) < 4294967295 = subst (λ (x : Float). to_u32 x < 4294967295) cut (below far) in
      let fin-q : T (finite (round binary32 false (num prev * D) (q * den prev))) = cut_finite 32 (round binary32 false (num prev * D) (q * den prev)) (round-nonneg binary32 (num prev * D) (q * den prev)) low in
      let val : HasValue (round binary32 false (num prev * D) (q * den prev)) false (grid binary32 (num prev * D) (q * den prev)) D =
      round_val binary32 (num prev * D) (q * den prev) (round_under binary32 (num prev * D) (q * den prev) fin-q) in
      let g-le : grid binary32 (num prev * D) (q * den prev) ≤ (first prev + 1) * D =
      subst (λ (x : Float). grid binary32 (num prev * D) (q * den prev) ≤ (to_u32 x + 1) * D) (sym cut) (cut_below 32 (round binary32 false (num prev * D) (q * den prev)) (grid binary32 (num prev * D) (q * den prev)) D D-pos val low) in
      drift.early D q D-16 Q c (first prev) (int c top) (s c two top h) (num prev) (den prev) (grid binary32 (num prev * D) (q * den prev)) (den_pos prev)
      (int-low c top) (s-low c two top h)
      (values_of_le (start c) prev (s c two top h) D (num prev) (den prev) (s-pos c two top h) pos_v (s-value c two top h) (own_value prev pos_v) (T_true _ l))
      (near-low (num prev * D * D) (q * den prev) (mul-pos Q (den_pos prev)))
      g-le (le_of_lt (below far)))
    where
      below : first prev + 774 < c → first prev < 4294967295
      below h = omega arith

  -- where what ends with cycle c comes after the step, the cycles that start within it are at most 1032 more
  pub late : (base next : Float) (c c' : ℕ) → T (fits binary32 base) → T (above base) → le base P ≡ true → 2 ≤ c → c ≤ 4294967295 → c' ≤ 4294967295
      → le (start c') next ≡ true → lt next (add binary32 (start c) base) ≡ true → c' ≤ c + 1032
  late base next c c' fit-b up-b b-le two top top' l k =
      not-above c' (c + 1032) (λ far.
      let two' : 2 ≤ c' = omega arith in
      let under : lt (start c') (add binary32 (start c) base) ≡ true = lt_of_le_of_lt (start c') next (add binary32 (start c) base) l k in
      let h' : T (finite (start c')) = lt-finite (start c') (add binary32 (start c) base) (start-nonneg c' (omega arith)) under in
      let pos_p : T (positive P) = P_pos c' two' top' h' in
      let mono : T (le (start c) (start c')) =
      mul_mono binary32 (from_u32 c) (from_u32 c') P P (int-positive c top (omega arith)) (int-positive c' top' (omega arith)) pos_p pos_p (T_true _ (of_int_mono binary32 c c' (omega arith))) (cross→le P P pos_p pos_p (le_of_eq refl)) in
      let h : T (finite (start c)) = le-finite (start c) (start c') (start-nonneg c (omega arith)) mono h' in
      let pos-b : T (positive base) = finite_above base (le-finite base P (above_nonneg base up-b) (T_true _ b-le) (positive-finite P pos_p)) up-b in
      let b : ℕ = grid binary32 (num base) (den base) in
      let b-value : HasValue base false b D = fits-value base fit-b pos-b in
      let b-p : b ≤ p c two top h = le_of_mul-le-mul_right (values_of_le base P b D (p c two top h) D pos-b pos_p b-value (p-value c two top h) (T_true _ b-le)) D-pos in
      let near : s c' two' top' h' ≤ s c two top h + b = not-above (s c' two' top' h') (s c two top h + b) (λ over.
      absurd (true≢false (sym under ∙ not-lt_of_le (add binary32 (start c) base) (start c')
      (rw (add_at (start c) base (s c two top h) b (s-pos c two top h) pos-b (s-value c two top h) b-value)
      (round-le_value (start c') (s c' two' top' h') (s c two top h + b) (mul-fits binary32 (from_u32 c') P) (s-pos c' two' top' h') (s-value c' two' top' h') (le_of_lt over)))))) in
      drift.late D (p c two top h) D-16 (p-pos c two top h) c c' (int c top) (int c' top') (s c two top h) (s c' two' top' h')
      (int-low c' top') (s-low c' two' top' h') (more (s c' two' top' h') (s c two top h) b (p c two top h) near b-p) (s-high c two top h) (int-high c top) top)
    where
      more : (x y b p : ℕ) → x ≤ y + b → b ≤ p → x ≤ y + p
      more x y b p h k = omega arith
