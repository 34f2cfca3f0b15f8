-- In which cycles of a walk the longest entry completes: in all but the first few and the last few.
use mathlib.Core.Path.{◌≡◌, refl, ap, sym, subst, ◌∙◌}
use mathlib.Core.Logic.{◌⊎◌, inl, inr}
use mathlib.Core.Bool.{Bool, true, false, true≢false, or-true}
use mathlib.Core.List.{List, [], ◌∷◌, foldl, map}
use Prim.Native.Nat.{ℕ, suc, ◌+◌, ◌*◌, ◌≤◌, ◌<◌}
use native.Mathlib.Nat.{le_trans, le_of_eq, zero-lt-suc, mul-one, mul-pos, mul-le-mul_right}
use native.Mathlib.Omega.{arith}
use lib.Dec.{T, eqb}
use lib.IntN.{ℤ}
use lib.ListN.{length}
use lib.Ieee.{Float, nan, inf, fin, binary32, up, down, round, add, mul, lt, le, fits, of_bits}
use lib.Ieee.Fits.{add-fits, mul-fits, down_pos}
use lib.Ieee.Scale.{finite}
use lib.Ieee.Positive.{above, above_of_le}
use Rattle.float32.specs.Helpers.{max_f, from_u32, nonneg_f}
use Rattle.float32.proofs.Order as order
use Rattle.float32.proofs.Order.{le_of_not_lt, lt-or_le, lt-no_nan}
use Rattle.float32.proofs.MaxMin.{max-all}
use Rattle.float32.proofs.Nonneg.{add-nonneg, nonneg_no_nan, nonneg_of_ge}
use Rattle.float32.proofs.Grow.{add-ge, le-round}
use Rattle.std.proofs.lemmas.Bool.{or_parts}
use Rattle.steps.specs.Times.{two_f, end_at}
use Rattle.steps.specs.declared.Entry.{Entry}
use Rattle.completions.proofs.Starts as starts
use Rattle.completions.proofs.Starts.{T_true, above_nonneg, lt-finite, le-finite}
use Rattle.completions.specs.declared.Walk.{Walk}
use Rattle.completions.specs.Completions.{cycle_start, completes, keep, in_cycle, last_cycle, reaches, breaks_at, stops_at, first_cycle}
use Rattle.completions.proofs.Fuel.{StopsFrom, Lists}

-- ---- the base is one of the ends
abbrev pub Has : Float → List Float → Type 0
Has x [] = ⊥
Has x (y ∷ ys) = (x ≡ y) ⊎ Has x ys

pub largest_has : (acc : Float) (xs : List Float) → (foldl max_f acc xs ≡ acc) ⊎ Has (foldl max_f acc xs) xs
largest_has acc [] = inl refl
largest_has acc (x ∷ xs) = elim (largest_has (max_f acc x) xs) [
  | inl e ↦ elim (max-all acc x (λ (m : Float). (m ≡ acc) ⊎ (m ≡ x)) (inl refl) (inr refl)) [ inl a ↦ inl (e ∙ a) | inr b ↦ inr (inl (e ∙ b)) ]
  | inr h ↦ inr (inr h)
]

pub has_fits : (x : Float) (es : List Entry) → Has x (map end_at es) → T (fits binary32 x)
has_fits x [] h = absurd h
has_fits x (e ∷ es) h = elim h [
  | inl p ↦ subst (λ (z : Float). T (fits binary32 z)) (sym p) (add-fits binary32 e.start e.duration)
  | inr q ↦ has_fits x es q
]

keep_some : (b : Bool) (i : ℕ) (xs : List ℕ) → 0 < length xs → 0 < length (keep b i xs)
keep_some true i xs h = zero-lt-suc (length xs)
keep_some false i xs h = h

-- a cycle in which it completes lists an entry
has_lists : (w : Walk) (start x : Float) (i : ℕ) (ends : List Float) → Has x ends → completes w start x ≡ true → 0 < length (in_cycle w start i ends)
unfolding in_cycle
has_lists w start x i [] h e = absurd h
has_lists w start x i (y ∷ ys) h e = elim h [
  | inl p ↦ rw (← p, e) (zero-lt-suc (length (in_cycle w start (suc i) ys)))
  | inr q ↦ keep_some (completes w start y) i (in_cycle w start (suc i) ys) (has_lists w start x (suc i) ys q e)
]

-- ---- twice the base
double_is : (m : ℕ) (e : ℤ) → mul binary32 (fin false m e) two_f ≡ round binary32 false (m * up e * 2) (down e * 1)
unfolding mul of_bits
double_is m e = refl

pub le-double : (x : Float) → T (fits binary32 x) → T (above x) → le x (mul binary32 x two_f) ≡ true
le-double nan p h = absurd h
le-double (inf true) p h = absurd h
le-double (inf false) p h = unfold mul le of_bits in refl
le-double (fin true m e) p h = absurd h
le-double (fin false m e) p h =
    rw (double_is m e)
    (le-round binary32 m e (m * up e * 2) (down e * 1) p (mul-pos (down_pos e) (zero-lt-suc 0)) (twice (m * up e) (down e)))
  where
    twice : (a d : ℕ) → a * (d * 1) ≤ a * 2 * d
    twice a d = le_trans (le_of_eq (ap (λ (x : ℕ). a * x) (mul-one d))) (mul-le-mul_right d (more a))
      where
        more : (a : ℕ) → a ≤ a * 2
        more a = omega arith

pub above_of_above : (x y : Float) → T (above x) → T (le x y) → T (above y)
above_of_above nan y h k = absurd h
above_of_above (inf true) y h k = absurd h
above_of_above (inf false) nan h k = unfold le in k
above_of_above (inf false) (inf true) h k = unfold le in k
above_of_above (inf false) (inf false) h k = tt
above_of_above (inf false) (fin t n d) h k = absurd (unfold le in k)
above_of_above (fin true m e) y h k = absurd h
above_of_above (fin false m e) y h k = above_of_le (fin false m e) y h k

-- ---- the tests of the loop
no_break : (w : Walk) (c : ℕ) → stops_at w c ≡ false → lt w.step.next (cycle_start w c) ≡ false
unfolding stops_at breaks_at
no_break w c h = (or_parts (reaches w.max_cycles c) _ (or_parts (eqb c last_cycle) _ h).1).1

stops : (w : Walk) (c : ℕ) → lt w.step.next (cycle_start w c) ≡ true → stops_at w c ≡ true
unfolding stops_at breaks_at
stops w c h = rw (h, or-true (reaches w.max_cycles c)) (or-true (eqb c last_cycle))

-- ---- the cycles of a walk whose base is one of the ends, and no longer than the period
module _ (w : Walk) (ends : List Float) (base : Float) (fit-b : T (fits binary32 base)) (up-b : T (above base)) (has : Has base ends) (fit : T (fits binary32 w.period))
    (b-le : le base w.period ≡ true) (goes : lt w.step.prev w.step.next ≡ true) where
  up-p : T (above w.period)
  up-p = above_of_above base w.period up-b (T_true _ b-le)

  start_is : (c : ℕ) → cycle_start w c ≡ starts.start w.period fit up-p c
  unfolding cycle_start
  start_is c = refl

  abbrev start : ℕ → Float
  start c = starts.start w.period fit up-p c

  -- of `Starts`, at the walk's period: a module's parameters cannot be opened
  start-nonneg : (c : ℕ) → 0 < c → nonneg_f (start c) ≡ true
  start-nonneg = starts.start-nonneg w.period fit up-p

  end-nonneg : (c : ℕ) → 0 < c → nonneg_f (add binary32 (start c) base) ≡ true
  end-nonneg c h = add-nonneg binary32 (start c) base (start-nonneg c h) (above_nonneg base up-b)

  -- the base ends before the step
  too-early : (c : ℕ) → 0 < c → c ≤ last_cycle → lt w.step.prev (add binary32 (start c) base) ≡ false → c ≤ first_cycle w + 774
  too-early c h top k =
      let l : le (add binary32 (start c) base) w.step.prev ≡ true =
      le_of_not_lt w.step.prev (add binary32 (start c) base) (lt-no_nan w.step.prev w.step.next goes).0 (nonneg_no_nan _ (end-nonneg c h)) k in
      let s : le (start c) w.step.prev ≡ true =
      order.le_trans (start c) (add binary32 (start c) base) w.step.prev (add-ge binary32 (start c) base (mul-fits binary32 (from_u32 c) w.period) (start-nonneg c h) (above_nonneg base up-b)) l in
      let f : T (finite w.step.prev) = lt-finite w.step.prev w.step.next (nonneg_of_ge (start c) w.step.prev (start-nonneg c h) s) goes in
      starts.early w.period fit up-p w.step.prev c f top (le-finite (start c) w.step.prev (start-nonneg c h) (T_true _ s) f) s

  -- or after it
  too-late : (c : ℕ) → 2 ≤ c → c ≤ last_cycle → lt w.step.next (add binary32 (start c) base) ≡ true → StopsFrom w ends (c + 1033)
  too-late c two top k c' far top' = go (lt w.step.next (start c')) refl
    where
      go : (b : Bool) → lt w.step.next (start c') ≡ b → stops_at w c' ≡ true
      go true e = stops w c' (ap (lt w.step.next) (start_is c') ∙ e)
      go false e =
          let l : le (start c') w.step.next ≡ true = le_of_not_lt w.step.next (start c') (lt-no_nan w.step.prev w.step.next goes).1 (nonneg_no_nan _ (start-nonneg c' (omega arith))) e in
          let n : c' ≤ c + 1032 = starts.late w.period fit up-p base w.step.next c c' fit-b up-b b-le two top top' l k in
          let f : ⊥ = omega arith in
          absurd f

  pub lists : Lists w ends (first_cycle w + 775) 1033
  lists c m top e = go (lt w.step.prev (add binary32 (start c) base)) (le (add binary32 (start c) base) w.step.next) refl refl
    where
      go : (x y : Bool) → lt w.step.prev (add binary32 (start c) base) ≡ x → le (add binary32 (start c) base) w.step.next ≡ y → (0 < length (in_cycle w (cycle_start w c) 0 ends)) ⊎ StopsFrom w ends (c + 1033)
      go true true p q = inl (has_lists w (cycle_start w c) base 0 ends has (unfold completes in rw (start_is c, p) q))
      go true false p q = inr (too-late c (omega arith) top (elim (lt-or_le w.step.next (add binary32 (start c) base) (lt-no_nan w.step.prev w.step.next goes).1 (nonneg_no_nan _ (end-nonneg c (omega arith)))) [ inl a ↦ a | inr b ↦ absurd (true≢false (sym b ∙ q)) ]))
      go false y p q = let l : c ≤ first_cycle w + 774 = too-early c (omega arith) top p in let f : ⊥ = omega arith in absurd f
