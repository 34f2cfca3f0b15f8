-- The base and the run are no NaN and not below 0; where a seek and an update come to in a run.
use mathlib.Core.Path.{◌≡◌, refl, sym, ◌∙◌}
use mathlib.Core.Bool.{Bool, true, false, cond, true≢false}
use mathlib.Core.List.{List, map}
use Prim.Native.Nat.{ℕ}
use native.Mathlib.Omega.{arith}
use lib.Ieee.{Float, nan, inf, fin, Format, binary32, add, mul, lt, le, eq, is_nan}
use Rattle.float32.specs.Helpers.{zero_f, max_f, min_f, finite_f, nonneg_f}
use Rattle.float32.proofs.Order.{le_of_not_lt, le-infinity, eq_of_le}
use Rattle.float32.proofs.MaxMin.{min-all, min-le, min-same}
use Rattle.float32.proofs.Nonneg.{add-nonneg, mul-nonneg, times_count, nonneg_no_nan, zero_nonneg, zero_le_nonneg, max-zero_nonneg, max-zero_same, fold-max_zero_nonneg, min-nonneg, nonneg_infinite}
use Rattle.tween.specs.declared.loop_mode.Loop.{Loop}
use Rattle.tween.specs.declared.loop_mode.Loop.TheVariants.{Once, Times, Forever, PingPong, PingPongTimes}
use Rattle.steps.specs.declared.Entry.{Entry}
use Rattle.steps.specs.Times.{end_at, base_of, times_run, run_in, run_of}
use Rattle.completions.proofs.Ends.{base_of_ends}
use Rattle.clock.specs.declared.Clock.{Clock}
use Rattle.clock.specs.Clocks.{seek_to, next_elapsed, reach_of}
use Rattle.history.specs.Invariant.{NotBelow}

-- ---- the base and the run
pub base_nonneg : (es : List Entry) → nonneg_f (base_of es) ≡ true
base_nonneg es = rw (← base_of_ends es) (fold-max_zero_nonneg (map end_at es))

-- not below 0, and not 0
pub above_zero : (x : Float) → nonneg_f x ≡ true → eq x zero_f ≡ false → lt zero_f x ≡ true
above_zero x h z = go (lt zero_f x) refl
  where
    go : (b : Bool) → lt zero_f x ≡ b → b ≡ true
    go true p = refl
    go false p =
        let below = le_of_not_lt zero_f x (nonneg_no_nan zero_f zero_nonneg) (nonneg_no_nan x h) p in
        absurd (true≢false (sym (eq_of_le x zero_f below (zero_le_nonneg x h)) ∙ z))

times_nonneg : (base : Float) (n : ℕ) → lt zero_f base ≡ true → nonneg_f (times_run base n) ≡ true
unfolding times_run
times_nonneg base n h = times_count binary32 base _ h (omega arith)

run_in_nonneg : (mode : Loop) (base : Float) → nonneg_f base ≡ true → lt zero_f base ≡ true → nonneg_f (run_in mode base) ≡ true
run_in_nonneg Once base h p = h
run_in_nonneg (Times n) base h p = times_nonneg base n p
run_in_nonneg Forever base h p = refl
run_in_nonneg PingPong base h p = refl
run_in_nonneg (PingPongTimes n) base h p = times_nonneg base n p

pub run_nonneg : (mode : Loop) (base : Float) → nonneg_f base ≡ true → nonneg_f (run_of mode base) ≡ true
unfolding run_of
run_nonneg mode base h = go (eq base zero_f) refl
  where
    go : (b : Bool) → eq base zero_f ≡ b → nonneg_f (cond b zero_f (run_in mode base)) ≡ true
    go true z = zero_nonneg
    go false z = run_in_nonneg mode base h (above_zero base h z)

-- ---- where a seek comes to, in a run of length total
module _ (total : Float) (h : nonneg_f total ≡ true) where
  pub seek-nonneg : (secs : Float) → nonneg_f (seek_to total secs) ≡ true
  unfolding seek_to
  seek-nonneg secs = go (finite_f total)
    where
      go : (b : Bool) → nonneg_f (cond b (min_f (max_f secs zero_f) total) (max_f secs zero_f)) ≡ true
      go true = min-nonneg (max_f secs zero_f) total (max-zero_nonneg secs) h
      go false = max-zero_nonneg secs

  -- an endless run is not exceeded
  pub endless-most : (x : Float) → finite_f total ≡ false → is_nan x ≡ false → le x total ≡ true
  endless-most x e p = rw (nonneg_infinite total h e) (le-infinity x p)

  pub seek-most : (secs : Float) → le (seek_to total secs) total ≡ true
  unfolding seek_to
  seek-most secs = go (finite_f total) refl
    where
      go : (b : Bool) → finite_f total ≡ b → le (cond b (min_f (max_f secs zero_f) total) (max_f secs zero_f)) total ≡ true
      go true e = min-le (max_f secs zero_f) total (nonneg_no_nan total h)
      go false e = endless-most (max_f secs zero_f) e (nonneg_no_nan (max_f secs zero_f) (max-zero_nonneg secs))

  -- a place within the run is kept
  pub seek-stays : (x : Float) → nonneg_f x ≡ true → le x total ≡ true → seek_to total x ≡ x
  unfolding seek_to
  seek-stays x k l = rw (max-zero_same x k, min-same x total l) (either (finite_f total))
    where
      either : (b : Bool) → cond b x x ≡ x
      either true = refl
      either false = refl

-- ---- where an update comes to
-- a sum that is no NaN has no NaN in it
add-no_nan : (f : Format) (x y : Float) → is_nan (add f x y) ≡ false → (is_nan x ≡ false) × (is_nan y ≡ false)
unfolding add is_nan
add-no_nan f nan y h = absurd (true≢false h)
add-no_nan f (inf s) nan h = absurd (true≢false h)
add-no_nan f (inf s) (inf t) h = (refl, refl)
add-no_nan f (inf s) (fin t n d) h = (refl, refl)
add-no_nan f (fin s m e) nan h = absurd (true≢false h)
add-no_nan f (fin s m e) (inf t) h = (refl, refl)
add-no_nan f (fin s m e) (fin t n d) h = (refl, refl)

pub next_not_below : (c : Clock) (dt : Float) → NotBelow c.elapsed → nonneg_f c.time_scale ≡ true → NotBelow (next_elapsed c dt)
unfolding next_elapsed
next_not_below c dt h k p =
    let step = mul binary32 (max_f dt zero_f) c.time_scale in
    let q = add-no_nan binary32 c.elapsed step p in
    add-nonneg binary32 c.elapsed step (h q.0) (mul-nonneg binary32 (max_f dt zero_f) c.time_scale (max-zero_nonneg dt) k q.1)

pub min-not_below : (x bound : Float) → NotBelow x → nonneg_f bound ≡ true → NotBelow (min_f x bound)
min-not_below x bound h k = min-all x bound NotBelow h (λ p. k)

-- where an update comes to in a base that is not 0: the run bounds it, or is endless
pub reach_by : (P : Float → Type 0) (mode : Loop) (base next : Float) → eq base zero_f ≡ false
    → P (min_f next (run_of mode base)) → (finite_f (run_of mode base) ≡ false → P next) → P (reach_of mode base next).elapsed
unfolding run_of reach_of
reach_by P Once base next z bounded endless = rw z at bounded
reach_by P (Times n) base next z bounded endless = rw z at bounded
reach_by P Forever base next z bounded endless = endless (rw z)
reach_by P PingPong base next z bounded endless = endless (rw z)
reach_by P (PingPongTimes n) base next z bounded endless = rw z at bounded
