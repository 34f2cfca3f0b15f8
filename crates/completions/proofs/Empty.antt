-- Where nothing is listed, and where the walk is what is listed.
use mathlib.Core.Path.{◌≡◌, refl, sym, ◌∙◌}
use mathlib.Core.Bool.{Bool, true, false, ◌||◌, ◌&&◌, and-false, true≢false}
use mathlib.Core.List.{List, [], ◌∷◌}
use Prim.Native.Nat.{ℕ, zero, suc, ◌^◌}
use lib.Ieee.{Float, binary32, is_nan, add, lt, le}
use borrow.Author.Tests.{not-false}
use Rattle.std.proofs.lemmas.Bool.{false_from_ne_true}
use Rattle.float32.specs.Helpers.{zero_f}
use Rattle.float32.proofs.Order.{lt-is, le-no_nan, lt-no_nan, lt-nan_left, not_le_of_lt}
use Rattle.tween.specs.declared.loop_mode.Loop.{Loop}
use Rattle.tween.specs.declared.loop_mode.Loop.TheVariants.{Once, Times, Forever, PingPong, PingPongTimes}
use Rattle.completions.specs.declared.Walk.{Walk}
use Rattle.completions.specs.Completions.{completes, in_cycle, cycle_start, next_cycle, breaks_at, stops_at, cycles, cycles_from, walk_of, first_cycle, none_if, completions_in, empty_at_nan}

-- ---- a walk in which no end completes

module _ (w : Walk) (none : (start end : Float) → completes w start end ≡ false) where
  none-in-cycle : (start : Float) (i : ℕ) (ends : List Float) → in_cycle w start i ends ≡ []
  unfolding in_cycle
  none-in-cycle start i [] = refl
  none-in-cycle start i (end ∷ ends) = rw (none start end, none-in-cycle start (suc i) ends)

  none-in-cycles : (ends : List Float) (fuel : ℕ) (stop : Bool) (c : ℕ) → cycles w ends fuel stop c ≡ []
  unfolding cycles
  none-in-cycles ends zero stop c = refl
  none-in-cycles ends (suc fuel) true c = refl
  none-in-cycles ends (suc fuel) false c = rw (none-in-cycle (cycle_start w c) 0 ends, none-in-cycles ends fuel (stops_at w (next_cycle c)) (next_cycle c))

-- ---- NaN: no comparison with it passes

le-nan : (x y : Float) → is_nan y ≡ true → le x y ≡ false
le-nan x y h = false_from_ne_true (le x y) (λ t. true≢false (sym h ∙ (le-no_nan x y t).1))

nan_none : (w : Walk) → (is_nan w.step.prev || is_nan w.step.next) ≡ true → (start end : Float) → completes w start end ≡ false
unfolding completes
nan_none w h start end = go (is_nan w.step.prev) refl h
  where
    go : (b : Bool) → is_nan w.step.prev ≡ b → (b || is_nan w.step.next) ≡ true → (lt w.step.prev (add binary32 start end) && le (add binary32 start end) w.step.next) ≡ false
    go true p q = rw (lt-nan_left w.step.prev (add binary32 start end) p)
    go false p q = rw (le-nan (add binary32 start end) w.step.next q) (and-false (lt w.step.prev (add binary32 start end)))

-- ---- the whole walk

-- a walk has the step's own bounds
nan_in_walk : (mode : Loop) (base prev next : Float) → (is_nan (walk_of mode base prev next).step.prev || is_nan (walk_of mode base prev next).step.next) ≡ (is_nan prev || is_nan next)
nan_in_walk Once base prev next = refl
nan_in_walk (Times n) base prev next = refl
nan_in_walk Forever base prev next = refl
nan_in_walk PingPong base prev next = refl
nan_in_walk (PingPongTimes n) base prev next = refl

none_if_nil : (b : Bool) (xs : List ℕ) → xs ≡ [] → none_if b xs ≡ []
none_if_nil true xs e = refl
none_if_nil false xs e = e

module _ (mode : Loop) (ends : List Float) (base prev next : Float) where
  -- the Rust's own walk lists nothing at a NaN
  pub nan-empty : (is_nan prev || is_nan next) ≡ true → completions_in mode ends base prev next ≡ []
  unfolding completions_in
  nan-empty h =
      none_if_nil (le next prev || (le base zero_f || le (walk_of mode base prev next).period zero_f)) _
      (none-in-cycles (walk_of mode base prev next) (nan_none (walk_of mode base prev next) (nan_in_walk mode base prev next ∙ h)) ends (2 ^ 32)
      (breaks_at (walk_of mode base prev next) (first_cycle (walk_of mode base prev next))) (first_cycle (walk_of mode base prev next)))

  -- the early returns
  no_step : le next prev ≡ true → completions_in mode ends base prev next ≡ []
  unfolding completions_in
  no_step s = rw s

  pub no-base : lt prev next ≡ true → le base zero_f ≡ true → completions_in mode ends base prev next ≡ []
  unfolding completions_in
  no-base f b = rw (not_le_of_lt prev next f, b)

  pub no-period : lt prev next ≡ true → le base zero_f ≡ false → (w : Walk) → w ≡ walk_of mode base prev next → le w.period zero_f ≡ true → completions_in mode ends base prev next ≡ []
  unfolding completions_in
  no-period f b w e p = rw (not_le_of_lt prev next f, b, rw e at p)

  -- past them, the walk
  pub walked : lt prev next ≡ true → le base zero_f ≡ false → (w : Walk) → w ≡ walk_of mode base prev next → le w.period zero_f ≡ false → completions_in mode ends base prev next ≡ cycles_from w ends (first_cycle w)
  unfolding completions_in
  walked f b w e p = rw (e, not_le_of_lt prev next f, b, rw e at p)

  -- a step that does not go forward, or has a NaN
  pub not-forward : lt prev next ≡ false → empty_at_nan prev next (completions_in mode ends base prev next) ≡ []
  not-forward h = go (is_nan prev) (is_nan next) refl refl
    where
      go : (a b : Bool) → is_nan prev ≡ a → is_nan next ≡ b → none_if (a || b) (completions_in mode ends base prev next) ≡ []
      go true b p q = refl
      go false true p q = refl
      go false false p q = no_step (not-false (le next prev) (sym (lt-is prev next p q) ∙ h))

  -- a step forward
  pub forward : lt prev next ≡ true → empty_at_nan prev next (completions_in mode ends base prev next) ≡ completions_in mode ends base prev next
  forward h = rw ((lt-no_nan prev next h).0, (lt-no_nan prev next h).1)
