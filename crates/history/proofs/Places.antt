-- Synchronising at elapsed times that are equal as numbers (`eq`) leaves the same marks.
use mathlib.Core.Path.{◌≡◌, refl, sym, ap, ap₂, ◌∙◌}
use mathlib.Core.Logic.{inl, inr}
use mathlib.Core.Bool.{Bool, true, false, ◌||◌, cond}
use mathlib.Core.List.{List, [], ◌∷◌}
use Prim.Native.Nat.{ℕ, ◌*◌}
use lib.IntN.{ℤ}
use lib.Ieee.{Float, fin, binary32, up, down, sub, mul, rem, le, eq}
use Rattle.float32.specs.Helpers.{zero_f, one_f, nonneg_f}
use Rattle.float32.proofs.Grow.{small_le}
use Rattle.tween.specs.declared.loop_mode.Loop.{Loop}
use Rattle.tween.specs.declared.loop_mode.Loop.TheVariants.{Once, Times, Forever, PingPong, PingPongTimes}
use Rattle.steps.specs.declared.Entry.{Entry}
use Rattle.steps.specs.declared.Row.{Row}
use Rattle.steps.specs.Times.{two_f, end_at, times_run, times_local, ping_pong, local_in, local_time}
use Rattle.steps.specs.Rows.{stepped, seek_row, reset_step, synced}
use Rattle.history.proofs.Equal.{eq-by, Same, le_same, ge_same, either_same, min-equal, rem-same, sub-forms}
use Rattle.history.proofs.Synced.{marks_at}

-- ---- the local time
module _ (base : Float) (h : nonneg_f base ≡ true) where
  -- forward and back again: past the base neither is 0
  abbrev turned : Float → Float → Float
  turned period cycle = cond (le cycle base) cycle (sub binary32 period cycle)

  turned_same : (period x y : Float) → Same x y → Same (turned period x) (turned period y)
  turned_same period x y (inl e) = inl (ap (turned period) e)
  turned_same period x y (inr e) =
      eq-by (λ x y. Same (turned period x) (turned period y)) (λ x. inl refl)
      (λ s t m n e d p q k. rw (small_le s m e base p h, small_le t n d base q h) (inr k))
      (λ s m n e d c k. rw (le_same (fin s m e) (fin s n d) base (inr k)) (go (le (fin s n d) base) s m n e d c k)) x y e
    where
      go : (b : Bool) (s : Bool) (m n : ℕ) (e d : ℤ) → m * up e * down d ≡ n * up d * down e → eq (fin s m e) (fin s n d) ≡ true → Same (cond b (fin s m e) (sub binary32 period (fin s m e))) (cond b (fin s n d) (sub binary32 period (fin s n d)))
      go true s m n e d c k = inr k
      go false s m n e d c k = inl (sub-forms binary32 period s m n e d c)

  module _ (x y : Float) (k : eq x y ≡ true) where
    ping-same : Same (ping_pong base x) (ping_pong base y)
    unfolding ping_pong
    ping-same = let period = mul binary32 base two_f in turned_same period (rem binary32 x period) (rem binary32 y period) (rem-same binary32 x y period k)

    in-same : (mode : Loop) → Same (local_in mode base x) (local_in mode base y)
    unfolding times_local
    in-same Once = min-equal x y base k
    in-same (Times n) = rw (ge_same x y (times_run base n) (inr k)) (either_same (le (times_run base n) y) base (rem binary32 x base) (rem binary32 y base) (rem-same binary32 x y base k))
    in-same Forever = rem-same binary32 x y base k
    in-same PingPong = ping-same
    in-same (PingPongTimes n) = ping-same

    pub local_same : (mode : Loop) → Same (local_time mode base x) (local_time mode base y)
    unfolding local_time
    local_same mode = either_same (eq base zero_f) zero_f (local_in mode base x) (local_in mode base y) (in-same mode)

-- ---- the marks at a local time
done_is : (t : Float) (e : Entry) → (synced t e).done ≡ cond (le t e.start) false (le (end_at e) t || eq e.duration zero_f)
unfolding synced reset_step
done_is t e = go (le t e.start) (le (end_at e) t || eq e.duration zero_f) (seek_row one_f) _
  where
    go : (a b : Bool) (r r' : Row) → (cond a reset_step (cond b (stepped r true) (stepped r' false))).done ≡ cond a false b
    go true b r r' = refl
    go false true r r' = refl
    go false false r r' = refl

pub marks-equal : (t u : Float) → Same t u → (es : List Entry) → marks_at t es ≡ marks_at u es
marks-equal t u s [] = refl
marks-equal t u s (e ∷ es) = ap₂ (λ (b : Bool) (bs : List Bool). b ∷ bs) (done_is t e ∙ rw (le_same t u e.start s, ge_same t u (end_at e) s) (sym (done_is u e))) (marks-equal t u s es)
