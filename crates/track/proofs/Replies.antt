-- The replies: a loop that looks for one above 1, and that no row depends on them.
use Prim.Native.Nat.{ℕ, ◌+◌, ◌<◌, ◌≤◌}
use mathlib.Core.Path.{◌≡◌, refl}
use mathlib.Core.Bool.{Bool, true, false, cond, ◌||◌}
use mathlib.Core.List.{List, [], ◌∷◌}
use native.Mathlib.Numerals.{add-one}
use native.Mathlib.Omega.{arith}
use lib.Dec.{ltb}
use lib.ListN.{length, get_or, take, drop, drop_of_length-le}
use lib.Seq.{drop-cons, length-take-le}
use Rattle.steps.proofs.Lists.{part_at}
use Rattle.track.specs.Updates.{above_one, ticks}
use lib.Ieee.{Float, lt}
use Rattle.steps.specs.Rows.{stepped, ticked}
use Rattle.steps.specs.declared.Row.{Row}
use Rattle.steps.specs.declared.Entry.{Entry}
use Rattle.steps.specs.declared.Stepped.{Stepped}
use Rattle.track.specs.Tracks.{rows_of}

-- ---- one above 1

module _ (rs : List ℕ) (n : ℕ) (long : n ≤ length rs) where
  -- the reply i, or one after it
  pub one-here : (i : ℕ) → i < n → above_one (drop i (take n rs)) ≡ (ltb 1 (get_or rs i 0) || above_one (drop (i + 1) (take n rs)))
  unfolding above_one
  one-here i h =
      let l : i < length (take n rs) = omega (arith, length-take-le n rs long) in
      rw (add-one, drop-cons (take n rs) i 0 l, part_at n rs i 0 l)

  -- there are no more
  pub none_left : (i : ℕ) → n ≤ i → above_one (drop i (take n rs)) ≡ false
  unfolding above_one
  none_left i h =
      let l : length (take n rs) ≤ i = omega (arith, length-take-le n rs long) in
      rw (drop_of_length-le (take n rs) l)

-- ---- a row does not depend on the leaf's reply

same_row : (b : Bool) (x : Stepped) (r : Row) (d d' : Bool) → (cond b x (stepped r d)).row ≡ (cond b x (stepped r d')).row
same_row true x r d d' = refl
same_row false x r d d' = refl

-- of one entry
pub ticked-row : (prev next : Float) (e : Entry) (r r' : ℕ) → (ticked prev next e r).row ≡ (ticked prev next e r').row
unfolding ticked
ticked-row prev next e r r' = same_row (lt next e.start) _ _ _ _

-- of every entry
pub ticks-rows : (prev next : Float) (es : List Entry) (rs rs' : List ℕ) → rows_of (ticks prev next es rs) ≡ rows_of (ticks prev next es rs')
unfolding ticks
ticks-rows prev next [] rs rs' = refl
ticks-rows prev next (e ∷ es) rs rs' = rw (ticked-row prev next e (get_or rs 0 1) (get_or rs' 0 1), ticks-rows prev next es (drop 1 rs) (drop 1 rs'))
