-- Every number that is listed is that of an entry.
use mathlib.Core.Bool.{Bool, true, false, ◌||◌}
use mathlib.Core.List.{List, [], ◌∷◌, ◌++◌, map}
use Prim.Native.Nat.{ℕ, zero, suc, ◌+◌, ◌≤◌, ◌<◌, ◌^◌}
use native.Mathlib.Omega.{arith}
use lib.ListN.{length, length-map}
use lib.Ieee.{Float, is_nan, le}
use Rattle.float32.specs.Helpers.{zero_f}
use Rattle.tween.specs.declared.loop_mode.Loop.{Loop}
use Rattle.steps.specs.Times.{end_at, base_of}
use Rattle.steps.specs.declared.Entry.{Entry}
use Rattle.completions.specs.declared.Walk.{Walk}
use Rattle.completions.specs.Completions.{completes, keep, in_cycle, cycle_start, next_cycle, breaks_at, stops_at, cycles, cycles_from, walk_of, first_cycle, none_if, completions_in, completions_between}
use Rattle.completions.specs.Claims.{AllBelow}

append-below : (n : ℕ) (xs ys : List ℕ) → AllBelow n xs → AllBelow n ys → AllBelow n (xs ++ ys)
append-below n [] ys a b = b
append-below n (x ∷ xs) ys a b = (a.0, append-below n xs ys a.1 b)

keep-below : (n : ℕ) (b : Bool) (i : ℕ) (xs : List ℕ) → i < n → AllBelow n xs → AllBelow n (keep b i xs)
keep-below n true i xs h a = (h, a)
keep-below n false i xs h a = a

none_if_below : (n : ℕ) (b : Bool) (xs : List ℕ) → AllBelow n xs → AllBelow n (none_if b xs)
none_if_below n true xs a = tt
none_if_below n false xs a = a

in_cycle_below : (w : Walk) (start : Float) (n i : ℕ) (ends : List Float) → i + length ends ≤ n → AllBelow n (in_cycle w start i ends)
unfolding in_cycle
in_cycle_below w start n i [] h = tt
in_cycle_below w start n i (end ∷ ends) h =
    keep-below n (completes w start end) i (in_cycle w start (suc i) ends) (omega arith) (in_cycle_below w start n (suc i) ends (omega arith))

cycles-below : (w : Walk) (ends : List Float) (fuel : ℕ) (stop : Bool) (c : ℕ) → AllBelow (length ends) (cycles w ends fuel stop c)
unfolding cycles
cycles-below w ends zero stop c = tt
cycles-below w ends (suc fuel) true c = tt
cycles-below w ends (suc fuel) false c =
    append-below (length ends) (in_cycle w (cycle_start w c) 0 ends) (cycles w ends fuel (stops_at w (next_cycle c)) (next_cycle c))
    (in_cycle_below w (cycle_start w c) (length ends) 0 ends (omega arith))
    (cycles-below w ends fuel (stops_at w (next_cycle c)) (next_cycle c))

completions_in_below : (mode : Loop) (ends : List Float) (base prev next : Float) → AllBelow (length ends) (completions_in mode ends base prev next)
unfolding completions_in
completions_in_below mode ends base prev next =
    none_if_below (length ends) (le next prev || (le base zero_f || le (walk_of mode base prev next).period zero_f))
    (cycles_from (walk_of mode base prev next) ends (first_cycle (walk_of mode base prev next)))
    (cycles-below (walk_of mode base prev next) ends (2 ^ 32)
    (breaks_at (walk_of mode base prev next) (first_cycle (walk_of mode base prev next))) (first_cycle (walk_of mode base prev next)))

pub completions_below : (mode : Loop) (es : List Entry) (prev next : Float) → AllBelow (length es) (completions_between mode es prev next)
unfolding completions_between
completions_below mode es prev next =
    none_if_below (length es) (is_nan prev || is_nan next) (completions_in mode (map end_at es) (base_of es) prev next)
    (rw length-map at (completions_in_below mode (map end_at es) (base_of es) prev next))
