-- What has room in a slice.
use Prim.Native.Nat.{ℕ, ◌+◌, ◌≤◌}
use mathlib.Core.Path.{◌≡◌, refl}
use mathlib.Core.Bool.{Bool, true, false, cond}
use mathlib.Core.List.{List}
use native.Mathlib.Omega.{arith}
use borrow.Author.Tests.{leb-true}
use lib.Dec.{leb}
use lib.ListN.{length, take, length-take}
use Rattle.std.specs.Prelude.{Some, None, unwrap_or, Option}
use Rattle.digits.specs.Digits.{written_count, Put}

-- the first k of n elements are k
pub front : {A : Type 0} (n k : ℕ) (xs : List A) → n ≡ length xs → k ≤ n → k ≡ length (take k xs)
front n k xs e h = simp length-take (omega arith)

-- what is chosen where it has room ends within the room
chosen : (b : Bool) (at w len : ℕ) → leb (at + w) len ≡ b → at ≤ len → unwrap_or (cond b (Some w) None) 0 + at ≤ len
chosen true at w len h a = omega (arith, leb-true (at + w) len h)
chosen false at w len h a = omega (arith, a)

-- what is written of a text ends within the slice
pub ends_within : (text : List ℕ) (at : ℕ) (old : List ℕ) → at ≤ length old → unwrap_or (written_count text at old) 0 + at ≤ length old
unfolding written_count
ends_within text at old within = chosen _ at (length text) (length old) refl within

-- a text that was put into a slice is no longer than the slice
pub within : {text : List ℕ} {at : ℕ} {old new : List ℕ} {count : Option ℕ} → Put text at old new count → unwrap_or count 0 ≤ length old
unfolding written_count
within {text} {at} {old} put = rw put.counted (short (leb (at + length text) (length old)) refl)
  where
    short : (b : Bool) → leb (at + length text) (length old) ≡ b → unwrap_or (cond b (Some (length text)) None) 0 ≤ length old
    short true h = omega (arith, leb-true (at + length text) (length old) h)
    short false h = omega arith
