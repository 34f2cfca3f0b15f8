-- A part of a list, cut where the list ends.
use Prim.Native.Nat.{ℕ, ◌+◌, ◌-◌, min}
use mathlib.Core.Path.{◌≡◌, ◌∙◌}
use mathlib.Core.List.{List}
use native.Mathlib.Omega.{arith}
use lib.ListN.{length, take, drop, length-drop}
use lib.Seq.{take_all}
use Rattle.std.proofs.lemmas.List.{take_min, drop_min}

-- the part of size bytes from start on, with both cut
pub part_cut : (start size a b : ℕ) (s : List ℕ) → a ≡ min start (length s) → b ≡ min size (length s - a) → take (a + b - a) (drop a s) ≡ take size (drop start s)
part_cut start size a b s p q =
    let d : drop a s ≡ drop start s = rw p (drop_min start s) in
    let l : length (drop a s) ≡ length s - a = length-drop a s in
    let m : a + b - a ≡ min size (length (drop a s)) = omega arith in
    rw m (take_min size (drop a s) ∙ rw d)

-- the part from `at` on is what is left there
pub part-rest : (at : ℕ) (s : List ℕ) → take (length s - at) (drop at s) ≡ drop at s
part-rest at s = take_all (length s - at) (drop at s) (omega (arith, length-drop at s))
