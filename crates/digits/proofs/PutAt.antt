-- A text put over a slice: byte by byte from behind, and two texts one after the other.
use Prim.Native.Nat.{ℕ, suc, ◌+◌, ◌≤◌, ◌<◌}
use mathlib.Core.Path.{◌≡◌, ap, ◌∙◌}
use mathlib.Core.List.{List, [], ◌∷◌, ◌++◌, append_assoc, append-nil}
use native.Mathlib.Nat.{add-zero, add-suc, add_assoc}
use native.Mathlib.Numerals.{add-one}
use native.Mathlib.Omega.{arith}
use lib.ListN.{length, take, drop, set, length-set, length-append, take-append-drop}
use lib.Seq.{length-take-le, take-set-le, take_at, drop_at, drop-cons, drop-drop, drop-set-lt, get_or-set_same}
use Rattle.digits.specs.Digits.{put_at}
use Rattle.digits.proofs.Length.{length-snoc}

drop-set : (l : List ℕ) (i v : ℕ) → i < length l → drop i (set l i v) ≡ v ∷ drop (suc i) l
drop-set l i v h =
    let k : i < length (set l i v) = simp length-set h in
    rw (drop-cons (set l i v) i 0, get_or-set_same l i v 0, drop-set-lt (suc i) l i v (omega arith))

-- nothing put over a slice leaves it
pub put_at_nil : (at : ℕ) (old : List ℕ) → put_at [] at old ≡ old
put_at_nil at old = rw (add-zero, append-nil) (take-append-drop at old)

-- a byte stored behind a text that is still to be put is the text's last
pub put_at_snoc : (text : List ℕ) (at v j : ℕ) (out : List ℕ) → length text ≡ j → at + j < length out
    → put_at text at (set out (at + j) v) ≡ put_at (text ++ (v ∷ [])) at out
put_at_snoc text at v j out e h =
    rw (e, take-set-le at out (at + j) v (omega arith), drop-set out (at + j) v h, length-snoc text v, e, add-one j, add-suc at j)
    (simp append_assoc)

-- what stands before the end of a text that was put, and what stands after it
module _ (text : List ℕ) (at : ℕ) (old : List ℕ) (h : at + length text ≤ length old) where
  length_front : length (take at old ++ text) ≡ at + length text
  length_front = length-append (take at old) text ∙ ap (◌+ length text) (length-take-le at old (omega arith))

  pub take-putAt : take (at + length text) (put_at text at old) ≡ take at old ++ text
  take-putAt = take_at (take at old ++ text) (drop (at + length text) old) (at + length text) length_front

  pub drop-putAt : drop (at + length text) (put_at text at old) ≡ drop (at + length text) old
  drop-putAt = drop_at (take at old ++ text) (drop (at + length text) old) (at + length text) length_front

-- two texts put one after the other are their sum, put
pub put_at_append : (xs ys : List ℕ) (at : ℕ) (old : List ℕ) → at + length (xs ++ ys) ≤ length old
    → put_at ys (at + length xs) (put_at xs at old) ≡ put_at (xs ++ ys) at old
put_at_append xs ys at old h =
    let l = length-append xs ys in
    let k : at + length xs ≤ length old = omega arith in
    let p = at + length xs in
    rw (take-putAt xs at old k, ← drop-drop (length ys) p (put_at xs at old), drop-putAt xs at old k, drop-drop (length ys) p old, l, ← add_assoc at (length xs) (length ys))
    (simp append_assoc)
