-- A word as it is read from a place on, by how many bytes are left there.
use Prim.Native.Nat.{ℕ, zero, suc, ◌+◌, ◌*◌, ◌≤◌, ◌<◌}
use mathlib.Core.Path.{◌≡◌, refl}
use mathlib.Core.List.{List}
use native.Mathlib.Numerals.{add-one}
use native.Mathlib.Omega.{arith}
use lib.ListN.{length, get_or, drop, drop_of_length-le}
use lib.Seq.{drop-cons}
use Rattle.words.specs.Words.{word}

-- no byte is left
pub word_none : (w at : ℕ) (s : List ℕ) → length s ≤ at → word w (drop at s) ≡ 0
unfolding word
word_none zero at s h = refl
word_none (suc w) at s h = rw (drop_of_length-le s h)

-- one byte is left
pub word-one : (s : List ℕ) (at : ℕ) → at + 1 ≡ length s → word 2 (drop at s) ≡ get_or s at 0
unfolding word
word-one s at h =
    let a : at < length s = omega arith in
    let b : length s ≤ suc at = omega arith in
    rw (drop-cons s at 0 a, drop_of_length-le s b) (omega arith)

-- a word of two bytes
pub word_two : (s : List ℕ) (at : ℕ) → at + 2 ≤ length s → word 2 (drop at s) ≡ get_or s at 0 + get_or s (at + 1) 0 * 256
unfolding word
word_two s at h =
    let a : at < length s = omega arith in
    let b : suc at < length s = omega arith in
    rw (add-one at, drop-cons s at 0 a, drop-cons s (suc at) 0 b) (omega arith)
