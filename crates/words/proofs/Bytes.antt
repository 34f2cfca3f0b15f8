-- Little-endian words: how they are read and written, for every width.
use Prim.Native.Nat.{ℕ, zero, suc, ◌+◌, ◌*◌, ◌/◌, ◌%◌, ◌^◌, ◌≤◌, ◌<◌}
use mathlib.Core.Path.{◌≡◌, refl, ap}
use mathlib.Core.List.{List, [], ◌∷◌, ◌++◌}
use native.Mathlib.Nat.{pow-zero, pow-suc, div-add-mod', div-lt_iff_lt-mul, not-suc-le-zero, le_of_suc-le-suc}
use native.Mathlib.Omega.{arith}
use lib.Dec.{lit<}
use lib.ListN.{length, take, drop, get_or}
use lib.Seq.{get_or-drop}
use Rattle.words.specs.Words.{word, bytes_of}

-- every element is a byte
abbrev pub Bytes : List ℕ → Type 0
Bytes s = (i : ℕ) → get_or s i 0 < 256

pub bytes_drop : (n : ℕ) (s : List ℕ) → Bytes s → Bytes (drop n s)
bytes_drop n s b i = rw (get_or-drop n s i 0) (b (n + i))

-- a word of two bytes is small
pub word_small : (s : List ℕ) → Bytes s → word 2 s < 65536
unfolding word
word_small [] b = omega arith
word_small (x ∷ []) b = omega (arith, b 0)
word_small (x ∷ y ∷ s) b = omega (arith, b 0, b 1)

pub length-bytes : (w n : ℕ) → length (bytes_of w n) ≡ w
unfolding bytes_of
length-bytes zero n = refl
length-bytes (suc w) n = ap suc (length-bytes w (n / 256))

-- ---- reading back what was written, and writing what was read

pub word_bytes : (w n : ℕ) (s : List ℕ) → n < 256 ^ w → word w (bytes_of w n ++ s) ≡ n
unfolding word bytes_of
word_bytes zero n s h = omega (arith, pow-zero 256)
word_bytes (suc w) n s h =
    let k : n < 256 ^ w * 256 = rw pow-suc at h in
    rw (word_bytes w (n / 256) s ((div-lt_iff_lt-mul (lit< tt)).1 k)) (omega (arith, div-add-mod' n 256))

pub bytes_word : (w : ℕ) (s : List ℕ) → w ≤ length s → Bytes s → bytes_of w (word w s) ≡ take w s
unfolding word bytes_of
bytes_word zero s h b = refl
bytes_word (suc w) [] h b = absurd (not-suc-le-zero h)
bytes_word (suc w) (x ∷ s) h b =
    let small : x < 256 = b 0 in
    let rest = bytes_word w s (le_of_suc-le-suc h) (λ i. b (suc i)) in
    let low : (x + 256 * word w s) % 256 ≡ x = omega arith in
    let high : (x + 256 * word w s) / 256 ≡ word w s = omega arith in
    rw (low, high, rest)

-- ---- a word as it is read, by how many bytes are left

pub word_none : (s : List ℕ) → length s < 1 → word 2 s ≡ 0
unfolding word
word_none [] h = refl
word_none (a ∷ s) h = absurd (omega arith)

pub word_one : (s : List ℕ) → 1 ≤ length s → length s < 2 → word 2 s ≡ get_or s 0 0
unfolding word
word_one [] h k = absurd (omega arith)
word_one (a ∷ []) h k = omega arith
word_one (a ∷ b ∷ s) h k = absurd (omega arith)

pub word_two : (s : List ℕ) → 2 ≤ length s → word 2 s ≡ get_or s 0 0 + get_or s 1 0 * 256
unfolding word
word_two [] h = absurd (omega arith)
word_two (a ∷ []) h = absurd (omega arith)
word_two (a ∷ b ∷ s) h = omega arith

-- a word of four bytes is two of two
pub word_halves : (s : List ℕ) → word 4 s ≡ word 2 s + word 2 (drop 2 s) * 65536
unfolding word
word_halves [] = refl
word_halves (a ∷ []) = omega arith
word_halves (a ∷ b ∷ s) = omega arith

pub word_four : (s : List ℕ) → 4 ≤ length s → word 4 s ≡ get_or s 0 0 + get_or s 1 0 * 256 + get_or s 2 0 * 65536 + get_or s 3 0 * 16777216
unfolding word
word_four [] h = absurd (omega arith)
word_four (a ∷ []) h = absurd (omega arith)
word_four (a ∷ b ∷ []) h = absurd (omega arith)
word_four (a ∷ b ∷ c ∷ []) h = absurd (omega arith)
word_four (a ∷ b ∷ c ∷ d ∷ s) h = omega arith

pub ruleset word_cases = (word_none, word_one, word_two, word_four, word_halves)

pub bytes_four : (n : ℕ) → bytes_of 4 n ≡ bytes_of 2 (n % 65536) ++ bytes_of 2 (n / 65536)
unfolding bytes_of
bytes_four n =
    let a : n % 65536 % 256 ≡ n % 256 = omega arith in
    let h : n / 256 ≡ 256 * (n / 65536) + n % 65536 / 256 = omega arith in
    let b : n % 65536 / 256 % 256 ≡ n / 256 % 256 = rw h (omega arith) in
    let c : n / 65536 ≡ n / 256 / 256 = omega arith in
    rw (a, b, c)
