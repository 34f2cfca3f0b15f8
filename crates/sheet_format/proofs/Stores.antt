-- Bytes put over a slice, one part after the other: what is still to be written, at each turn of a loop.
use Prim.Native.Nat.{ℕ, ◌+◌, ◌*◌, ◌/◌, ◌≤◌, suc, ◌%◌, ◌<◌}
use mathlib.Core.Path.{◌≡◌, refl, sym, ap, ◌∙◌}
use mathlib.Core.List.{List, [], ◌++◌, ◌∷◌}
use native.Mathlib.Omega.{arith}
use native.Mathlib.Numerals.{add-one}
use lib.ListN.{length, length-append, length-take, length-drop, take, set}
use lib.Seq.{paste, sets-eq}
use mir.Syntax.{w16, w32}
use Rattle.std.specs.Int.{to_le_bytes}
use Rattle.words.specs.Words.{bytes_of}
use Rattle.words.proofs.Bytes.{length-bytes}
use Rattle.digits.specs.Digits.{put_at}
use Rattle.digits.proofs.PutAt.{put_at_nil, put_at_append}
use Rattle.steps.proofs.Lists.{take_own}

pub length-put_at : (xs : List ℕ) (at : ℕ) (old : List ℕ) → at + length xs ≤ length old → length (put_at xs at old) ≡ length old
length-put_at xs at old h = simp (length-append, length-take, length-drop) (omega arith)

-- out lacks what is left from `at` on; the whole is what the slice is to hold in the end, which is as long as it was
pub record Left (whole left : List ℕ) (at : ℕ) (old out : List ℕ) : Type 0 where
  pub same : length out ≡ length old
  pub room : at + length left ≤ length out
  pub ends : put_at left at out ≡ whole

-- at the start all is left
pub all_left : (xs : List ℕ) (at : ℕ) (old : List ℕ) → at + length xs ≤ length old → Left (put_at xs at old) xs at old old
all_left xs at old h = record { same = refl; room = h; ends = refl }

-- the front of what is left was written
pub less_left : (xs ys : List ℕ) (at : ℕ) (old whole out new : List ℕ) (m : ℕ) → Left whole (xs ++ ys) at old out → new ≡ put_at xs at out → m ≡ at + length xs → Left whole ys m old new
less_left xs ys at old whole out new m l e p =
    let n = length-append xs ys in
    let h : at + length xs ≤ length out = omega arith in
    let k : length new ≡ length out = ap length e ∙ length-put_at xs at out h in
    record {
      same = k ∙ l.same;
      room = omega arith;
      ends = rw (e, p) (put_at_append xs ys at out l.room ∙ l.ends);
    }

-- nothing is left
pub none_left : (whole : List ℕ) (at : ℕ) (old out : List ℕ) → Left whole [] at old out → out ≡ whole
none_left whole at old out l = sym (put_at_nil at out) ∙ l.ends

-- two parts, one after the other
pub put_at_then : (xs ys : List ℕ) (at m : ℕ) (old mid new : List ℕ) → mid ≡ put_at xs at old → new ≡ put_at ys m mid → m ≡ at + length xs → at + length (xs ++ ys) ≤ length old
    → new ≡ put_at (xs ++ ys) at old
put_at_then xs ys at m old mid new e f p h = f ∙ (less_left xs ys at old (put_at (xs ++ ys) at old) old mid m (all_left (xs ++ ys) at old h) e p).ends

-- the four parts of a sheet of n entries
pub put_at_parts : (h p r t : List ℕ) (n m : ℕ) (old a b c new : List ℕ) → length h ≡ 12 → length p ≡ 4 * n → length r ≡ 12 * n → m ≡ 12 + 16 * n → m + length t ≤ length old
    → a ≡ put_at h 0 old → b ≡ put_at p 12 a → c ≡ put_at r (12 + 4 * n) b → new ≡ put_at t m c → new ≡ put_at (h ++ (p ++ (r ++ t))) 0 old
put_at_parts h p r t n m old a b c new lh lp lr e room wa wb wc wn =
    let rt = length-append r t in
    let prt = length-append p (r ++ t) in
    let all = length-append h (p ++ (r ++ t)) in
    let la : length a ≡ length old = ap length wa ∙ length-put_at h 0 old (omega arith) in
    let lb : length b ≡ length a = ap length wb ∙ length-put_at p 12 a (omega arith) in
    put_at_then h (p ++ (r ++ t)) 0 12 old a new wa
    (put_at_then p (r ++ t) 12 (12 + 4 * n) a b new wb
    (put_at_then r t (12 + 4 * n) m b c new wc wn (omega arith) (omega arith)) (omega arith) (omega arith)) (omega arith) (omega arith)

-- the first bytes of a list, copied, are a text
pub paste_put_at : (n : ℕ) (xs : List ℕ) (i at : ℕ) (old : List ℕ) → i ≡ length (take n xs) → paste old at xs i ≡ put_at (take n xs) at old
paste_put_at n xs i at old e = rw (e, take_own n xs)

-- ---- words

-- two stores write a word of two bytes
pub put_at_two : (n at : ℕ) (old : List ℕ) → n < 65536 → at + 2 ≤ length old → set (set old at (n % 256)) (at + 1) (n / 256) ≡ put_at (bytes_of 2 n) at old
unfolding bytes_of
put_at_two n at old small h =
    let e : n / 256 % 256 ≡ n / 256 = omega arith in
    rw (add-one, e) (sets-eq (n % 256 ∷ n / 256 ∷ []) old at h)

pub put_at_four : (a b c d at : ℕ) (old : List ℕ) → at + 4 ≤ length old
    → set (set (set (set old at a) (at + 1) b) (at + 2) c) (at + 3) d ≡ put_at (a ∷ b ∷ c ∷ d ∷ []) at old
put_at_four a b c d at old h =
    let two : at + 2 ≡ suc (suc at) = omega arith in
    let three : at + 3 ≡ suc (suc (suc at)) = omega arith in
    rw (add-one at, two, three) (sets-eq (a ∷ b ∷ c ∷ d ∷ []) old at h)

-- the bytes of a number, as std has them
pub le-two : (n : ℕ) → to_le_bytes w16 n ≡ bytes_of 2 n
unfolding bytes_of
le-two n = refl

pub le-four : (n : ℕ) → to_le_bytes w32 n ≡ bytes_of 4 n
unfolding bytes_of
le-four n =
    let a : n / 65536 ≡ n / 256 / 256 = omega arith in
    let b : n / 16777216 ≡ n / 256 / 256 / 256 = omega arith in
    rw (a, b)

-- two words of two bytes
pub put_at_words : (a b : List ℕ) (m n at p : ℕ) (old mid new : List ℕ) → a ≡ to_le_bytes w16 m → b ≡ to_le_bytes w16 n → mid ≡ put_at a at old → new ≡ put_at b p mid
    → p ≡ at + 2 → at + 4 ≤ length old → new ≡ put_at (bytes_of 2 m ++ bytes_of 2 n) at old
unfolding bytes_of
put_at_words a b m n at p old mid new u v e f q h =
    put_at_then (bytes_of 2 m) (bytes_of 2 n) at p old mid new (rw (u, le-two m) at e) (rw (v, le-two n) at f) (omega (arith, length-bytes 2 m))
    (omega (arith, length-append (bytes_of 2 m) (bytes_of 2 n), length-bytes 2 m, length-bytes 2 n))

-- four bytes, then two words of four
pub put_at_twelve : (four a b : List ℕ) (m n at p q : ℕ) (old first second new : List ℕ) → length four ≡ 4 → a ≡ to_le_bytes w32 m → b ≡ to_le_bytes w32 n
    → first ≡ put_at four at old → second ≡ put_at a p first → new ≡ put_at b q second → p ≡ at + 4 → q ≡ at + 8 → at + 12 ≤ length old → new ≡ put_at (four ++ (bytes_of 4 m ++ bytes_of 4 n)) at old
unfolding bytes_of
put_at_twelve four a b m n at p q old first second new l u v e f g r s h =
    let x = length-bytes 4 m in
    let y = length-bytes 4 n in
    let z = length-append (bytes_of 4 m) (bytes_of 4 n) in
    let k : length first ≡ length old = ap length e ∙ length-put_at four at old (omega arith) in
    put_at_then four (bytes_of 4 m ++ bytes_of 4 n) at p old first new e
    (put_at_then (bytes_of 4 m) (bytes_of 4 n) p q first second new (rw (u, le-four m) at f) (rw (v, le-four n) at g) (omega arith) (omega arith)) (omega arith)
    (omega (arith, length-append four (bytes_of 4 m ++ bytes_of 4 n)))
