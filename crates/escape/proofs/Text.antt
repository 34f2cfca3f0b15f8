-- The text of a byte, of bytes one more at each turn, and how it is put into a slice.
use Prim.Native.Nat.{ℕ, ◌+◌, ◌*◌, ◌≤◌, ◌<◌}
use mathlib.Core.Path.{◌≡◌, refl, sym, ◌∙◌}
use mathlib.Core.Bool.{Bool, true, false}
use mathlib.Core.List.{List, [], ◌∷◌, ◌++◌, append_assoc, append-nil}
use native.Mathlib.Numerals.{add-one}
use native.Mathlib.Omega.{arith}
use Rattle.std.specs.Prelude.{Option}
use Rattle.std.specs.Option.{unwrap_or}
use lib.ListN.{length, take, get_or, set, length-set, length-append}
use lib.Seq.{take-suc, take_all, sets-eq}
use Rattle.digits.specs.Digits.{hex_text, put_at, Put}
use Rattle.digits.proofs.Length.{length_digits}
use Rattle.digits.proofs.PutAt.{put_at_nil, put_at_append}
use Rattle.digits.proofs.Room.{put_whole}
use Rattle.escape.specs.Escape.{plain, escaped_byte, escaped}

-- ---- a byte

pub byte_plain : (b : ℕ) → plain b ≡ true → escaped_byte b ≡ b ∷ []
unfolding escaped_byte
byte_plain b e = rw e

pub byte_other : (b : ℕ) → plain b ≡ false → escaped_byte b ≡ 92 ∷ 120 ∷ hex_text 2 b
unfolding escaped_byte
byte_other b e = rw e

-- four places are enough
pub byte_few : (b : ℕ) → length (escaped_byte b) ≤ 4
byte_few b = go (plain b) refl
  where
    go : (t : Bool) → plain b ≡ t → length (escaped_byte b) ≤ 4
    go true e = rw (byte_plain b e) (omega arith)
    go false e = rw (byte_other b e) (omega (arith, length_digits 16 2 b))

-- a byte that stands for itself, stored
pub put_plain : (b at : ℕ) (old : List ℕ) → at + 4 ≤ length old → plain b ≡ true
    → (1 ≡ length (escaped_byte b)) × (set old at b ≡ put_at (escaped_byte b) at old)
put_plain b at old h e = rw (byte_plain b e) (refl, sets-eq (b ∷ []) old at (omega arith))

-- another: `\x` is stored, then its digits are put
pub put_other : (b at : ℕ) (count : Option ℕ) (n : ℕ) (old new : List ℕ) → at + 4 ≤ length old → plain b ≡ false
    → Put (hex_text 2 b) (at + 2) (set (set old at 92) (at + 1) 120) new count → n ≡ unwrap_or count 0
    → (2 + n ≡ length (escaped_byte b)) × (new ≡ put_at (escaped_byte b) at old)
put_other b at count n old new h e p counted =
    let two = length_digits 16 2 b in
    let front : set (set old at 92) (at + 1) 120 ≡ put_at (92 ∷ 120 ∷ []) at old = rw (add-one at) (sets-eq (92 ∷ 120 ∷ []) old at (omega arith)) in
    let same : length (set (set old at 92) (at + 1) 120) ≡ length old = simp length-set in
    let whole = put_whole (hex_text 2 b) (at + 2) (set (set old at 92) (at + 1) 120) new count n (omega arith) p counted in
    let long : length (92 ∷ 120 ∷ hex_text 2 b) ≡ 4 = omega arith in
    rw (byte_other b e)
    (omega (arith, whole.0), whole.1 ∙ rw front (put_at_append (92 ∷ 120 ∷ []) (hex_text 2 b) at old (omega arith)))

-- ---- bytes

escaped-append : (xs ys : List ℕ) → escaped (xs ++ ys) ≡ escaped xs ++ escaped ys
unfolding escaped
escaped-append [] ys = refl
escaped-append (x ∷ xs) ys = rw (escaped-append xs ys) (sym (append_assoc (escaped_byte x) (escaped xs) (escaped ys)))

escaped-snoc : (xs : List ℕ) (b : ℕ) → escaped (xs ++ (b ∷ [])) ≡ escaped xs ++ escaped_byte b
unfolding escaped
escaped-snoc xs b = escaped-append xs (b ∷ []) ∙ rw (append-nil (escaped_byte b))

-- one byte more
escaped-more : (bytes : List ℕ) (i : ℕ) → i < length bytes → escaped (take (i + 1) bytes) ≡ escaped (take i bytes) ++ escaped_byte (get_or bytes i 0)
escaped-more bytes i h = rw (add-one i, take-suc bytes i 0 h) (escaped-snoc (take i bytes) (get_or bytes i 0))

-- after i of the bytes, out has their text of len codes over the front of old
pub record Passed (bytes old out : List ℕ) (i len : ℕ) : Type 0 where
  pub room : 4 * length bytes ≤ length old
  pub few : len ≤ 4 * i
  pub same : length out ≡ length old
  pub counted : len ≡ length (escaped (take i bytes))
  pub text : out ≡ put_at (escaped (take i bytes)) 0 old

module _ (bytes old : List ℕ) where
  -- before the first turn
  pub none_passed : 4 * length bytes ≤ length old → Passed bytes old old 0 0
  unfolding escaped
  none_passed h =
      record { room = h; few = omega arith; same = refl; counted = refl; text = sym (put_at_nil 0 old) }

  -- a turn
  pub one-passed : (out new : List ℕ) (i len n : ℕ) → Passed bytes old out i len → i < length bytes → length new ≡ length out
      → (n ≡ length (escaped_byte (get_or bytes i 0))) × (new ≡ put_at (escaped_byte (get_or bytes i 0)) len out)
      → Passed bytes old new (i + 1) (len + n)
  one-passed out new i len n p h s w =
      let b = get_or bytes i 0 in
      let before = escaped (take i bytes) in
      let more = escaped-more bytes i h in
      let few = byte_few b in
      let l = length-append before (escaped_byte b) in
      let place : len ≡ 0 + length before = omega arith in
      let room : 0 + length (before ++ escaped_byte b) ≤ length old = omega arith in
      record {
        room = p.room;
        few = omega arith;
        same = s ∙ p.same;
        counted = rw more (omega arith);
        text = w.1 ∙ rw (more, p.text, place) (put_at_append before (escaped_byte b) 0 old room);
      }

  -- after the last
  pub all-passed : (out : List ℕ) (i len : ℕ) → Passed bytes old out i len → length bytes ≤ i → (len ≡ length (escaped bytes)) × (out ≡ put_at (escaped bytes) 0 old)
  all-passed out i len p h = rw (← take_all i bytes h) (p.counted, p.text)
