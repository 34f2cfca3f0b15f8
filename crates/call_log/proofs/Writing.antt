-- Texts put into a line, one after the other.
use Prim.Native.Nat.{ℕ, suc, ◌+◌, ◌*◌, ◌≤◌, ◌<◌, max}
use mathlib.Core.Path.{◌≡◌, refl, sym, ap, ◌∙◌}
use mathlib.Core.List.{List, [], ◌∷◌, ◌++◌, append_assoc, append-nil, foldl-append, map, map-append}
use native.Mathlib.Nat.{add-zero}
use native.Mathlib.Numerals.{add-one}
use native.Mathlib.Omega.{arith}
use mathlib.Core.Bool.{Bool, true, false, cond}
use borrow.Author.Tests.{leb-true}
use lib.Dec.{leb, lit<, lit≤}
use lib.Ieee.{Float}
use lib.ListN.{length, take, get_or, set, length-append}
use lib.Seq.{take-suc, set_split}
use Rattle.std.specs.Prelude.{Option, None, Some}
use Rattle.std.specs.Option.{unwrap_or}
use Rattle.float32.specs.Helpers.{to_bits}
use Rattle.digits.specs.Digits.{decimal, written_count, Put}
use Rattle.digits.proofs.Length.{length_digits}
use Rattle.digits.proofs.PutAt.{put_at_nil}
use Rattle.digits.proofs.Room.{put_whole}
use Rattle.digits.proofs.Claim.{claim}
use Rattle.sheet_format.proofs.Stores.{length-put_at, put_at_then}
use Rattle.call_log.specs.Lines.{Refused, Accepted, Called, sheet_word, bits_field, with_field, with_fields, shown, Wrote, Adds}
use Rattle.call_log.specs.declared.fields.Text.{Text}

-- the array stays as long as it was
pub wrote_length : {xs : List ℕ} {at n : ℕ} {old new : List ℕ} → Wrote xs at old new n → n ≤ length old → length new ≡ length old
wrote_length {xs} {at} {n} {old} {new} w h = ap length w.bytes ∙ length-put_at xs at old (omega (arith, w.ends))

-- two texts, one after the other
pub wrote_then : {xs ys : List ℕ} {at m n : ℕ} {old mid new : List ℕ} → Wrote xs at old mid m → Wrote ys m mid new n → n ≤ length old
    → Wrote (xs ++ ys) at old new n
wrote_then {xs} {ys} {at} {m} {n} {old} {mid} {new} a b h =
    let l = length-append xs ys in
    record { bytes = put_at_then xs ys at m old mid new a.bytes b.bytes a.ends (omega arith); ends = omega arith }

-- nothing
pub wrote_none : (at : ℕ) (old : List ℕ) → Wrote [] at old old at
wrote_none at old = record { bytes = sym (put_at_nil at old); ends = sym (add-zero at) }

-- a byte
pub wrote_byte : (b at : ℕ) (old : List ℕ) → at < length old → Wrote (b ∷ []) at old (set old at b) (at + 1)
wrote_byte b at old h = record { bytes = rw add-one (simp append_assoc (set_split old at b h)); ends = refl }

-- digits that have room
pub wrote_put : {text : List ℕ} {at n : ℕ} {old new : List ℕ} {count : Option ℕ} → Put text at old new count → n ≡ unwrap_or count 0 → at + length text ≤ length old → Wrote text at old new (at + n)
wrote_put {text} {at} {n} {old} {new} {count} p e h =
    let w = put_whole text at old new count n h p e in
    record { bytes = w.1; ends = ap (at +◌) w.0 }

-- how long a number's text is: of a byte, and of a word
pub byte_digits : (n : ℕ) → n < 256 → length (decimal n) ≤ 3
byte_digits n h = claim.decimal-least n 3 (lit≤ tt) (omega arith)

pub word-digits : (n : ℕ) → n < 18446744073709551616 → length (decimal n) ≤ 20
word-digits n h = claim.decimal-word n h

-- ---- fields

-- fields after a text are the text and the fields
pub fields_after : (text : List ℕ) (fs : List (List ℕ)) → with_fields text fs ≡ text ++ with_fields [] fs
fields_after text [] = sym (append-nil text)
fields_after text (f ∷ fs) = rw (fields_after (with_field text f) fs, fields_after (32 ∷ f) fs) (append_assoc text (32 ∷ f) (with_fields [] fs))

-- one number more
pub fields_more : (xs : List ℕ) (i : ℕ) → i < length xs
    → with_fields [] (map decimal (take (i + 1) xs)) ≡ with_fields [] (map decimal (take i xs)) ++ (32 ∷ decimal (get_or xs i 0))
fields_more xs i h = rw (add-one i, take-suc xs i 0 h, map-append decimal (take i xs) (get_or xs i 0 ∷ []), foldl-append with_field [] (map decimal (take i xs)) (decimal (get_or xs i 0) ∷ []))

-- eight digits
pub bits_length : (x : Float) → length (bits_field (to_bits x)) ≡ 8
bits_length x = length_digits 16 8 (to_bits x)

-- a text from the beginning on ends where it is long
pub wrote_all : {xs : List ℕ} {old new : List ℕ} {n : ℕ} → Wrote xs 0 old new n → n ≡ length xs
wrote_all w = omega (arith, w.ends)

-- the same text
pub wrote_as : {xs ys : List ℕ} {at n : ℕ} {old new : List ℕ} → xs ≡ ys → Wrote ys at old new n → Wrote xs at old new n
wrote_as e w = rw e w

-- lines, part by part
pub shown-refused : (r : ℕ) → shown (Refused r) ≡ (sheet_word ++ (32 ∷ decimal r)) ++ (10 ∷ [])
unfolding shown
shown-refused r = refl

pub shown-accepted : (count base run : ℕ) → shown (Accepted count base run) ≡ ((((sheet_word ++ (32 ∷ decimal 0)) ++ (32 ∷ decimal count)) ++ (32 ∷ bits_field base)) ++ (32 ∷ bits_field run)) ++ (10 ∷ [])
unfolding shown
shown-accepted count base run = refl

pub shown-called : (n letter bits refusal : ℕ) (listed : List ℕ)
    → shown (Called n letter bits refusal listed) ≡ ((((decimal n ++ (32 ∷ letter ∷ [])) ++ (32 ∷ bits_field bits)) ++ (32 ∷ decimal refusal)) ++ with_fields [] (map decimal listed)) ++ (10 ∷ [])
unfolding shown
shown-called n letter bits refusal listed =
    ap (λ (text : List ℕ). text ++ (10 ∷ [])) (fields_after (((decimal n ++ (32 ∷ letter ∷ [])) ++ (32 ∷ bits_field bits)) ++ (32 ∷ decimal refusal)) (map decimal listed))

-- ---- a text that grows

-- two fields, one after the other
pub adds_then : {xs ys : List ℕ} {p q r : Text} → Adds xs p q → Adds ys q r → Adds (xs ++ ys) p r
adds_then {xs} {ys} {p} {q} {r} a b =
    record {
      slice = b.slice ∙ a.slice;
      whole = λ h.
          let l = length-append xs ys in
          let front : Wrote xs p.at p.out.now q.out.now q.at = a.whole (omega arith) in
          let ends = front.ends in
          let same = wrote_length front (omega arith) in
          let back : Wrote ys q.at q.out.now r.out.now r.at = b.whole (omega arith) in
          let end = back.ends in
          wrote_then front back (omega arith);
    }

-- none
pub adds_none : (p : Text) → Adds [] p p
adds_none p = record { slice = refl; whole = λ h. wrote_none p.at p.out.now }

-- the same field
pub adds_as : {xs ys : List ℕ} {p q : Text} → xs ≡ ys → Adds ys p q → Adds xs p q
adds_as e a = rw e a

-- what was put ends in the array, or nowhere
pub put_ends : {text : List ℕ} {at n : ℕ} {old new : List ℕ} {count : Option ℕ} → Put text at old new count → n ≡ unwrap_or count 0 → at + n ≤ max at (length old)
unfolding written_count
put_ends {text} {at} {n} {old} {new} {count} p e = go (leb (at + length text) (length old)) refl (e ∙ ap (λ (c : Option ℕ). unwrap_or c 0) p.counted)
  where
    go : (b : Bool) → leb (at + length text) (length old) ≡ b → n ≡ unwrap_or (cond b (Some (length text)) None) 0 → at + n ≤ max at (length old)
    go true t f = omega (arith, leb-true _ _ t)
    go false t f = omega arith

-- one byte more
pub word_more : (xs : List ℕ) (i : ℕ) → i < length xs → take (i + 1) xs ≡ take i xs ++ (get_or xs i 0 ∷ [])
word_more xs i h = rw (add-one i) (take-suc xs i 0 h)

-- ---- how long lines are

-- listed bytes: at most four places each
fields_few : (xs : List ℕ) → ((i : ℕ) → get_or xs i 0 < 256) → length (with_fields [] (map decimal xs)) ≤ 4 * length xs
fields_few [] h = omega arith
fields_few (x ∷ xs) h =
    let l = length-append (32 ∷ decimal x) (with_fields [] (map decimal xs)) in
    rw (fields_after (32 ∷ decimal x) (map decimal xs)) (omega (arith, l, byte_digits x (h 0), fields_few xs (λ i. h (suc i))))

pub refused_few : (r : ℕ) → r < 256 → length (shown (Refused r)) ≤ 1060
refused_few r h = rw shown-refused (simp length-append (omega (arith, byte_digits r h)))

pub accepted_few : (count base run : ℕ) → count < 18446744073709551616 → length (shown (Accepted count base run)) ≤ 1060
accepted_few count base run h =
    rw shown-accepted (simp length-append (omega (arith, byte_digits 0 (lit< tt), word-digits count h, length_digits 16 8 base, length_digits 16 8 run)))

pub called_few : (n letter bits r : ℕ) (listed : List ℕ) → n < 18446744073709551616 → r < 256 → ((i : ℕ) → get_or listed i 0 < 256) → length listed ≤ 256
    → length (shown (Called n letter bits r listed)) ≤ 1060
called_few n letter bits r listed hn hr hl few =
    rw shown-called (simp length-append (omega (arith, word-digits n hn, byte_digits r hr, fields_few listed hl, length_digits 16 8 bits)))
