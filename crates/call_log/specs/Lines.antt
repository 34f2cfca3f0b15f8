-- The lines of a log, and how each is shown as bytes. Definitions only.
use Rattle.std.specs.Prelude.{ℕ, ◌+◌, ◌≤◌, ◌≡◌, length}
use mathlib.Core.List.{List, [], ◌∷◌, ◌++◌, foldl, map}
use Rattle.digits.specs.Digits.{hex_text, decimal, put_at}
use Rattle.call_log.specs.declared.fields.Text.{Text}

-- ---- lines

-- a line, with the numbers that it shows
pub data Line : Type 0 where
  -- "A refused sheet .. prints `sheet` and the number only"
  Refused : ℕ → Line
  -- "First line: `sheet`, refusal, count, base bits, run bits"
  Accepted : ℕ → ℕ → ℕ → Line
  -- "per call: number from 1, state letter .. and elapsed bits after the call, refusal, completed entry numbers"
  Called : ℕ → ℕ → ℕ → ℕ → List ℕ → Line

-- ---- how they are shown

-- the word `sheet`
abbrev pub sheet_word : List ℕ
sheet_word = 115 ∷ 104 ∷ 101 ∷ 101 ∷ 116 ∷ []

-- a text with a field more: "fields have one space between"
abbrev pub with_field : List ℕ → List ℕ → List ℕ
with_field text field = text ++ (32 ∷ field)

-- a text with more fields, in turn
abbrev pub with_fields : List ℕ → List (List ℕ) → List ℕ
with_fields first fields = foldl with_field first fields

-- "LF ends each line"
abbrev pub ended : List ℕ → List ℕ
ended text = text ++ (10 ∷ [])

-- "Bits are eight lower-case hex digits"
abbrev pub bits_field : ℕ → List ℕ
bits_field bits = hex_text 8 bits

-- the bytes of a line
unfoldable pub shown : Line → List ℕ
shown (Refused refusal) = ended (with_fields sheet_word (decimal refusal ∷ []))
shown (Accepted count base run) = ended (with_fields sheet_word (decimal 0 ∷ decimal count ∷ bits_field base ∷ bits_field run ∷ []))
shown (Called number letter elapsed refusal listed) =
    ended (with_fields (decimal number) ((letter ∷ []) ∷ bits_field elapsed ∷ decimal refusal ∷ map decimal listed))

-- the bytes of lines, one after the other
unfoldable pub shown_all : List Line → List ℕ
shown_all [] = []
shown_all (l ∷ ls) = shown l ++ shown_all ls

-- ---- put into a lent array

-- no line is longer
abbrev pub line_size : ℕ
line_size = 1060

-- a text was put into the array old at an offset, which left new; what comes after it starts at next
pub record Wrote (text : List ℕ) (at : ℕ) (old new : List ℕ) (next : ℕ) : Type 0 where
  pub bytes : new ≡ put_at text at old
  pub ends : next ≡ at + length text

-- the text p of a line, with a field more, is q: in the same array, where the field was put if it has room
pub record Adds (field : List ℕ) (p q : Text) : Type 0 where
  pub slice : q.out.ghost_name ≡ p.out.ghost_name
  pub whole : p.at + length field ≤ length p.out.now → Wrote field p.at p.out.now q.out.now q.at
