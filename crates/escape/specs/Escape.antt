-- Bytes as text that a person can read, as lists of ASCII codes. Definitions only.
use Rattle.std.specs.Prelude.{ℕ, zero, suc, ◌/◌, min, Bool, not, ◌&&◌, cond, List, [], ◌∷◌, ◌++◌, leb, eqb, length, take, drop}
use Rattle.digits.specs.Digits.{hex_text, from_hex, put_at}
use Rattle.escape.specs.declared.Escaped.{Escaped}

-- printable ASCII, but the backslash
abbrev pub plain : ℕ → Bool
plain b = leb 32 b && (leb b 126 && not (eqb b 92))

-- a byte as it is, or `\x` and two hex digits
unfoldable pub escaped_byte : ℕ → List ℕ
escaped_byte b = cond (plain b) (b ∷ []) (92 ∷ 120 ∷ hex_text 2 b)

-- each byte so, one after the other
unfoldable pub escaped : List ℕ → List ℕ
escaped [] = []
escaped (b ∷ bs) = escaped_byte b ++ escaped bs

-- how many of the bytes surely have room, at four places each
abbrev pub taken : List ℕ → List ℕ → ℕ
taken bytes room = min (length bytes) (length room / 4)

-- the answer
abbrev pub escaped_by : List ℕ → List ℕ → Escaped
escaped_by bytes room = record { used = taken bytes room; len = length (escaped (take (taken bytes room) bytes)) }

-- what the room holds then
abbrev pub escaped_room : List ℕ → List ℕ → List ℕ
escaped_room bytes room = put_at (escaped (take (taken bytes room) bytes)) 0 room

-- ---- read back

-- A text read back: a backslash starts an escape, which stands for the number of its two digits; any other code stands for itself.
-- The first argument is how many codes to pass over: those of an escape after its backslash.
unfoldable pub unescaped_from : ℕ → List ℕ → List ℕ
unescaped_from k [] = []
unescaped_from zero (c ∷ text) = cond (eqb c 92) (from_hex (take 2 (drop 1 text))) c ∷ unescaped_from (cond (eqb c 92) 3 0) text
unescaped_from (suc k) (c ∷ text) = unescaped_from k text

-- the bytes whose text this is
abbrev pub unescaped : List ℕ → List ℕ
unescaped text = unescaped_from 0 text
