-- What is claimed of the texts: they read back, they are as long as a buffer for them has to be, and they have digits only.
use Rattle.std.specs.Prelude.{ℕ, ◌^◌, ◌≤◌, ◌<◌, ◌≡◌, [], ◌∷◌, length, get_or}
use Rattle.digits.specs.Digits.{hex_text, decimal, from_decimal, from_hex}

-- a decimal text reads back as its number
abbrev pub DecimalReads : Type 0
DecimalReads = (n : ℕ) → from_decimal (decimal n) ≡ n

-- equal decimal texts are of equal numbers
abbrev pub DecimalTells : Type 0
DecimalTells = (m n : ℕ) → decimal m ≡ decimal n → m ≡ n

-- a decimal text has at least one digit
abbrev pub DecimalSome : Type 0
DecimalSome = (n : ℕ) → 1 ≤ length (decimal n)

-- a decimal text has no more digits than its number needs, so no zero in front
abbrev pub DecimalLeast : Type 0
DecimalLeast = (n k : ℕ) → 1 ≤ k → n < 10 ^ k → length (decimal n) ≤ k

-- the decimal text of a 64-bit word has at most twenty digits
abbrev pub DecimalWord : Type 0
DecimalWord = (n : ℕ) → n < 2 ^ 64 → length (decimal n) ≤ 20

-- each byte of a decimal text is one of `0` to `9`
abbrev pub DecimalBytes : Type 0
DecimalBytes = (n i : ℕ) → i < length (decimal n) → (48 ≤ get_or (decimal n) i 0) × (get_or (decimal n) i 0 ≤ 57)

-- a hex text of enough digits reads back as its number
abbrev pub HexReads : Type 0
HexReads = (w n : ℕ) → n < 16 ^ w → from_hex (hex_text w n) ≡ n

-- a hex text is as wide as was asked
abbrev pub HexWide : Type 0
HexWide = (w n : ℕ) → length (hex_text w n) ≡ w

-- the definitions, worked out: 0, 1200, the largest word, and the bits of the float 1.0
abbrev pub Worked : Type 0
Worked =
    (decimal 0 ≡ 48 ∷ [])
    × (decimal 1200 ≡ 49 ∷ 50 ∷ 48 ∷ 48 ∷ [])
    × (decimal 18446744073709551615 ≡ 49 ∷ 56 ∷ 52 ∷ 52 ∷ 54 ∷ 55 ∷ 52 ∷ 52 ∷ 48 ∷ 55 ∷ 51 ∷ 55 ∷ 48 ∷ 57 ∷ 53 ∷ 53 ∷ 49 ∷ 54 ∷ 49 ∷ 53 ∷ [])
    × (hex_text 8 0x3f800000 ≡ 51 ∷ 102 ∷ 56 ∷ 48 ∷ 48 ∷ 48 ∷ 48 ∷ 48 ∷ [])

-- all of it, which `claimed` carries
pub record Claim : Type 0 where
  pub decimal-reads : DecimalReads
  pub decimal-tells : DecimalTells
  pub decimal-some : DecimalSome
  pub decimal-least : DecimalLeast
  pub decimal-word : DecimalWord
  pub decimal-bytes : DecimalBytes
  pub hex_reads : HexReads
  pub hex_wide : HexWide
  pub worked : Worked
