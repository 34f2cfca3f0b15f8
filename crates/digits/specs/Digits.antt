-- Numbers as texts of ASCII codes, read back, and put into a lent slice. Definitions only.
use Rattle.std.specs.Prelude.{ℕ, zero, suc, ◌+◌, ◌-◌, ◌*◌, ◌/◌, ◌%◌, ◌≡◌, Bool, true, false, cond, Option, Some, None, leb, ltb, length, take, drop}
use mathlib.Core.List.{List, [], ◌∷◌, ◌++◌, foldl}

-- ---- texts

-- the code of a digit below 16: `0` to `9`, then `a` to `f`
unfoldable pub code_of : ℕ → ℕ
code_of d = cond (ltb d 10) (48 + d) (87 + d)

-- the last w digits of n in base b, the most significant first
unfoldable pub digits : ℕ → ℕ → ℕ → List ℕ
digits b zero n = []
digits b (suc w) n = digits b w (n / b) ++ (code_of (n % b) ∷ [])

-- n in w lower-case hex digits
abbrev pub hex_text : ℕ → ℕ → List ℕ
hex_text w n = digits 16 w n

-- Decimal digits, counted: one below 10, else one more than n / 10 has. The flag says that n is below 10.
-- The first argument is fuel, of which n is enough.
unfoldable pub decimal_places_from : ℕ → Bool → ℕ → ℕ
decimal_places_from zero small n = 1
decimal_places_from (suc k) true n = 1
decimal_places_from (suc k) false n = suc (decimal_places_from k (ltb (n / 10) 10) (n / 10))

-- how many decimal digits n has
unfoldable pub decimal_places : ℕ → ℕ
decimal_places n = decimal_places_from n (ltb n 10) n

-- n in decimal, with no zero in front
unfoldable pub decimal : ℕ → List ℕ
decimal n = digits 10 (decimal_places n) n

-- ---- read back

-- the digit that a code stands for
unfoldable pub digit_of : ℕ → ℕ
digit_of c = cond (ltb c 97) (c - 48) (c - 87)

-- the number whose digits in base b a text has
unfoldable pub from_digits : ℕ → List ℕ → ℕ
from_digits b text = foldl (λ v c. v * b + digit_of c) 0 text

-- the number that a decimal text stands for
abbrev pub from_decimal : List ℕ → ℕ
from_decimal text = from_digits 10 text

-- the number that a hex text stands for
abbrev pub from_hex : List ℕ → ℕ
from_hex text = from_digits 16 text

-- ---- put into a slice

-- old with the text over it from `at` on
abbrev pub put_at : List ℕ → ℕ → List ℕ → List ℕ
put_at text at old = take at old ++ text ++ drop (at + length text) old

-- whether w bytes have room from `at` on
abbrev pub fits : ℕ → ℕ → List ℕ → Bool
fits w at old = leb (at + w) (length old)

-- what the slice holds after a text was put there: as it was where the text has no room
unfoldable pub written : List ℕ → ℕ → List ℕ → List ℕ
written text at old = cond (fits (length text) at old) (put_at text at old) old

-- how many bytes were written: the whole text, where it has room
unfoldable pub written_count : List ℕ → ℕ → List ℕ → Option ℕ
written_count text at old = cond (fits (length text) at old) (Some (length text)) None

-- the contract of each function here: the text was put into the slice old from `at` on, which left new, and the answer is count
pub record Put (text : List ℕ) (at : ℕ) (old new : List ℕ) (count : Option ℕ) : Type 0 where
  pub bytes : new ≡ written text at old
  pub counted : count ≡ written_count text at old
