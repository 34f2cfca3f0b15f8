-- Little-endian numbers. Definitions only.
use Rattle.std.specs.Prelude.{ℕ, zero, suc, ◌+◌, ◌*◌, ◌/◌, ◌%◌, List, [], ◌∷◌, get_or}

-- byte i; past the end it is 0
abbrev pub byte_at : List ℕ → ℕ → ℕ
byte_at s i = get_or s i 0

-- the number in the first w bytes, the least first; past the end bytes are 0
unfoldable pub word : ℕ → List ℕ → ℕ
word zero s = 0
word (suc w) [] = 0
word (suc w) (b ∷ s) = b + 256 * word w s

-- n in w bytes
unfoldable pub bytes_of : ℕ → ℕ → List ℕ
bytes_of zero n = []
bytes_of (suc w) n = n % 256 ∷ bytes_of w (n / 256)
