-- What is claimed of the texts: a person can read them, and they tell bytes apart.
use Rattle.std.specs.Prelude.{ℕ, ◌≤◌, ◌<◌, ◌≡◌, List, [], ◌∷◌, length, get_or}
use Rattle.escape.specs.Escape.{escaped, unescaped}

-- every element is a byte
abbrev pub Bytes : List ℕ → Type 0
Bytes s = (i : ℕ) → get_or s i 0 < 256

-- every code of a text is printable ASCII, whatever the text is of
abbrev pub Printable : Type 0
Printable = (s : List ℕ) (i : ℕ) → i < length (escaped s) → (32 ≤ get_or (escaped s) i 0) × (get_or (escaped s) i 0 ≤ 126)

-- the text of bytes reads back as the bytes
abbrev pub Reads : Type 0
Reads = (s : List ℕ) → Bytes s → unescaped (escaped s) ≡ s

-- equal texts are of equal bytes
abbrev pub Tells : Type 0
Tells = (s t : List ℕ) → Bytes s → Bytes t → escaped s ≡ escaped t → s ≡ t

-- the definitions, worked out: the ends of what stands for itself, the codes beside them, the backslash, and the largest byte
abbrev pub Worked : Type 0
Worked =
    (escaped (32 ∷ 126 ∷ []) ≡ 32 ∷ 126 ∷ [])
    × (escaped (31 ∷ 127 ∷ []) ≡ 92 ∷ 120 ∷ 49 ∷ 102 ∷ 92 ∷ 120 ∷ 55 ∷ 102 ∷ [])
    × (escaped (92 ∷ 255 ∷ []) ≡ 92 ∷ 120 ∷ 53 ∷ 99 ∷ 92 ∷ 120 ∷ 102 ∷ 102 ∷ [])

-- all of it, which `claimed` carries
pub record Claim : Type 0 where
  pub printable : Printable
  pub reads : Reads
  pub tells : Tells
  pub worked : Worked
