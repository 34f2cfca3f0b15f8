-- Entries whose starts and durations stand in two lists. Definitions only.
use Rattle.std.specs.Prelude.{ℕ, List, [], ◌∷◌, take, Float}
use Rattle.std.specs.Float.{binary32}
use Rattle.std.specs.Float.Ieee.{add}
use Rattle.completions.specs.declared.Spans.{Spans}

-- as many entries as a byte has numbers for
abbrev pub most_entries : ℕ
most_entries = 256

-- where the entries end: as many as the shorter list has
abbrev pub ends_of : List Float → List Float → List Float
ends_of [] ds = []
ends_of (s ∷ ss) [] = []
ends_of (s ∷ ss) (d ∷ ds) = add binary32 s d ∷ ends_of ss ds

-- of the first n
abbrev pub ends_in : ℕ → List Float → List Float → List Float
ends_in n ss ds = take n (ends_of ss ds)

-- the same, of lent columns
abbrev pub ends : Spans → List Float
ends s = ends_of s.starts.now s.durations.now

abbrev pub first_ends : ℕ → Spans → List Float
first_ends n s = ends_in n s.starts.now s.durations.now
