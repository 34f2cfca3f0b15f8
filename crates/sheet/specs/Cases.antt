-- Headers worked out by hand from the sentences on byte 3 and the count: what was answered when panels had up to 64 entries, and what
-- is now.
use Rattle.std.specs.Prelude.{ℕ, ◌≡◌, List, [], ◌∷◌}
use Rattle.sheet_rules.specs.Rules.{header_refusal}
use Rattle.sheet_format.specs.Check.{count_in}
use Rattle.sheet.specs.Stored.{old_count_in, old_header_refusal}

-- bytes 0 to 3 of version 1
abbrev front : ℕ → ℕ → ℕ → List ℕ
front low mode high = 1 ∷ low ∷ mode ∷ high ∷ []

-- a sheet of len bytes, with these three and the loop number 0: its number then, and its number now
abbrev pub Meets : ℕ → ℕ → ℕ → ℕ → ℕ → ℕ → Type 0
Meets len low mode high old new =
    (old_header_refusal len 1 (old_count_in (front low mode high)) mode high 0 ≡ old)
    × (header_refusal len 1 (count_in (front low mode high)) mode 0 ≡ new)

pub record HeaderCases : Type 0 where
  -- 64, 65, 255, 256 and 257 entries, in 10,252 bytes: "an older reader meets a longer sheet with 12 or 8"
  pub most_then : Meets 10252 64 0 0 0 0
  pub longer : Meets 10252 65 0 0 8 0
  pub low_byte_full : Meets 10252 255 0 0 8 0
  pub most : Meets 10252 0 0 1 12 0
  pub too_many : Meets 10252 1 0 1 12 8
  -- the count before the mode: "byte 3 being checked with the count"
  pub count_first : Meets 10252 1 5 1 12 8
  pub mode_next : Meets 10252 0 5 1 12 9
  pub mode_unread : Meets 10252 65 5 0 8 9
  -- and the length last: "7 if below 12 + 16n"
  pub too_short : Meets 4107 0 0 1 12 7
  pub long_enough : Meets 4108 0 0 1 12 0
