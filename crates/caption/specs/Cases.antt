-- Cases worked out by hand from the sentences of paper 02, S-1, byte by byte.
use Rattle.std.specs.Prelude.{ℕ, ◌≡◌, List, [], ◌∷◌, ◌++◌}
use Rattle.caption.specs.declared.finder.Source.{Source}
use Rattle.caption.specs.declared.finder.Source.TheVariants.{Sheet, List as Venue}
use Rattle.caption.specs.Captions.{Answer, refused_caption, caption_of}

-- a sheet of two entries, Once, scale 1.0, both at Start: `ab` at 44, and an empty label at 46
abbrev header : List ℕ
header = 1 ∷ 2 ∷ 0 ∷ 0 ∷ 0 ∷ 0 ∷ 0 ∷ 0 ∷ 0 ∷ 0 ∷ 128 ∷ 63 ∷ []

abbrev at_start : List ℕ
at_start = 1 ∷ 0 ∷ 0 ∷ 0 ∷ 0 ∷ 0 ∷ 0 ∷ 0 ∷ 0 ∷ 0 ∷ 128 ∷ 63 ∷ []

abbrev pub sheet : List ℕ
sheet = header ++ (44 ∷ 0 ∷ 2 ∷ 0 ∷ 46 ∷ 0 ∷ 0 ∷ 0 ∷ []) ++ at_start ++ at_start ++ (97 ∷ 98 ∷ [])

-- its second label starts one byte too far on: 11
abbrev pub bad_sheet : List ℕ
bad_sheet = header ++ (44 ∷ 0 ∷ 2 ∷ 0 ∷ 47 ∷ 0 ∷ 0 ∷ 0 ∷ []) ++ at_start ++ at_start ++ (97 ∷ 98 ∷ [])

-- three codes: `a` with `X`, `ab` with `YY`, `ab` with `Z`; the text starts at 26
abbrev pub twice : List ℕ
twice =
    (3 ∷ 0 ∷ [])
    ++ (26 ∷ 0 ∷ 1 ∷ 0 ∷ 27 ∷ 0 ∷ 1 ∷ 0 ∷ [])
    ++ (28 ∷ 0 ∷ 2 ∷ 0 ∷ 30 ∷ 0 ∷ 2 ∷ 0 ∷ [])
    ++ (32 ∷ 0 ∷ 2 ∷ 0 ∷ 34 ∷ 0 ∷ 1 ∷ 0 ∷ [])
    ++ (97 ∷ 88 ∷ 97 ∷ 98 ∷ 89 ∷ 89 ∷ 97 ∷ 98 ∷ 90 ∷ [])

-- the same with a byte behind it
abbrev pub longer : List ℕ
longer = twice ++ (33 ∷ [])

-- two codes: `abc` with `X`, and an empty one with no words, at 22
abbrev pub empty : List ℕ
empty = (2 ∷ 0 ∷ []) ++ (18 ∷ 0 ∷ 3 ∷ 0 ∷ 21 ∷ 0 ∷ 1 ∷ 0 ∷ []) ++ (22 ∷ 0 ∷ 0 ∷ 0 ∷ 22 ∷ 0 ∷ 0 ∷ 0 ∷ []) ++ (97 ∷ 98 ∷ 99 ∷ 88 ∷ [])

abbrev part : Source → ℕ → ℕ → Answer
part source at len = record { refusal = 0; source = source; at = at; len = len }

pub record Worked : Type 0 where
  -- of two equal codes the first; `a` only begins the label
  pub first : caption_of twice sheet 0 ≡ part Venue 30 2
  -- no code is empty: the label itself
  pub label : caption_of twice sheet 1 ≡ part Sheet 46 0
  -- the label only begins `abc`
  pub longer_code : caption_of empty sheet 0 ≡ part Sheet 44 2
  -- an empty code equals an empty label; its words are empty, at their place
  pub empty_code : caption_of empty sheet 1 ≡ part Venue 22 0
  -- "2 bytes for no codes": not 3, 1 or none
  pub no_codes : caption_of (0 ∷ 0 ∷ []) sheet 0 ≡ part Sheet 44 2
  pub three_bytes : caption_of (0 ∷ 0 ∷ 0 ∷ []) sheet 0 ≡ refused_caption 16
  pub one_byte : caption_of (0 ∷ []) sheet 0 ≡ refused_caption 16
  pub nothing : caption_of [] sheet 0 ≡ refused_caption 16
  -- the last words do not end the list; an entry equal to the count
  pub end : caption_of longer sheet 0 ≡ refused_caption 16
  pub entry : caption_of twice sheet 2 ≡ refused_caption 16
  -- "after the sheet's own numbers", with a list and an entry that are refused, too
  pub sheet_first : caption_of longer bad_sheet 2 ≡ refused_caption 11
  pub no_sheet : caption_of [] [] 0 ≡ refused_caption 7
