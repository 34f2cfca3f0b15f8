-- The caption of a sheet's entry, in the venue's own words (paper 02, S-1), for every byte string as list and as sheet. Definitions only.
use Rattle.std.specs.Prelude.{ℕ, zero, suc, ◌+◌, ◌*◌, ◌≡◌, Bool, true, cond, not, List, eqb, ltb, length, take, drop, Option, Some, None, Result, Ok, Err}
use Rattle.std.specs.Borrow.{Bor}
use Rattle.refusal.specs.declared.Refusal.{Refusal}
use Rattle.refusal.specs.declared.Refusal.TheVariants.{BadCaption}
use Rattle.refusal.specs.Refusal.{accepted, bad_caption, refused_if, in_turn, number}
use Rattle.label.specs.Label.{same_text}
use Rattle.words.specs.declared.Pair.{Pair}
use Rattle.words.specs.Words.{word}
use Rattle.words.specs.Pairs.{pair_size, pair_in, part_of, pairs_in_turn}
use Rattle.sheet_rules.specs.Rules.{header_size}
use Rattle.sheet_format.specs.Check.{count_in, check_number}
use Rattle.caption.specs.declared.finder.Source.{Source}
use Rattle.caption.specs.declared.finder.Source.TheVariants.{Sheet, List as Venue}
use Rattle.caption.specs.declared.finder.Caption.{Caption}

-- ---- the venue list: "a u16 number of codes, then two pairs for each, code and words in turn, in the sheet's shape"

abbrev pub codes_in : List ℕ → ℕ
codes_in list = word 2 list

-- the pairs of the first code, and the bytes of a code's two pairs
abbrev pub pairs_in : List ℕ → List ℕ
pairs_in list = drop 2 list

abbrev pub code_size : ℕ
code_size = 8

-- "offsets from the list's start, the first right after the pairs"
abbrev pub text_at : ℕ → ℕ
text_at n = 2 + code_size * n

-- "any lengths"
abbrev pub any_length : ℕ → Bool
any_length len = true

-- "a list of another shape": a pair that is not in turn, or a last one that does not end the list. A list below 2 bytes has such an end.
unfoldable pub list_number : List ℕ → ℕ
list_number list = pairs_in_turn any_length bad_caption bad_caption (length list) (text_at (codes_in list)) (2 * codes_in list) (pairs_in list)

-- ---- "The first code equal to the label wins"

abbrev pub no_match : Option Pair
no_match = None

-- a match, with these words, where a code is equal
abbrev pub matched : Bool → Pair → Option Pair
matched equal words = cond equal (Some words) no_match

-- the code whose pair is at the front; the next pair is that of its words
abbrev pub match_in : List ℕ → List ℕ → List ℕ → Option Pair
match_in list label pairs = matched (same_text (part_of list pairs) label) (pair_in (drop pair_size pairs))

-- the first of two
abbrev pub earlier : Option Pair → Option Pair → Option Pair
earlier (Some words) second = Some words
earlier None second = second

-- of k codes
unfoldable pub first_match : List ℕ → List ℕ → ℕ → List ℕ → Option Pair
first_match list label zero pairs = no_match
first_match list label (suc k) pairs = earlier (match_in list label pairs) (first_match list label k (drop code_size pairs))

-- of all codes of a list, where its shape is right
unfoldable pub looked_up : List ℕ → List ℕ → Result (Option Pair) Refusal
looked_up list label =
    cond (eqb (list_number list) accepted)
    (Ok (first_match list label (codes_in list) (pairs_in list)))
    (Err BadCaption)

-- ---- the caption

-- what a call answers: the number by which it is refused, and the part that is shown
pub record Answer : Type 0 where
  pub refusal : ℕ
  pub source : Source
  pub at : ℕ
  pub len : ℕ

-- the pair of an entry's label, and the label: a part of the sheet
abbrev pub label_pair : List ℕ → ℕ → List ℕ
label_pair sheet entry = drop (header_size + pair_size * entry) sheet

abbrev pub label_in : List ℕ → ℕ → List ℕ
label_in sheet entry = part_of sheet (label_pair sheet entry)

-- "New 16, after the sheet's own numbers: a list of another shape, or an entry number not below the sheet's count."
unfoldable pub caption_number : List ℕ → List ℕ → ℕ → ℕ
caption_number list sheet entry =
    in_turn (check_number sheet)
    (in_turn (list_number list) (refused_if (not (ltb entry (count_in sheet))) bad_caption accepted))

-- "The refused caption is the empty start of the sheet."
abbrev pub refused_caption : ℕ → Answer
refused_caption number = record { refusal = number; source = Sheet; at = 0; len = 0 }

-- "the caption shown is a part of the venue list or of the sheet"
abbrev pub shown_from : Source → Pair → Answer
shown_from source part = record { refusal = accepted; source = source; at = part.offset; len = part.len }

-- the words of the first match; "otherwise the label is shown"
abbrev pub shown_by : Option Pair → Pair → Answer
shown_by (Some words) own = shown_from Venue words
shown_by None own = shown_from Sheet own

unfoldable pub caption_of : List ℕ → List ℕ → ℕ → Answer
caption_of list sheet entry =
    cond (eqb (caption_number list sheet entry) accepted)
    (shown_by (first_match list (label_in sheet entry) (codes_in list) (pairs_in list)) (pair_in (label_pair sheet entry)))
    (refused_caption (caption_number list sheet entry))

-- ---- what a function answers: the part, or the reason

-- the part that a pair names
abbrev pub shown : Source → Pair → Caption
shown source part = record { source = source; at = part.offset; len = part.len }

abbrev pub answer : Result Caption Refusal → Answer
answer (Ok c) = record { refusal = accepted; source = c.source; at = c.at; len = c.len }
answer (Err r) = refused_caption (number r)

-- ---- the part itself: "the answer says of which and where"

-- the codes of `S` and `L`
abbrev pub letter_of : Source → ℕ
letter_of Sheet = 83
letter_of Venue = 76

-- of the two, the one that is named
abbrev pub named : {A : Type 0} → Source → A → A → A
named Sheet list sheet = sheet
named Venue list sheet = list

-- the bytes of a caption
abbrev pub shown_bytes : Answer → List ℕ → List ℕ → List ℕ
shown_bytes c list sheet = take c.len (drop c.at (named c.source list sheet))

-- a reference to a caption: its bytes, and its place, which is in the block of the slice that is named, `at` bytes from its start
pub record IsPart (c : Answer) (list sheet shown : Bor (List ℕ)) : Type 0 where
  pub bytes : shown.now ≡ shown_bytes c list.now sheet.now
  pub block : shown.ref_ptr.0 ≡ (named c.source list sheet).ref_ptr.0
  pub place : shown.ref_ptr.1 ≡ (named c.source list sheet).ref_ptr.1 + c.at
