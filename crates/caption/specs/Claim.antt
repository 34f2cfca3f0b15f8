-- What holds of every caption.
use Rattle.std.specs.Prelude.{ℕ, ◌+◌, ◌<◌, ◌≤◌, ◌≡◌, List, [], length, drop, get_or}
use Rattle.refusal.specs.Refusal.{accepted}
use Rattle.label.specs.Label.{text}
use Rattle.words.specs.Pairs.{pair_size, pair_in, part_of}
use Rattle.sheet_format.specs.Descriptions.{blank_item, sheet_items}
use Rattle.caption.specs.declared.finder.Source.TheVariants.{Sheet, List as Venue}
use Rattle.caption.specs.Cases.{Worked}
use Rattle.caption.specs.Captions.{codes_in, text_at, label_pair, label_in, caption_number, refused_caption, shown_from, caption_of, named, shown_bytes}

-- the pairs of code k, and the code
abbrev pub code_pairs : List ℕ → ℕ → List ℕ
code_pairs list k = drop (text_at k) list

abbrev pub code_at : List ℕ → ℕ → List ℕ
code_at list k = part_of list (code_pairs list k)

-- code k is the first that is the label
pub record First (list label : List ℕ) (k : ℕ) : Type 0 where
  pub below : k < codes_in list
  pub equal : code_at list k ≡ label
  pub earliest : (j : ℕ) → j < k → code_at list j ≡ label → ⊥

-- Of an accepted call:
-- 1. the first equal code wins: the caption is its words, a part of the list;
-- 2. where no code is equal, the caption is the label itself, a part of the sheet;
-- 3. the label is that of the entry as the sheet's reader describes it.
-- Of every call:
-- 4. the part lies inside the slice that is named, so that it is as long as the answer says.
-- Of a refused call:
-- 5. the caption is the empty start of the sheet.
pub record Holds (list sheet : List ℕ) (entry : ℕ) : Type 0 where
  pub first : caption_number list sheet entry ≡ accepted → (k : ℕ) → First list (label_in sheet entry) k
      → caption_of list sheet entry ≡ shown_from Venue (pair_in (drop pair_size (code_pairs list k)))
  pub own : caption_number list sheet entry ≡ accepted → ((k : ℕ) → k < codes_in list → code_at list k ≡ label_in sheet entry → ⊥)
      → (caption_of list sheet entry ≡ shown_from Sheet (pair_in (label_pair sheet entry))) × (shown_bytes (caption_of list sheet entry) list sheet ≡ label_in sheet entry)
  pub label : caption_number list sheet entry ≡ accepted → label_in sheet entry ≡ text (get_or (sheet_items sheet) entry blank_item).label
  pub inside : (caption_of list sheet entry).at + (caption_of list sheet entry).len ≤ length (named (caption_of list sheet entry).source list sheet)
  pub refused : (caption_number list sheet entry ≡ accepted → ⊥)
      → (caption_of list sheet entry ≡ refused_caption (caption_number list sheet entry)) × (shown_bytes (caption_of list sheet entry) list sheet ≡ [])

-- all of it, with the cases worked out by hand: `claimed` carries it
pub record Claim : Type 0 where
  pub holds : (list sheet : List ℕ) (entry : ℕ) → Holds list sheet entry
  pub worked : Worked
