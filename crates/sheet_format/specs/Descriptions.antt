-- The description that a sheet's bytes say. Definitions only.
use Rattle.std.specs.Prelude.{ℕ, zero, suc, ◌-◌, cond, List, [], ◌∷◌, ◌++◌, map, eqb, take, drop, replicate}
use Rattle.refusal.specs.Refusal.{number_if}
use Rattle.steps.specs.Times.{max_entries}
use Rattle.tween.specs.declared.loop_mode.Loop.TheVariants.{Once}
use Rattle.tween.specs.LoopMode.{loop_of}
use Rattle.label.specs.Label.{text, with_text, label_of}
use Rattle.sheet_rules.specs.declared.record.Placement.TheVariants.{Start}
unfoldable pub use Rattle.sheet_rules.specs.Placements.{placement_of}
use Rattle.sheet_format.specs.declared.description.Item.{Item}
use Rattle.sheet_format.specs.declared.description.Description.{Description}
use Rattle.sheet_format.specs.declared.description.Described.{Described}
use Rattle.words.specs.Words.{byte_at, word}
use Rattle.words.specs.Pairs.{pair_size, part_of}
use Rattle.sheet_rules.specs.Rules.{header_size, record_size}
use Rattle.sheet_format.specs.Check.{records_at, count_in, kind_in, target_in, seconds_in, duration_in, check_number}

-- ---- descriptions

-- what stands in a slot that describes no entry
abbrev pub blank_item : Item
blank_item = record { duration = 0; at = Start; label = with_text [] }

-- the entries that are described
abbrev pub items_in : Description → List Item
items_in d = take d.count d.items

-- the description of the empty panel: `Once`, scale 1.0
unfoldable pub empty_description : Description
empty_description = record { count = 0; looping = Once; time_scale = 0x3f800000; items = replicate max_entries blank_item }

-- ---- what the bytes say

-- the entry whose pair and record are at the front
abbrev pub item_of : List ℕ → List ℕ → List ℕ → Item
item_of s pairs records =
    record { duration = duration_in records; at = placement_of (kind_in records) (target_in records) (seconds_in records); label = label_of (part_of s pairs) }

-- k entries, in turn
unfoldable pub items_from : List ℕ → ℕ → List ℕ → List ℕ → List Item
items_from s zero pairs records = []
items_from s (suc k) pairs records =
    item_of s pairs records ∷ items_from s k (drop pair_size pairs) (drop record_size records)

-- all entries of an accepted sheet
abbrev pub sheet_items : List ℕ → List Item
sheet_items s = items_from s (count_in s) (drop header_size s) (drop (records_at (count_in s)) s)

-- the description that an accepted sheet says, raw bits kept; slots past the count are blank
unfoldable pub description_in : List ℕ → Description
description_in s =
    record {
      count = count_in s;
      looping = loop_of (byte_at s 2) (word 4 (drop 4 s));
      time_scale = word 4 (drop 8 s);
      items = sheet_items s ++ replicate (max_entries - count_in s) blank_item;
    }

-- ---- what the reader answers

-- the number by which the bytes are refused, and the description
pub record NumberedDescription : Type 0 where
  pub refusal : ℕ
  pub description : Description

-- the reader's answer, by the number of its refusal
abbrev pub numbered : Described → NumberedDescription
numbered d = record { refusal = number_if d.refusal; description = d.description }

-- the answer for any bytes: the number, and the description, which is the empty panel's on refusal
unfoldable pub described_by : List ℕ → NumberedDescription
described_by s =
    cond (eqb (check_number s) 0)
    (record { refusal = 0; description = description_in s })
    (record { refusal = check_number s; description = empty_description })

-- ---- what is no part of a description

-- an entry with nothing past its label's text
abbrev pub clean_item : Item → Item
clean_item x = record { duration = x.duration; at = x.at; label = with_text (text x.label) }

-- a description with nothing past its count, nor past its labels' texts
unfoldable pub cleaned : Description → Description
cleaned d =
    record {
      count = d.count;
      looping = d.looping;
      time_scale = d.time_scale;
      items = map clean_item (items_in d) ++ replicate (max_entries - d.count) blank_item;
    }
