-- The bytes that a description is written as, and when it is refused. Definitions only.
use Rattle.std.specs.Prelude.{ℕ, ◌+◌, ◌/◌, ◌%◌, ◌≤◌, ◌≡◌, Bool, true, cond, not, ◌&&◌, List, [], ◌∷◌, ◌++◌, eqb, leb, ltb, length, take, drop, Result}
use Rattle.refusal.specs.declared.Refusal.{Refusal}
use Rattle.refusal.specs.Refusal.{accepted, sheet_count, sheet_placement, sheet_pair, room_too_short, refused_if, number_in, held_or}
use Rattle.steps.specs.Times.{max_entries}
use Rattle.tween.specs.declared.loop_mode.Loop.{Loop}
use Rattle.tween.specs.LoopMode.{mode_of, number_of}
use Rattle.label.specs.Label.{max_label, text}
use Rattle.sheet_format.specs.declared.description.Item.{Item}
use Rattle.sheet_format.specs.declared.description.Description.{Description}
use Rattle.words.specs.Words.{bytes_of}
use Rattle.sheet_rules.specs.Rules.{labels_at}
use Rattle.sheet_rules.specs.Placements.{kind_of, target_of, seconds_of, target_good}
use Rattle.sheet_format.specs.Descriptions.{items_in, described_by, cleaned}

-- ---- the bytes

-- "Byte 0 version, 1 count n, 2 mode .. 4 to 7 loop number; 8 to 11 scale bits"; "byte 3 becomes the high byte of the count"
unfoldable pub header_bytes : ℕ → Loop → ℕ → List ℕ
header_bytes n looping scale = (1 ∷ n % 256 ∷ mode_of looping ∷ n / 256 ∷ []) ++ (bytes_of 4 (number_of looping) ++ bytes_of 4 scale)

-- how long an entry's label is
abbrev pub text_length : Item → ℕ
text_length x = length (text x.label)

-- "pairs of u16 offset and u16 length"
abbrev pub pair_of : ℕ → ℕ → List ℕ
pair_of offset len = bytes_of 2 offset ++ bytes_of 2 len

-- the pairs of entries in turn: the first label starts at this offset, "each next where the one before ends"
unfoldable pub pairs_of : ℕ → List Item → List ℕ
pairs_of offset [] = []
pairs_of offset (x ∷ xs) = pair_of offset (text_length x) ++ pairs_of (offset + text_length x) xs

-- "records of 12 bytes: kind, target, two zero bytes, seconds bits, duration bits"
unfoldable pub record_of : Item → List ℕ
record_of x =
    (kind_of x.at ∷ target_of x.at ∷ 0 ∷ 0 ∷ []) ++ (bytes_of 4 (seconds_of x.at) ++ bytes_of 4 x.duration)

-- the records of entries, in turn
unfoldable pub records_of : List Item → List ℕ
records_of [] = []
records_of (x ∷ xs) = record_of x ++ records_of xs

-- the labels, one after the other
unfoldable pub texts_of : List Item → List ℕ
texts_of [] = []
texts_of (x ∷ xs) = text x.label ++ texts_of xs

-- the sheet of a description that the writer accepts
unfoldable pub sheet_of : Description → List ℕ
sheet_of d =
    header_bytes d.count d.looping d.time_scale ++ (pairs_of (labels_at d.count) (items_in d) ++ (records_of (items_in d) ++ texts_of (items_in d)))

-- ---- refusals

-- no label is above 24
unfoldable pub labels_good : List Item → Bool
labels_good [] = true
labels_good (x ∷ xs) = leb x.label.len max_label && labels_good xs

-- "target not below the count", of every entry
unfoldable pub targets_good : ℕ → List Item → Bool
targets_good n [] = true
targets_good n (x ∷ xs) = target_good n x.at && targets_good n xs

-- "It refuses by 8, 11 (label above 24), 10 (target not below the count)": whatever the room
unfoldable pub describe_number : Description → ℕ
describe_number d =
    refused_if (ltb max_entries d.count) sheet_count
    (refused_if (not (labels_good (items_in d))) sheet_pair
    (refused_if (not (targets_good d.count (items_in d))) sheet_placement accepted))

-- "15 in that order": the room for a written sheet is too short
unfoldable pub write_number : Description → ℕ → ℕ
write_number d room =
    cond (eqb (describe_number d) accepted) (refused_if (ltb room (length (sheet_of d))) room_too_short accepted) (describe_number d)

-- what is written: the sheet, or nothing on refusal
unfoldable pub written_bytes : Description → ℕ → List ℕ
written_bytes d room = cond (eqb (write_number d room) accepted) (sheet_of d) []

-- the writer's answer: the number by which it refuses, and how long the sheet is; 0 where nothing was written
pub record Written : Type 0 where
  pub refusal : ℕ
  pub len : ℕ

abbrev pub written_as : Result ℕ Refusal → Written
written_as r = record { refusal = number_in r; len = held_or 0 r }

-- the answer, and what the room holds then
abbrev pub written_answer : Description → ℕ → Written
written_answer d room = record { refusal = write_number d room; len = length (written_bytes d room) }

abbrev pub written_room : Description → List ℕ → List ℕ
written_room d room = written_bytes d (length room) ++ drop (length (written_bytes d (length room))) room

-- what holds of an accepted description whose sheet fits a room of so many bytes
pub record Fits (d : Description) (room : ℕ) : Type 0 where
  pub few : d.count ≤ max_entries
  pub targets : targets_good d.count (items_in d) ≡ true
  pub items : length (items_in d) ≡ d.count
  pub fits : labels_at d.count + length (texts_of (items_in d)) ≤ room

-- "reading its bytes returns the description, float bits included": of an accepted description d, the answer, and what the room holds then
abbrev pub ReadsBack : Description → Written → List ℕ → Type 0
ReadsBack d r room = r.refusal ≡ accepted → described_by (take r.len room) ≡ record { refusal = accepted; description = cleaned d }
