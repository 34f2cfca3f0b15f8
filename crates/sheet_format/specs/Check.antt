-- The number by which a sheet is refused, for every byte string (paper 01, "The sheet" and "Checks"). Definitions only.
use Rattle.std.specs.Prelude.{ℕ, zero, suc, ◌+◌, ◌*◌, Bool, List, ltb, length, drop}
use Rattle.sheet_rules.specs.declared.record.Record.{Record}
use Rattle.refusal.specs.Refusal.{accepted, sheet_length, sheet_pair, refused_if, in_turn}
use Rattle.words.specs.Pairs.{pair_size, offset_in, length_in, pairs_in_turn}
use Rattle.sheet_rules.specs.Rules.{header_size, record_size, labels_at, header_refusal, label_fits, pair_fits, record_refusal}
use Rattle.words.specs.Words.{byte_at, word}

-- where the records start
abbrev pub records_at : ℕ → ℕ
records_at n = header_size + pair_size * n

-- ---- the header

-- "count n"; "byte 3 becomes the high byte of the count"
abbrev pub count_in : List ℕ → ℕ
count_in s = byte_at s 1 + 256 * byte_at s 3

-- "7 if below 12 bytes", then the other checks of the header
unfoldable pub header_number : List ℕ → ℕ
header_number s =
    refused_if (ltb (length s) header_size) sheet_length
    (header_refusal (length s) (byte_at s 0) (count_in s) (byte_at s 2) (word 4 (drop 4 s)))

-- ---- the pairs

-- the pair at the front starts at this offset, and is no longer than a label
abbrev pub pair_good : ℕ → List ℕ → Bool
pair_good offset pairs = pair_fits offset (offset_in pairs) (length_in pairs)

-- "pairs in turn (11); 7 if the end differs": of k pairs, in a sheet of len bytes, where the first label starts at this offset
abbrev pub pairs_number : ℕ → ℕ → ℕ → List ℕ → ℕ
pairs_number len offset k pairs = pairs_in_turn label_fits sheet_pair sheet_length len offset k pairs

-- ---- the records

-- the kind, the target, the seconds bits and the duration bits of the record at the front
abbrev pub kind_in : List ℕ → ℕ
kind_in records = byte_at records 0

abbrev pub target_in : List ℕ → ℕ
target_in records = byte_at records 1

abbrev pub seconds_in : List ℕ → ℕ
seconds_in records = word 4 (drop 4 records)

abbrev pub duration_in : List ℕ → ℕ
duration_in records = word 4 (drop 8 records)

-- the record at the front, without the duration bits
abbrev pub record_in : List ℕ → Record
record_in records =
    record {
      kind = kind_in records;
      target = target_in records;
      first_zero = byte_at records 2;
      second_zero = byte_at records 3;
      seconds = seconds_in records;
    }

-- the record at the front, in a sheet of n entries
unfoldable pub record_number : ℕ → List ℕ → ℕ
record_number n records = record_refusal n (kind_in records) (target_in records) (byte_at records 2) (byte_at records 3) (seconds_in records)

-- "then records in turn": k of them, in a sheet of n entries
unfoldable pub records_number : ℕ → ℕ → List ℕ → ℕ
records_number n zero records = accepted
records_number n (suc k) records = in_turn (record_number n records) (records_number n k (drop record_size records))

-- ---- the sheet

-- the refusal of any byte string; 0 is accepted
unfoldable pub check_number : List ℕ → ℕ
check_number s =
    in_turn (header_number s)
    (in_turn (pairs_number (length s) (labels_at (count_in s)) (count_in s) (drop header_size s))
    (records_number (count_in s) (count_in s) (drop (records_at (count_in s)) s)))
