-- The checks of a sheet (paper 01, "The sheet" and "Checks") on the numbers that stand in it. Definitions only.
use Rattle.std.specs.Prelude.{ℕ, ◌+◌, ◌*◌, Bool, cond, not, ◌&&◌, ◌||◌, eqb, leb, ltb}
use Rattle.refusal.specs.Refusal.{accepted, refused_if, sheet_version, sheet_length, sheet_count, sheet_loop, sheet_placement, sheet_zero}
use Rattle.steps.specs.Times.{max_entries}
use Rattle.label.specs.Label.{max_label}

-- ---- sizes: "12 + 16n", the header, then 4 bytes for a pair (crate words) and 12 for a record

abbrev pub header_size : ℕ
header_size = 12

abbrev pub record_size : ℕ
record_size = 12

-- where the labels of n entries start
abbrev pub labels_at : ℕ → ℕ
labels_at n = header_size + 16 * n

-- ---- the header

-- "9: loop mode above 4, or a nonzero number with mode 0, 2 or 3"
abbrev pub loop_good : ℕ → ℕ → Bool
loop_good mode number = leb mode 4 && (eqb mode 1 || (eqb mode 4 || eqb number 0))

-- "6; .. 8; 9; 7 if below 12 + 16n", of a sheet of len bytes; "byte 3 being checked with the count"
abbrev pub header_refusal : ℕ → ℕ → ℕ → ℕ → ℕ → ℕ
header_refusal len version n mode number =
    refused_if (not (eqb version 1)) sheet_version
    (refused_if (ltb max_entries n) sheet_count
    (refused_if (not (loop_good mode number)) sheet_loop
    (refused_if (ltb len (labels_at n)) sheet_length accepted)))

-- ---- a pair

-- "a label has 0 to 24 bytes"
abbrev pub label_fits : ℕ → Bool
label_fits len = leb len max_label

-- it starts where the one before ends, and is no longer than a label
abbrev pub pair_fits : ℕ → ℕ → ℕ → Bool
pair_fits offset start len = eqb start offset && label_fits len

-- ---- a record

-- "The target is an entry number below n for kind 3 .. else 0."
abbrev pub placement_good : ℕ → ℕ → ℕ → Bool
placement_good n kind target = leb kind 4 && cond (eqb kind 3) (ltb target n) (eqb target 0)

-- "two zero bytes", and "Seconds bits are 0 for kinds 1, 2, 3."
abbrev pub zeros_good : ℕ → ℕ → ℕ → ℕ → Bool
zeros_good kind first second seconds =
    (eqb first 0 && eqb second 0) && (eqb kind 0 || (eqb kind 4 || eqb seconds 0))

-- "kind and target (10), zero bytes and seconds (12)"
abbrev pub record_refusal : ℕ → ℕ → ℕ → ℕ → ℕ → ℕ → ℕ
record_refusal n kind target first second seconds =
    refused_if (not (placement_good n kind target)) sheet_placement
    (refused_if (not (zeros_good kind first second seconds)) sheet_zero accepted)
