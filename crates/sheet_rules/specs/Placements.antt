-- Where an entry is placed: what a record's numbers say, and the numbers that say it. Definitions only.
use Rattle.std.specs.Prelude.{ℕ, Bool, true, cond, eqb, ltb, Result, Ok, Err}
use Rattle.refusal.specs.declared.Refusal.{Refusal}
use Rattle.refusal.specs.declared.Refusal.TheVariants.{SheetPlacement}
use Rattle.sheet_rules.specs.declared.record.Placement.{Placement}
use Rattle.sheet_rules.specs.declared.record.Placement.TheVariants.{Absolute, Start, End, Label as Labeled, Offset}

-- "kind (order above)"
unfoldable pub placement_of : ℕ → ℕ → ℕ → Placement
placement_of kind target seconds =
    cond (eqb kind 0) (Absolute seconds)
    (cond (eqb kind 1) Start
    (cond (eqb kind 2) End
    (cond (eqb kind 3) (Labeled target) (Offset seconds))))

-- the placement that a record says, or refusal 10: "kind above 4"
abbrev pub placement_in : ℕ → ℕ → ℕ → Result Placement Refusal
placement_in kind target seconds = cond (ltb 4 kind) (Err SheetPlacement) (Ok (placement_of kind target seconds))

-- "kind (order above), target", and the seconds bits, 0 where the kind has none
abbrev pub kind_of : Placement → ℕ
kind_of (Absolute s) = 0
kind_of Start = 1
kind_of End = 2
kind_of (Labeled k) = 3
kind_of (Offset s) = 4

abbrev pub target_of : Placement → ℕ
target_of (Absolute s) = 0
target_of Start = 0
target_of End = 0
target_of (Labeled k) = k
target_of (Offset s) = 0

abbrev pub seconds_of : Placement → ℕ
seconds_of (Absolute s) = s
seconds_of Start = 0
seconds_of End = 0
seconds_of (Labeled k) = 0
seconds_of (Offset s) = s

-- "target not below the count"
abbrev pub target_good : ℕ → Placement → Bool
target_good n (Absolute s) = true
target_good n Start = true
target_good n End = true
target_good n (Labeled k) = ltb k n
target_good n (Offset s) = true
