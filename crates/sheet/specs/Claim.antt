-- What is claimed of sheets: they are rewritten byte for byte, and build what their calls build, which the claim of crate history
-- covers; and those that were stored when panels had up to 64 entries keep their reading. (That what is written reads back, the
-- contract of sheet_format's `write` says.)
use Rattle.std.specs.Prelude.{ℕ, ◌≤◌, ◌<◌, ◌≡◌, cond, List, [], ◌∷◌, eqb, ltb, length, get_or}
use Rattle.refusal.specs.Refusal.{accepted, sheet_count, sheet_zero, refused_if}
use Rattle.timeline.specs.declared.timeline.Timeline.{Timeline}
use Rattle.timeline.specs.Placements.{empty}
use Rattle.timeline.specs.Calls.{Call, step, after}
use Rattle.history.specs.Covered.{Covered}
use Rattle.words.specs.Words.{byte_at}
use Rattle.sheet_format.specs.declared.description.Description.{Description}
use Rattle.sheet_format.specs.Check.{count_in, check_number}
use Rattle.sheet_format.specs.Descriptions.{description_in}
use Rattle.sheet_format.specs.Write.{write_number, written_bytes}
use Rattle.sheet.specs.Build.{built, read_calls, reading_of}
use Rattle.sheet.specs.Cases.{HeaderCases}
use Rattle.sheet.specs.Stored.{old_max_entries, old_check_number, old_reading_in, longer_reading}

-- what the sheet says is written as its bytes, in any room that is long enough
abbrev pub Rewritten : List ℕ → Type 0
Rewritten s =
    (room : ℕ) → ((i : ℕ) → get_or s i 0 < 256) → length s ≤ room
    → (write_number (description_in s) room ≡ accepted) × (written_bytes (description_in s) room ≡ s)

-- "Rewriting an accepted sheet returns its bytes."
abbrev pub Rewrites : Type 0
Rewrites = (s : List ℕ) → check_number s ≡ accepted → Rewritten s

-- no call of the list is refused
abbrev pub AllAccepted : Timeline → List Call → Type 0
AllAccepted t [] = Unit
AllAccepted t (call ∷ calls) = ((step t call).refusal ≡ accepted) × AllAccepted (step t call).timeline calls

-- a sheet is read and written as before
pub record AsBefore (s : List ℕ) : Type 0 where
  pub accepts : check_number s ≡ accepted
  -- the reader's answer, with its description and panel: that of before, in longer arrays
  pub reading : reading_of s ≡ longer_reading (old_reading_in s)
  pub rewriting : Rewritten s

-- "Stored sheets keep their bytes and reading": whatever the checks accepted when panels had up to 64 entries is accepted now, with the
-- same description and panel (the added slots of the arrays are blank), and is rewritten as its bytes.
abbrev pub Stored : Type 0
Stored = (s : List ℕ) → old_check_number s ≡ accepted → AsBefore s

-- "an older reader meets a longer sheet with 12 or 8": of the sheets that are accepted now, those checks refuse the ones with more than
-- 64 entries, by 8 where byte 3 is 0 and else by 12. The others they accept.
abbrev pub MeetsOldReader : Type 0
MeetsOldReader =
    (s : List ℕ) → check_number s ≡ accepted
    → old_check_number s ≡ refused_if (ltb old_max_entries (count_in s)) (cond (eqb (byte_at s 3) 0) sheet_count sheet_zero) accepted

-- all of it, which `claimed` carries
pub record Claim : Type 0 where
  pub rewrites : Rewrites
  -- what is read from any bytes is what its calls make
  pub made : (s : List ℕ) → (reading_of s).timeline ≡ after empty (read_calls s)
  -- "Readers and builders hand out what such lists give": so the claim of crate history covers it, and what any description builds
  pub reads : (s : List ℕ) → Covered (reading_of s).timeline
  pub builds : (d : Description) → Covered (built d)
  -- every entry of an accepted sheet is in its timeline
  pub takes : (s : List ℕ) → AllAccepted empty (read_calls s)
  pub stored : Stored
  pub meets_old_reader : MeetsOldReader
  pub header_cases : HeaderCases
