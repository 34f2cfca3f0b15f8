-- What is claimed of logs: calling the functions in turn prints exactly the log of the definition, and the worked example; the limit
-- takes every sheet, and an input whose sheet was accepted before panels had up to 256 entries keeps its log.
use Rattle.std.specs.Prelude.{ℕ, ◌≤◌, ◌<◌, ◌≡◌, Bool, cond, Option, List, [], ◌∷◌, ◌++◌, ltb, length, take}
use Rattle.std.specs.Float.{nan}
use Rattle.float32.specs.Helpers.{to_bits}
use Rattle.refusal.specs.Refusal.{accepted, sheet_length, sheet_count, refused_if}
use Rattle.words.specs.Words.{word}
use Rattle.sheet_format.specs.Check.{count_in, check_number}
use Rattle.sheet.specs.Stored.{old_max_entries}
use Rattle.call_log.specs.declared.Log.{Log}
use Rattle.call_log.specs.Lines.{Called, shown, line_size}
use Rattle.call_log.specs.Logs.{max_sheet, length_size, sheet_in, sheet_number, call_size, log_of, log_bytes}
use Rattle.call_log.specs.Machine.{last_number, next_lines, next_log, least_bytes, batch_of}
use Rattle.log_history.specs.Turns.{printed, to_come, Door, Turn, after_turns}
use Rattle.log_history.specs.Stored.{old_max_sheet, old_sheet_number, old_lines}

-- For any input of fewer bytes than a u64 counts: opening the log by the front of the input, and then making call by call to the end of
-- the script, prints the log that paper 01 says.
abbrev pub Prints : Type 0
Prints = (input : List ℕ) → length input < last_number → printed input ≡ log_bytes input

-- a call and its line depend on no more than the bytes of one call: the program may hold back the rest
abbrev pub FrontOnly : Type 0
FrontOnly =
    (log : Option Log) (rest : List ℕ) (k : ℕ) → call_size ≤ k
    → (next_lines log (take k rest) ≡ next_lines log rest) × (next_log log (take k rest) ≡ next_log log rest)

-- what the program wrote, and then all that is still to come of the bytes that it has not used
abbrev pub in_all : Door → List ℕ
in_all d = d.text ++ to_come d.log (d.kept ++ d.unread)

-- However the input is cut into pieces and the room into turns (a turn may read nothing, and have no room): what was written, and then
-- what is still to come, is the log of the whole input. So what stands there at any time is its beginning.
abbrev pub NothingLost : Type 0
NothingLost = (input : List ℕ) (turns : List Turn) → length input < last_number → in_all (after_turns input turns) ≡ log_bytes input

-- where all was read and used, it is the whole log
abbrev pub EndsWhole : Type 0
EndsWhole =
    (input : List ℕ) (turns : List Turn) → length input < last_number → (after_turns input turns).kept ≡ [] → (after_turns input turns).unread ≡ []
    → (after_turns input turns).text ≡ log_bytes input

-- and that comes: where the bytes of a call are there and the room of a line, the call is made
abbrev pub GoesOn : Type 0
GoesOn =
    (ended : Bool) (log : Option Log) (bytes : List ℕ) (room : ℕ) → least_bytes ended ≤ length bytes → line_size ≤ room
    → length (take call_size bytes) ≤ (batch_of ended log bytes room).used

-- "The longest sheet is 10,252 bytes, and the log's limit follows": no sheet that the reader accepts is above it.
abbrev pub TakesAll : Type 0
TakesAll = (s : List ℕ) → check_number s ≡ accepted → length s ≤ max_sheet

-- "Stored sheets keep their .. reading": an input whose sheet the log of before accepted is accepted now, and its log is the same.
abbrev pub KeepsOldLogs : Type 0
KeepsOldLogs = (input : List ℕ) → old_sheet_number input ≡ accepted → (sheet_number input ≡ accepted) × (log_of input ≡ old_lines input)

-- "an older reader meets a longer sheet with 12 or 8, an older log with 8 or 7": of the inputs whose sheet is accepted now, the log of
-- before refused those with more than 64 entries, by 7 where the sheet is above 2,572 bytes and else by 8. (12 does not arise: 256
-- entries take 4,108 bytes.) The others it accepted.
abbrev pub MeetsOldLog : Type 0
MeetsOldLog =
    (input : List ℕ) → sheet_number input ≡ accepted
    → old_sheet_number input
    ≡ refused_if (ltb old_max_entries (count_in (sheet_in input)))
    (cond (ltb old_max_sheet (word length_size input)) sheet_length sheet_count) accepted

-- The worked example: "Once, scale 1.0, `a` of 1.0 at Start, `b` of 0.5 at End; play, update 1.0, update 1.0". A line each for the length,
-- the header, the loop number, the scale, two pairs, two records, the labels and three calls.
unfoldable pub example_input : List ℕ
example_input =
    46 ∷ 0
    ∷ 1 ∷ 2 ∷ 0 ∷ 0
    ∷ 0 ∷ 0 ∷ 0 ∷ 0
    ∷ 0 ∷ 0 ∷ 128 ∷ 63
    ∷ 44 ∷ 0 ∷ 1 ∷ 0
    ∷ 45 ∷ 0 ∷ 1 ∷ 0
    ∷ 1 ∷ 0 ∷ 0 ∷ 0 ∷ 0 ∷ 0 ∷ 0 ∷ 0 ∷ 0 ∷ 0 ∷ 128 ∷ 63
    ∷ 2 ∷ 0 ∷ 0 ∷ 0 ∷ 0 ∷ 0 ∷ 0 ∷ 0 ∷ 0 ∷ 0 ∷ 0 ∷ 63
    ∷ 97 ∷ 98
    ∷ 0 ∷ 0 ∷ 0 ∷ 0 ∷ 0
    ∷ 4 ∷ 0 ∷ 0 ∷ 128 ∷ 63
    ∷ 4 ∷ 0 ∷ 0 ∷ 128 ∷ 63
    ∷ []

-- its log: `sheet 0 2 3fc00000 3fc00000`, `1 P 00000000 0`, `2 P 3f800000 0 0`, `3 C 3fc00000 0 1`
unfoldable pub example_log : List ℕ
example_log =
    115 ∷ 104 ∷ 101 ∷ 101 ∷ 116 ∷ 32 ∷ 48 ∷ 32 ∷ 50 ∷ 32 ∷ 51 ∷ 102 ∷ 99 ∷ 48 ∷ 48 ∷ 48 ∷ 48 ∷ 48 ∷ 32 ∷ 51 ∷ 102 ∷ 99 ∷ 48 ∷ 48 ∷ 48 ∷ 48 ∷ 48 ∷ 10
    ∷ 49 ∷ 32 ∷ 80 ∷ 32 ∷ 48 ∷ 48 ∷ 48 ∷ 48 ∷ 48 ∷ 48 ∷ 48 ∷ 48 ∷ 32 ∷ 48 ∷ 10
    ∷ 50 ∷ 32 ∷ 80 ∷ 32 ∷ 51 ∷ 102 ∷ 56 ∷ 48 ∷ 48 ∷ 48 ∷ 48 ∷ 48 ∷ 32 ∷ 48 ∷ 32 ∷ 48 ∷ 10
    ∷ 51 ∷ 32 ∷ 67 ∷ 32 ∷ 51 ∷ 102 ∷ 99 ∷ 48 ∷ 48 ∷ 48 ∷ 48 ∷ 48 ∷ 32 ∷ 48 ∷ 32 ∷ 49 ∷ 10
    ∷ []

-- "NaN as 7fc00000": `1 P 7fc00000 0`
abbrev pub NanShown : Type 0
NanShown = shown (Called 1 80 (to_bits nan) 0 []) ≡ 49 ∷ 32 ∷ 80 ∷ 32 ∷ 55 ∷ 102 ∷ 99 ∷ 48 ∷ 48 ∷ 48 ∷ 48 ∷ 48 ∷ 32 ∷ 48 ∷ 10 ∷ []

-- all of it, which `claimed` carries
pub record Claim : Type 0 where
  pub prints : Prints
  pub front_only : FrontOnly
  pub nothing_lost : NothingLost
  pub ends_whole : EndsWhole
  pub goes_on : GoesOn
  pub takes_all : TakesAll
  pub keeps_old_logs : KeepsOldLogs
  pub meets_old_log : MeetsOldLog
  pub nan_shown : NanShown
  pub worked : log_bytes example_input ≡ example_log
