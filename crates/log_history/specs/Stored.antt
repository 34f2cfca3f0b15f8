-- What the log made of an input before panels had up to 256 entries: when it was cut, the number of its sheet, and its lines. They are
-- here for the claims alone that such inputs keep their log, and what an older log makes of a longer sheet. What has not changed since
-- is today's definition: who changes one of those says here what it was. Definitions only.
use Rattle.std.specs.Prelude.{ℕ, zero, suc, ◌+◌, ◌||◌, Bool, cond, List, ◌∷◌, map, ltb, length, drop, replicate}
use Rattle.float32.specs.Helpers.{from_bits}
use Rattle.refusal.specs.Refusal.{sheet_length, bad_call}
use Rattle.track.specs.declared.track.Track.{Track}
use Rattle.track.specs.Calls.{Room, TrackOut, track_silent}
use Rattle.script.specs.Scripts.{outcome_in}
use Rattle.words.specs.Words.{byte_at, word}
use Rattle.sheet.specs.Stored.{old_max_entries, old_check_number, old_reading_in}
use Rattle.call_log.specs.Lines.{Line}
use Rattle.call_log.specs.Logs.{length_size, sheet_in, script_in, list_size, call_size, from_call, call_line, sheet_line, line_count, numbers_from}

-- "a length above 2,572"
abbrev pub old_max_sheet : ℕ
old_max_sheet = 2572

-- "input that ends before the sheet does, or a length above 2,572"
unfoldable pub old_is_cut : List ℕ → Bool
old_is_cut input =
    ltb (length input) length_size || (ltb old_max_sheet (word length_size input) || ltb (length input) (length_size + word length_size input))

-- the number by which the sheet was refused: "7 for these two"
unfoldable pub old_sheet_number : List ℕ → ℕ
old_sheet_number input = cond (old_is_cut input) sheet_length (old_check_number (sheet_in input))

-- ---- the log: how calls and lines come about has not changed

-- "Leaves always reply 1"
abbrev pub old_replies : List ℕ
old_replies = replicate old_max_entries 1

-- row slices that had room for all entries
abbrev pub old_room : Room
old_room = record { kinds = old_max_entries; amounts = old_max_entries; places = old_max_entries }

-- the call at the front of what was left of the script
unfoldable pub old_outcome_at : Track → List ℕ → TrackOut
old_outcome_at k rest =
    cond (ltb (length rest) call_size) (track_silent bad_call k)
    (outcome_in old_replies list_size old_room k (byte_at rest 0) (from_bits (word 4 (drop 1 rest))))

-- what the first i calls left of k
unfoldable pub old_after_calls : Track → List ℕ → ℕ → Track
old_after_calls k script zero = k
old_after_calls k script (suc i) = (old_outcome_at (old_after_calls k script i) (from_call script i)).track

-- the line of call i
abbrev pub old_line_at : Track → List ℕ → ℕ → Line
old_line_at k script i = call_line (suc i) (old_outcome_at (old_after_calls k script i) (from_call script i))

-- what played of the panel that the sheet built
abbrev pub old_track_in : List ℕ → Track
old_track_in input = (old_reading_in (sheet_in input)).timeline.track

-- the lines of an input whose sheet was accepted
abbrev pub old_lines : List ℕ → List Line
old_lines input =
    sheet_line (old_track_in input)
    ∷ map (old_line_at (old_track_in input) (script_in input)) (numbers_from 0 (line_count (script_in input)))
