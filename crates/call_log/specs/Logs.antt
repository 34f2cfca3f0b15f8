-- The log of any input (paper 01, "The door log program"), as lines and as bytes. Definitions only.
use Rattle.std.specs.Prelude.{ℕ, zero, suc, ◌+◌, ◌*◌, ◌/◌, Bool, cond, ◌||◌, List, [], ◌∷◌, map, eqb, ltb, length, take, drop, replicate, Float}
use Rattle.float32.specs.Helpers.{from_bits, to_bits}
use Rattle.refusal.specs.Refusal.{accepted, sheet_length, bad_call}
use Rattle.steps.specs.Times.{max_entries}
use Rattle.clock.specs.Clocks.{letter_of}
use Rattle.track.specs.Tracks.{live, track_base, track_run}
use Rattle.track.specs.declared.track.Track.{Track}
use Rattle.track.specs.Calls.{Room, TrackOut, track_silent}
use Rattle.script.specs.Scripts.{outcome_in}
use Rattle.words.specs.Words.{byte_at, word}
use Rattle.sheet.specs.Build.{reading_of}
use Rattle.call_log.specs.Lines.{Line, Refused, Accepted, Called, shown_all}

-- ---- the sheet

-- "The longest sheet is 10,252 bytes, and the log's limit follows"
abbrev pub max_sheet : ℕ
max_sheet = 10252

-- "u16 sheet length": its bytes
abbrev pub length_size : ℕ
length_size = 2

-- "input that ends before the sheet does, or a length above" the limit
unfoldable pub is_cut : List ℕ → Bool
is_cut input =
    ltb (length input) length_size || (ltb max_sheet (word length_size input) || ltb (length input) (length_size + word length_size input))

-- "u16 sheet length, the sheet, then calls"
abbrev pub sheet_in : List ℕ → List ℕ
sheet_in input = take (word length_size input) (drop length_size input)

-- what comes after the sheet: the calls
abbrev pub script_in : List ℕ → List ℕ
script_in input = drop (length_size + word length_size input) input

-- the number by which the sheet is refused: "7 for these two"
unfoldable pub sheet_number : List ℕ → ℕ
sheet_number input = cond (is_cut input) sheet_length (reading_of (sheet_in input)).refusal

-- the line of a sheet that is accepted
abbrev pub sheet_line : Track → Line
sheet_line k = Accepted (length (live k)) (to_bits (track_base k)) (to_bits (track_run k))

-- ---- a call

-- "calls of 5 bytes: a call byte .. and an f32"
abbrev pub call_size : ℕ
call_size = 5

-- "the list holds 256"
abbrev pub list_size : ℕ
list_size = 256

-- "Leaves always reply 1"
abbrev pub replies : List ℕ
replies = replicate max_entries 1

-- row slices that have room for all entries
abbrev pub room : Room
room = record { kinds = max_entries; amounts = max_entries; places = max_entries }

-- what a call does to what plays; a call that is none leaves the track
abbrev pub outcome : Track → ℕ → Float → TrackOut
outcome k byte x = outcome_in replies list_size room k byte x

-- the call at the front of what is left of the script; fewer bytes than a call has are no call
unfoldable pub outcome_at : Track → List ℕ → TrackOut
outcome_at k rest =
    cond (ltb (length rest) call_size) (track_silent bad_call k) (outcome k (byte_at rest 0) (from_bits (word 4 (drop 1 rest))))

-- the line of a call with its number
unfoldable pub call_line : ℕ → TrackOut → Line
call_line number o =
    Called number (letter_of o.track.clock.state) (to_bits o.track.clock.elapsed) o.refusal o.listed

-- ---- the log

-- the script from call i on, the first call being 0
abbrev pub from_call : List ℕ → ℕ → List ℕ
from_call script i = drop (call_size * i) script

-- what the first i calls leave of k
unfoldable pub after_calls : Track → List ℕ → ℕ → Track
after_calls k script zero = k
after_calls k script (suc i) = (outcome_at (after_calls k script i) (from_call script i)).track

-- the line of call i: "number from 1"
abbrev pub line_at : Track → List ℕ → ℕ → Line
line_at k script i = call_line (suc i) (outcome_at (after_calls k script i) (from_call script i))

-- how many lines the script has: "leftover bytes print a last line"
abbrev pub line_count : List ℕ → ℕ
line_count script = (length script + 4) / call_size

-- n numbers in turn
unfoldable pub numbers_from : ℕ → ℕ → List ℕ
numbers_from i zero = []
numbers_from i (suc n) = i ∷ numbers_from (suc i) n

-- the lines of all calls of the script, on what the sheet built
abbrev pub call_lines : Track → List ℕ → List Line
call_lines k script = map (line_at k script) (numbers_from 0 (line_count script))

-- what plays of the panel that the sheet builds: the log names no labels
abbrev pub track_in : List ℕ → Track
track_in input = (reading_of (sheet_in input)).timeline.track

-- the whole log of an input, whatever its bytes
unfoldable pub log_of : List ℕ → List Line
log_of input =
    cond (eqb (sheet_number input) accepted) (sheet_line (track_in input) ∷ call_lines (track_in input) (script_in input)) (Refused (sheet_number input) ∷ [])

-- the bytes that are printed
abbrev pub log_bytes : List ℕ → List ℕ
log_bytes input = shown_all (log_of input)
