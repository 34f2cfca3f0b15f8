-- What the functions of this crate answer. Definitions only.
use Rattle.std.specs.Prelude.{ℕ, zero, suc, ◌+◌, ◌-◌, ◌≤◌, ◌≡◌, Bool, cond, ◌||◌, ◌&&◌, List, [], ◌∷◌, ◌++◌, eqb, ltb, leb, length, take, drop, Option, Some, None, Result}
use Rattle.std.specs.Result.{result_ok}
use Rattle.refusal.specs.declared.Refusal.{Refusal}
use Rattle.refusal.specs.Refusal.{accepted, bad_call, number_in, held_or}
use Rattle.digits.specs.Digits.{put_at}
use Rattle.track.specs.declared.track.Track.{Track}
use Rattle.track.specs.Calls.{track_silent}
use Rattle.player.specs.declared.engine.Player.{Player}
use Rattle.player.specs.Answered.{playing_in, SameColumns}
use Rattle.words.specs.Words.{word}
use Rattle.call_log.specs.declared.Log.{Log}
use Rattle.call_log.specs.declared.Call.{Call}
use Rattle.call_log.specs.declared.Opened.{Opened}
use Rattle.call_log.specs.declared.Ran.{Ran}
use Rattle.call_log.specs.declared.Batched.{Batched}
use Rattle.call_log.specs.Lines.{Line, Refused, shown, shown_all, line_size}
use Rattle.call_log.specs.Logs.{max_sheet, length_size, sheet_number, sheet_line, track_in, call_size, list_size, outcome, outcome_at, call_line}

-- ---- a call

-- the call that these bytes make, whatever plays: one that is none is refused
abbrev pub CallAt : List ℕ → Option Call → Type 0
CallAt rest (Some call) = (k : Track) → outcome_at k rest ≡ outcome k call.byte call.x
CallAt rest None = (k : Track) → outcome_at k rest ≡ track_silent bad_call k

-- the player p made the call at the front of the script: it answered x, left q, and put what it listed at the front of the list
pub record Makes (p : Player) (rest : List ℕ) (x : Result ℕ Refusal) (q : Player) (list : List ℕ) : Type 0 where
  pub columns : SameColumns p q
  pub refusal : number_in x ≡ (outcome_at (playing_in p) rest).refusal
  pub few : held_or 0 x ≤ list_size
  pub listed : take (held_or 0 x) list ≡ (outcome_at (playing_in p) rest).listed
  pub track : playing_in q ≡ (outcome_at (playing_in p) rest).track

-- ---- `open`

-- `sheet_len`: how many bytes are wanted after the first two
unfoldable pub sheet_room : List ℕ → Option ℕ
sheet_room input = cond (ltb (length input) length_size || ltb max_sheet (word length_size input)) None (Some (word length_size input))

-- the log of a sheet that was accepted, before the first call
abbrev pub new_log : Track → Log
new_log k = record { number = 0; track = k }

-- the line of the input's sheet
unfoldable pub open_line : List ℕ → Line
open_line input = cond (eqb (sheet_number input) accepted) (sheet_line (track_in input)) (Refused (sheet_number input))

-- the log that `open` hands out: none of a sheet that is refused
unfoldable pub open_log : List ℕ → Option Log
open_log input = cond (eqb (sheet_number input) accepted) (Some (new_log (track_in input))) None

-- the answer of `open`
pub record Opens (input : List ℕ) (r : Opened) : Type 0 where
  pub len : r.len ≡ length (shown (open_line input))
  pub refusal : number_in r.log ≡ sheet_number input
  pub log : result_ok r.log ≡ open_log input

-- ---- `next`

-- the last number that a u64 holds
abbrev pub last_number : ℕ
last_number = 18446744073709551615

-- the next number; the last one stays
unfoldable pub counted : ℕ → ℕ
counted n = cond (ltb n last_number) (n + 1) n

-- the lines of what is at the front of the script: none where the sheet was refused or nothing is left, else one
unfoldable pub next_lines : Option Log → List ℕ → List Line
next_lines None rest = []
next_lines (Some log) rest = cond (eqb (length rest) 0) [] (call_line (counted log.number) (outcome_at log.track rest) ∷ [])

-- the log that `next` hands out
unfoldable pub next_log : Option Log → List ℕ → Option Log
next_log None rest = None
next_log (Some log) rest = Some (cond (eqb (length rest) 0) log (record { number = counted log.number; track = (outcome_at log.track rest).track }))

-- the bytes of those lines
abbrev pub next_bytes : Option Log → List ℕ → List ℕ
next_bytes log rest = shown_all (next_lines log rest)

-- the log of so many lines, of which the player plays the track
abbrev pub log_in : ℕ → Player → Log
log_in number p = record { number = number; track = playing_in p }

-- the bytes of the line with this number, of the call at the front of the script
abbrev pub line_bytes : ℕ → Player → List ℕ → List ℕ
line_bytes number p rest = shown (call_line number (outcome_at (playing_in p) rest))

-- `next`: the player p made this call and left q, and its line of n bytes was put into the array old at an offset, which left new
pub record Logs (number : ℕ) (p : Player) (rest : List ℕ) (n : ℕ) (q : Player) (at : ℕ) (old new : List ℕ) : Type 0 where
  pub columns : SameColumns p q
  pub track : playing_in q ≡ (outcome_at (playing_in p) rest).track
  pub len : n ≡ length (line_bytes number p rest)
  pub few : n ≤ line_size
  pub text : new ≡ put_at (line_bytes number p rest) at old

-- what is left in the lent array: the text at its front
abbrev pub lined : List ℕ → List ℕ → List ℕ
lined text old = put_at text 0 old

-- ---- `batch`

-- how many bytes have to be there: those of a call; where the input ends behind them one is enough, since what is left over has its line
abbrev pub least_bytes : Bool → ℕ
least_bytes ended = cond ended 1 call_size

-- a call is made: its bytes are there, and room for its line
abbrev pub is_next : Bool → List ℕ → ℕ → Bool
is_next ended bytes room = leb (least_bytes ended) (length bytes) && leb line_size room

-- what calls come to: how many bytes they used, their lines, and the log then
pub record Calls : Type 0 where
  pub used : ℕ
  pub text : List ℕ
  pub log : Option Log

-- no calls
abbrev pub no_calls : Option Log → Calls
no_calls log = record { used = 0; text = []; log = log }

-- so many bytes used and this text, and then these calls
abbrev pub call_then : ℕ → List ℕ → Calls → Calls
call_then used text c = record { used = used + c.used; text = text ++ c.text; log = c.log }

-- `next`, call by call, as long as one is made; where the sheet was refused they use the bytes up. The first number is fuel
unfoldable pub batch_from : ℕ → Bool → Option Log → List ℕ → ℕ → Calls
batch_from zero ended log bytes room = no_calls log
batch_from (suc k) ended log bytes room =
    cond (is_next ended bytes room)
    (call_then (length (take call_size bytes)) (next_bytes log bytes) (batch_from k ended (next_log log bytes) (drop call_size bytes) (room - length (next_bytes log bytes))))
    (no_calls log)

-- the calls that the bytes hold and whose lines have room
abbrev pub batch_of : Bool → Option Log → List ℕ → ℕ → Calls
batch_of ended log bytes room = batch_from (length bytes) ended log bytes room

-- the answer of `batch`
abbrev pub batched_by : Calls → Batched
batched_by c = record { used = c.used; len = length c.text; log = c.log }

-- `run`: its answer, the players before and after, and the lent array before and after
pub record RunsTo (c : Calls) (r : Ran) (p q : Player) (old new : List ℕ) : Type 0 where
  pub used : r.used ≡ c.used
  pub len : r.len ≡ length c.text
  pub log : Some (log_in r.number q) ≡ c.log
  pub text : new ≡ lined c.text old
  pub columns : SameColumns p q
