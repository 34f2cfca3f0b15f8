-- The log that comes of calling the functions of crate call_log in turn, as the program does. Definitions only.
use Rattle.std.specs.Prelude.{ℕ, zero, suc, ◌+◌, Bool, ◌&&◌, Option, eqb, length, take, drop}
use Rattle.std.specs.Option.{unwrap_or}
use mathlib.Core.List.{List, [], ◌∷◌, ◌++◌, foldl}
use Rattle.call_log.specs.declared.Log.{Log}
use Rattle.call_log.specs.Lines.{shown}
use Rattle.call_log.specs.Logs.{length_size, call_size}
use Rattle.call_log.specs.Machine.{sheet_room, open_line, open_log, next_log, next_bytes, Calls, batch_of}

-- `next`, call by call, until nothing is left of the script; the first number is fuel
unfoldable pub run_from : ℕ → Option Log → List ℕ → List ℕ
run_from zero log rest = []
run_from (suc k) log [] = []
run_from (suc k) log (b ∷ rest) = next_bytes log (b ∷ rest) ++ run_from k (next_log log (b ∷ rest)) (drop call_size (b ∷ rest))

-- how many bytes the program reads before it opens the log, by the first two
abbrev pub front_size : List ℕ → ℕ
front_size input = length_size + unwrap_or (sheet_room (take length_size input)) 0

-- what the program prints: the line of `open` on the front of the input, then those of `next` on the rest
unfoldable pub printed : List ℕ → List ℕ
printed input =
    let front = take (front_size input) input in
    shown (open_line front) ++ run_from (length input) (open_log front) (drop (front_size input) input)

-- all that is still to be written of these bytes
abbrev pub to_come : Option Log → List ℕ → List ℕ
to_come log rest = run_from (length rest) log rest

-- Where the program stands: the log, the bytes that it read and did not use, those that it has not read, and all that it wrote.
pub record Door : Type 0 where
  pub log : Option Log
  pub kept : List ℕ
  pub unread : List ℕ
  pub text : List ℕ

-- before the first call
unfoldable pub door_of : List ℕ → Door
door_of input =
    let front = take (front_size input) input in
    record { log = open_log front; kept = []; unread = drop (front_size input) input; text = shown (open_line front) }

-- A turn of the program: how many bytes it reads at most, whether it asks if the input has ended, and how much room its lines have.
pub record Turn : Type 0 where
  pub count : ℕ
  pub asks : Bool
  pub room : ℕ

-- the batch of a turn: it takes the input for ended where it asks and nothing is unread
abbrev pub turn_batch : Door → Turn → Calls
turn_batch d t =
    batch_of (t.asks && eqb (length (drop t.count d.unread)) 0) d.log (d.kept ++ take t.count d.unread) t.room

-- reads, makes a batch, and writes its lines
unfoldable pub turned : Door → Turn → Door
turned d t =
    let b = turn_batch d t in
    record {
      log = b.log;
      kept = drop b.used (d.kept ++ take t.count d.unread);
      unread = drop t.count d.unread;
      text = d.text ++ b.text;
    }

-- where the program stands after turns
abbrev pub after_turns : List ℕ → List Turn → Door
after_turns input turns = foldl turned (door_of input) turns
