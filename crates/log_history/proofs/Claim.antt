-- The claim.
use Prim.Native.Nat.{ℕ, ◌+◌, ◌<◌}
use mathlib.Core.Path.{◌≡◌, refl, sym, ◌∙◌}
use mathlib.Core.Bool.{Bool, true, false}
use mathlib.Core.List.{List, ◌++◌, append-nil}
use native.Mathlib.Omega.{arith}
use borrow.Author.Tests.{eqb-true, eqb-false}
use lib.Dec.{eqb}
use lib.ListN.{length, take, drop, length-drop}
use Rattle.words.specs.Words.{word}
use Rattle.call_log.specs.Lines.{shown, shown_all}
use Rattle.call_log.specs.Logs.{script_in, track_in, sheet_number, after_calls, log_of, log_bytes}
use Rattle.call_log.specs.Machine.{open_line, open_log}
use Rattle.log_history.specs.Turns.{run_from, front_size, printed, door_of, after_turns}
use Rattle.log_history.specs.Claim.{Prints, in_all, NothingLost, EndsWhole, Claim}
use Rattle.log_history.proofs.Fronts.{front_only, whole, front-size, opens-front}
use Rattle.call_log.proofs.Opening.{open-refused, open-accepted}
use Rattle.log_history.proofs.Worked.{nan_shown, worked}
use Rattle.log_history.proofs.Runs.{closed_runs, open-runs}
use Rattle.log_history.proofs.Turns.{enough_runs, goes_on, turns-keep}
use Rattle.log_history.proofs.Stored.{takes_all, keeps_old_logs, meets_old_log}

-- the log of a sheet that is refused, and of one that is accepted
prints_as : (b : Bool) (input : List ℕ) → eqb (sheet_number input) 0 ≡ b → length input < 18446744073709551615
    → shown (open_line input) ++ run_from (length input) (open_log input) (drop (front_size input) input) ≡ log_bytes input
unfolding log_of shown_all after_calls
prints_as false input e h =
    let o = open-refused input (eqb-false _ _ e) in
    rw (o.0, o.1, closed_runs (length input) (drop (front_size input) input), e)
prints_as true input e h =
    let n = eqb-true _ _ e in
    let o = open-accepted input n in
    let l = length-drop (2 + word 2 input) input in
    let t = track_in input in
    rw (o.0, o.1, front-size input (whole input n), open-runs t (script_in input) (length input) 0 (script_in input) t refl refl (omega arith) (omega arith), e)

prints : Prints
unfolding printed
prints input h =
    let o = opens-front input in
    rw (o.0, o.1) (prints_as (eqb (sheet_number input) 0) input refl h)

-- the door before the first call has all of the log to come
opens_all : (input : List ℕ) → in_all (door_of input) ≡ printed input
unfolding printed door_of
opens_all input =
    let l = length-drop (front_size input) input in
    rw (enough_runs (length (drop (front_size input) input)) (length input) (open_log (take (front_size input) input)) (drop (front_size input) input) (omega arith) (omega arith))

nothing_lost : NothingLost
nothing_lost input turns h = turns-keep turns (door_of input) ∙ opens_all input ∙ prints input h

ends_whole : EndsWhole
unfolding run_from
ends_whole input turns h k u = sym (append-nil (after_turns input turns).text) ∙ rw (k, u) at (nothing_lost input turns h)

pub claim : Claim
claim =
    record {
      prints = prints;
      front_only = front_only;
      nothing_lost = nothing_lost;
      ends_whole = ends_whole;
      goes_on = goes_on;
      takes_all = takes_all;
      keeps_old_logs = keeps_old_logs;
      meets_old_log = meets_old_log;
      nan_shown = nan_shown;
      worked = worked;
    }
