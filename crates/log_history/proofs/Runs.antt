-- Call by call, from the front of the script to its end.
use Prim.Native.Nat.{ℕ, zero, suc, ◌+◌, ◌*◌, ◌/◌, ◌≤◌, ◌<◌}
use mathlib.Core.Path.{◌≡◌, refl, ap, ◌∙◌}
use mathlib.Core.Bool.{false}
use mathlib.Core.List.{List, [], ◌∷◌, ◌++◌, map, append-nil}
use native.Mathlib.Nat.{not-suc-le-zero}
use native.Mathlib.Numerals.{add-one}
use native.Mathlib.Omega.{arith}
use borrow.Author.Tests.{lt-ltb, ne_eqb}
use lib.Dec.{eqb}
use lib.ListN.{length, drop, length-drop}
use lib.Seq.{drop-drop}
use Rattle.std.specs.Prelude.{Option, None, Some}
use Rattle.track.specs.declared.track.Track.{Track}
use Rattle.track.specs.Calls.{TrackOut}
use Rattle.call_log.specs.declared.Log.{Log}
use Rattle.call_log.specs.Lines.{shown, shown_all}
use Rattle.call_log.specs.Logs.{call_size, outcome_at, from_call, after_calls, line_at, line_count, numbers_from}
use Rattle.call_log.specs.Machine.{last_number, counted, next_lines, next_log}
use Rattle.log_history.specs.Turns.{run_from}

-- where the sheet was refused there are no more lines
pub closed_runs : (k : ℕ) (rest : List ℕ) → run_from k None rest ≡ []
unfolding run_from next_lines next_log shown_all
closed_runs zero rest = refl
closed_runs (suc k) [] = refl
closed_runs (suc k) (b ∷ rest) = closed_runs k (drop call_size (b ∷ rest))

-- a number below the last is counted
counts : (n : ℕ) → n < last_number → counted n ≡ suc n
unfolding counted
counts n h = rw (lt-ltb n last_number h) (add-one n)

-- a call more
one_more : (n m : ℕ) → 1 ≤ n → m + 5 ≡ n → (n + 4) / 5 ≡ suc ((m + 4) / 5)
one_more n m h e = omega arith

one_last : (n : ℕ) → 1 ≤ n → n ≤ 5 → (n + 4) / 5 ≡ 1
one_last n h e = omega arith

-- a log that goes on
abbrev going : ℕ → Track → Option Log
going i t = Some (record { number = i; track = t })

module _ (t : Track) (script : List ℕ) where
  next-track : (i : ℕ) (now : Track) (rest : List ℕ) → outcome_at now rest ≡ outcome_at (after_calls t script i) (from_call script i) → (outcome_at now rest).track ≡ after_calls t script (suc i)
  unfolding after_calls
  next-track i now rest e = ap (λ (o : TrackOut). o.track) e

  -- from call i on, the lines are those from number i on
  pub open-runs : (k i : ℕ) (rest : List ℕ) (now : Track) → rest ≡ from_call script i → now ≡ after_calls t script i → length rest ≤ k → i + length rest < last_number
      → run_from k (going i now) rest ≡ shown_all (map (line_at t script) (numbers_from i (line_count rest)))
  unfolding run_from next_lines next_log shown_all numbers_from
  open-runs zero i [] now r n h m = refl
  open-runs zero i (b ∷ rest) now r n h m = absurd (not-suc-le-zero h)
  open-runs (suc k) i [] now r n h m = refl
  open-runs (suc k) i (b ∷ rest) now r n h m =
      let count : i < last_number = omega arith in
      let over : eqb (length (b ∷ rest)) 0 ≡ false = ne_eqb (length (b ∷ rest)) 0 (λ e. omega arith) in
      let five : call_size * i + call_size ≡ call_size * suc i = omega arith in
      let cut : drop call_size (b ∷ rest) ≡ from_call script (suc i) = ap (drop call_size) r ∙ drop-drop call_size (call_size * i) script ∙ ap (λ (j : ℕ). drop j script) five in
      let size = length-drop call_size (b ∷ rest) in
      let step : outcome_at now (b ∷ rest) ≡ outcome_at (after_calls t script i) (from_call script i) = rw (r, n) in
      let more : line_count (b ∷ rest) ≡ suc (line_count (drop call_size (b ∷ rest))) = omega arith in
      let rests = open-runs k (suc i) (drop call_size (b ∷ rest)) (outcome_at now (b ∷ rest)).track cut (next-track i now (b ∷ rest) step) (omega arith) (omega arith) in
      rw (over, counts i count, more, append-nil, step) (ap (λ (l : List ℕ). shown (line_at t script i) ++ l) (rw step at rests))
