-- The lines of calls on a panel of a few entries: they do not depend on how many places are lent, nor on how many slots the panel has.
use Prim.Native.Nat.{ℕ, zero, suc, ◌≤◌}
use mathlib.Core.Path.{◌≡◌, refl, sym, ap, ◌∙◌}
use mathlib.Core.Bool.{false}
use mathlib.Core.List.{List, [], ◌∷◌, map}
use native.Mathlib.Omega.{arith}
use borrow.Author.Tests.{le-ltb}
use lib.Ieee.{Float}
use lib.ListN.{length, take, drop, replicate, length-take, length-replicate}
use lib.Seq.{take-append-le}
use Rattle.float32.specs.Helpers.{from_bits}
use Rattle.steps.specs.Times.{max_entries}
use Rattle.steps.specs.declared.Entry.{Entry}
use Rattle.steps.specs.declared.Stepped.{Stepped}
use Rattle.steps.specs.Rows.{ticked}
use Rattle.track.specs.declared.track.Track.{Track}
use Rattle.track.specs.Tracks.{blank, live, with_only}
use Rattle.track.specs.Columns.{trimmed}
use Rattle.track.specs.Claims.{put_back}
use Rattle.track.specs.Updates.{above_one, replies_bad, ticks, advanced, playing}
use Rattle.track.specs.Calls.{Room, TrackOut, short, sent, sought_to, updated, updated_with, track_step}
use Rattle.track.proofs.Trimmed.{Sized}
use Rattle.script.specs.Scripts.{outcome_in}
use Rattle.words.specs.Words.{byte_at, word}
use Rattle.sheet.specs.Stored.{old_max_entries, more_slots, longer_track}
use Rattle.call_log.specs.Lines.{Line}
use Rattle.call_log.specs.Logs.{list_size, from_call, outcome_at, call_line, after_calls, line_at, line_count, numbers_from, call_lines, sheet_line}
use Rattle.call_log.proofs.InPlace.{own_back, outcome-at-back}
use Rattle.log_history.specs.Stored.{old_outcome_at, old_after_calls, old_line_at}

-- ---- replies that are all 1

ticks_ones : (prev next : Float) (es : List Entry) (m : ℕ) → ticks prev next es (replicate m 1) ≡ ticks prev next es []
unfolding ticks
ticks_ones prev next [] m = refl
ticks_ones prev next (e ∷ es) zero = refl
ticks_ones prev next (e ∷ es) (suc m) = ap (λ (ss : List Stepped). ticked prev next e 1 ∷ ss) (ticks_ones prev next es m)

above_ones : (n m : ℕ) → above_one (take n (replicate m 1)) ≡ false
unfolding above_one
above_ones zero m = refl
above_ones (suc n) zero = refl
above_ones (suc n) (suc m) = above_ones n m

updated_ones : (k : Track) (dt : Float) (m : ℕ) → updated k dt (replicate m 1) ≡ updated k dt []
unfolding updated playing advanced
updated_ones k dt m = rw (ticks_ones _ _ (live k) m)

-- ---- a call on at most m entries, with m places lent

abbrev room_for : ℕ → Room
room_for m = record { kinds = m; amounts = m; places = m }

module _ (k : Track) (m : ℕ) (h : length (live k) ≤ m) where
  enough : short (room_for m) k ≡ false
  enough = rw (le-ltb m (length (live k)) h)

  replied : replies_bad (replicate m 1) k ≡ false
  replied = rw (length-replicate {A = ℕ} m 1, le-ltb m (length (live k)) h) (above_ones (length (live k)) m)

outcome_any : (k : Track) (m n : ℕ) (byte : ℕ) (x : Float) → length (live k) ≤ m → length (live k) ≤ n
    → outcome_in (replicate m 1) list_size (room_for m) k byte x ≡ outcome_in (replicate n 1) list_size (room_for n) k byte x
unfolding outcome_in track_step sought_to sent updated_with
outcome_any k m n byte x h g = rw (enough k m h, enough k n g, replied k m h, replied k n g, updated_ones k x m, updated_ones k x n)

few_outcome : (k : Track) (rest : List ℕ) → length (live k) ≤ old_max_entries → old_outcome_at k rest ≡ outcome_at k rest
unfolding old_outcome_at outcome_at
few_outcome k rest h = rw (outcome_any k old_max_entries max_entries (byte_at rest 0) (from_bits (word 4 (drop 1 rest))) h (omega arith))

-- ---- the calls of a script

module _ (k : Track) (script : List ℕ) where
  -- after i calls: what they leave of the live entries, put back
  record After (i : ℕ) : Type 0 where
    same : after_calls k script i ≡ put_back k (after_calls (trimmed k) script i)
    sized : Sized (trimmed k) (after_calls (trimmed k) script i)

  after_back : (i : ℕ) → After i
  unfolding after_calls
  after_back zero = record { same = sym (own_back k); sized = (refl, refl) }
  after_back (suc i) =
      let a = after_back i in
      let b = outcome-at-back k (after_calls (trimmed k) script i) a.sized (from_call script i) in
      record { same = ap (λ (t : Track). (outcome_at t (from_call script i)).track) a.same ∙ ap (λ (o : TrackOut). o.track) b.same; sized = b.sized }

  -- a line is that of the live entries
  line_back : (i : ℕ) → line_at k script i ≡ line_at (trimmed k) script i
  unfolding call_line
  line_back i =
      let a = after_back i in
      let b = outcome-at-back k (after_calls (trimmed k) script i) a.sized (from_call script i) in
      ap (λ (t : Track). call_line (suc i) (outcome_at t (from_call script i))) a.same ∙ ap (call_line (suc i)) b.same

  -- with a few entries it is that of before
  module _ (few : k.count ≤ old_max_entries) where
    few_after : (i : ℕ) → length (live (after_calls k script i)) ≤ old_max_entries
    few_after i =
        let a = after_back i in
        rw a.same (omega (arith, length-take k.count (put_back k (after_calls (trimmed k) script i)).entries))

    old_out : (i : ℕ) → old_after_calls k script i ≡ after_calls k script i → old_outcome_at (old_after_calls k script i) (from_call script i) ≡ outcome_at (after_calls k script i) (from_call script i)
    old_out i e = rw e (few_outcome (after_calls k script i) (from_call script i) (few_after i))

    old_after : (i : ℕ) → old_after_calls k script i ≡ after_calls k script i
    unfolding after_calls old_after_calls
    old_after zero = refl
    old_after (suc i) = ap (λ (o : TrackOut). o.track) (old_out i (old_after i))

    old_line : (i : ℕ) → old_line_at k script i ≡ line_at k script i
    old_line i = ap (call_line (suc i)) (old_out i (old_after i))

same_lines : (f g : ℕ → Line) → ((i : ℕ) → f i ≡ g i) → (is : List ℕ) → map f is ≡ map g is
same_lines f g e [] = refl
same_lines f g e (i ∷ is) = rw (e i, same_lines f g e is)

-- the same entries in longer arrays
module _ (k : Track) (few : k.count ≤ old_max_entries) (size : length k.entries ≡ old_max_entries) where
  longer_live : live (longer_track k) ≡ live k
  longer_live = take-append-le k.count k.entries (more_slots blank) (omega arith)

  longer_line : (script : List ℕ) (i : ℕ) → line_at (longer_track k) script i ≡ old_line_at k script i
  longer_line script i =
      line_back (longer_track k) script i
      ∙ ap (λ (t : Track). line_at t script i) (ap (with_only k) longer_live)
      ∙ sym (line_back k script i)
      ∙ sym (old_line k script few i)

  -- the lines of the sheet and of all calls
  pub longer_lines : (script : List ℕ) → (sheet_line (longer_track k) ∷ call_lines (longer_track k) script) ≡ sheet_line k ∷ map (old_line_at k script) (numbers_from 0 (line_count script))
  longer_lines script =
      rw (longer_live, same_lines (line_at (longer_track k) script) (old_line_at k script) (longer_line script) (numbers_from 0 (line_count script)))
