-- What depends on the front of the input, or of the script, alone.
use Prim.Native.Nat.{ℕ, zero, suc, ◌+◌, ◌≤◌}
use mathlib.Core.Path.{◌≡◌, refl, sym, ap, ◌∙◌}
use mathlib.Core.Bool.{Bool, true, false, ◌||◌}
use mathlib.Core.List.{List, [], ◌∷◌}
use native.Mathlib.Nat.{not-suc-le-zero, le_refl}
use native.Mathlib.Omega.{arith}
use borrow.Author.Tests.{lt-ltb, le-ltb, ltb-true, ne_eqb, eqb-true}
use lib.Dec.{eqb, ltb}
use lib.ListN.{length, take, drop, length-take}
use lib.Seq.{take-take, take-add, drop_at, length-take-le}
use Rattle.std.specs.Prelude.{Option, None, Some}
use Rattle.std.specs.Option.{unwrap_or}
use Rattle.track.specs.declared.track.Track.{Track}
use Rattle.words.specs.Words.{word}
use Rattle.sheet.specs.Build.{reading_of}
use Rattle.call_log.specs.Logs.{max_sheet, is_cut, sheet_in, sheet_number, sheet_line, track_in, call_size}
use Rattle.call_log.specs.Machine.{sheet_room, new_log, open_line, open_log, next_lines, next_log}
use Rattle.call_log.proofs.Fronts.{word-take, ltb-front, outcome-front}
use Rattle.call_log.proofs.Opening.{Whole, uncut, number_cut, number-whole}
use Rattle.log_history.specs.Turns.{front_size}
use Rattle.log_history.specs.Claim.{FrontOnly}

-- nothing is left of a front where nothing is left
none-front : (rest : List ℕ) (k : ℕ) → call_size ≤ k → eqb (length (take k rest)) 0 ≡ eqb (length rest) 0
none-front rest zero h = absurd (not-suc-le-zero h)
none-front [] (suc k) h = refl
none-front (b ∷ s) (suc k) h = rw (ne_eqb (length (b ∷ take k s)) 0 (λ e. omega arith), ne_eqb (length (b ∷ s)) 0 (λ e. omega arith))

pub front_only : FrontOnly
unfolding next_lines next_log
front_only None rest k h = (refl, refl)
front_only (Some log) rest k h = rw (none-front rest k h, outcome-front log.track rest k h) (refl, refl)

-- ---- the front of the input

-- an accepted sheet is not cut
pub whole : (input : List ℕ) → sheet_number input ≡ 0 → Whole input
whole input e = go (is_cut input) refl
  where
    go : (b : Bool) → is_cut input ≡ b → Whole input
    go true c = let n = number_cut input c in absurd (omega arith)
    go false c = uncut input c

-- an input that is whole is not cut
pub whole_uncut : (input : List ℕ) → Whole input → is_cut input ≡ false
unfolding is_cut
whole_uncut input w = rw (le-ltb (length input) 2 w.some, le-ltb max_sheet (word 2 input) w.few, le-ltb (length input) (2 + word 2 input) w.fits)

-- an input that is cut has a front that is cut
cut_front : (input : List ℕ) (k : ℕ) → 2 ≤ k → is_cut input ≡ true → is_cut (take k input) ≡ true
unfolding is_cut
cut_front input k h e = rw (ltb-front 2 k input h, word-take 2 k input h) (go (ltb (length input) 2) (ltb max_sheet (word 2 input)) e)
  where
    go : (a b : Bool) → a || (b || ltb (length input) (2 + word 2 input)) ≡ true → a || (b || ltb (length (take k input)) (2 + word 2 input)) ≡ true
    go true b f = refl
    go false true f = refl
    go false false f = lt-ltb (length (take k input)) (2 + word 2 input) (omega (arith, ltb-true (length input) (2 + word 2 input) f, length-take k input))

-- the front of a whole input, with its sheet
module _ (input : List ℕ) (w : Whole input) where
  head-room : sheet_room (take 2 input) ≡ Some (word 2 input)
  unfolding sheet_room
  head-room = rw (ltb-front 2 2 input (omega arith), word-take 2 2 input (omega arith), le-ltb (length input) 2 w.some, le-ltb max_sheet (word 2 input) w.few)

  pub front-size : front_size input ≡ 2 + word 2 input
  front-size = ap (λ (room : Option ℕ). 2 + unwrap_or room 0) head-room

  front-word : word 2 (take (2 + word 2 input) input) ≡ word 2 input
  front-word = word-take 2 (2 + word 2 input) input (omega arith)

  front-whole : Whole (take (2 + word 2 input) input)
  front-whole =
      let l = length-take-le (2 + word 2 input) input w.fits in
      let e = front-word in
      record { some = omega arith; few = omega (arith, w.few); fits = omega arith }

  front-sheet : sheet_in (take (2 + word 2 input) input) ≡ sheet_in input
  front-sheet =
      rw (front-word, take-add 2 (word 2 input) input, drop_at (take 2 input) (take (word 2 input) (drop 2 input)) 2 (length-take-le 2 input w.some))
      (take-take (word 2 input) (word 2 input) (drop 2 input) (le_refl (word 2 input)))

  front-number : sheet_number (take (2 + word 2 input) input) ≡ sheet_number input
  front-number =
      number-whole (take (2 + word 2 input) input) (whole_uncut _ front-whole)
      ∙ ap (λ (s : List ℕ). (reading_of s).refusal) front-sheet
      ∙ sym (number-whole input (whole_uncut input w))

-- opening by the front is opening by the whole input
module _ (input : List ℕ) where
  opens : (other : List ℕ) → sheet_number other ≡ sheet_number input → (sheet_number input ≡ 0 → sheet_in other ≡ sheet_in input) → (open_line other ≡ open_line input) × (open_log other ≡ open_log input)
  unfolding open_line open_log
  opens other e f = go (eqb (sheet_number input) 0) refl
    where
      go : (b : Bool) → eqb (sheet_number input) 0 ≡ b → (open_line other ≡ open_line input) × (open_log other ≡ open_log input)
      go true g =
          let k : track_in other ≡ track_in input = ap (λ (s : List ℕ). (reading_of s).timeline.track) (f (eqb-true _ _ g)) in
          rw (e, g) (ap sheet_line k, ap (λ (t : Track). Some (new_log t)) k)
      go false g = rw (e, g) (refl, refl)

  pub opens-front : (open_line (take (front_size input) input) ≡ open_line input) × (open_log (take (front_size input) input) ≡ open_log input)
  opens-front = go (is_cut input) refl
    where
      go : (b : Bool) → is_cut input ≡ b → (open_line (take (front_size input) input) ≡ open_line input) × (open_log (take (front_size input) input) ≡ open_log input)
      go true e =
          let n = number_cut input e in
          let c = cut_front input (front_size input) (omega arith) e in
          let m = number_cut (take (front_size input) input) c in
          opens (take (front_size input) input) (m ∙ sym n) (λ z. absurd (omega arith))
      go false e =
          let w = uncut input e in
          rw (front-size input w) (opens (take (2 + word 2 input) input) (front-number input w) (λ z. front-sheet input w))
