-- The sheet of an input: when it is cut, and its number.
use Prim.Native.Nat.{ℕ, ◌+◌, ◌<◌, ◌≤◌}
use mathlib.Core.Path.{◌≡◌, refl, sym, ap, ◌∙◌}
use mathlib.Core.Bool.{Bool, true, false, cond, ◌||◌}
use mathlib.Core.List.{List}
use native.Mathlib.Omega.{arith}
use borrow.Author.Tests.{lt-ltb, le-ltb, ltb-false, eq-eqb, ne_eqb}
use lib.Dec.{ltb}
use lib.ListN.{length, take, drop}
use Rattle.std.specs.Prelude.{Option, None, Some}
use Rattle.refusal.specs.declared.Refusal.{Refusal}
use Rattle.refusal.specs.Refusal.{accepted, number}
use Rattle.refusal.proofs.Numbers.{number-not}
use Rattle.words.specs.Words.{word}
use Rattle.sheet.specs.Build.{reading_of}
use Rattle.std.proofs.lemmas.Bool.{or_parts}
use Rattle.call_log.specs.declared.Log.{Log}
use Rattle.call_log.specs.Lines.{Refused}
use Rattle.call_log.specs.Logs.{max_sheet, is_cut, sheet_in, sheet_number, sheet_line, track_in}
use Rattle.call_log.specs.Machine.{sheet_room, new_log, open_line, open_log}

-- what holds of an input that is not cut
pub record Whole (input : List ℕ) : Type 0 where
  pub some : 2 ≤ length input
  pub few : word 2 input ≤ max_sheet
  pub fits : 2 + word 2 input ≤ length input

pub uncut : (input : List ℕ) → is_cut input ≡ false → Whole input
unfolding is_cut
uncut input e =
    let a = or_parts _ _ e in
    let b = or_parts _ _ a.1 in
    record { some = ltb-false _ _ a.0; few = ltb-false _ _ b.0; fits = ltb-false _ _ b.1 }

-- the sheet's length is wanted
pub room_whole : (input : List ℕ) → Whole input → sheet_room input ≡ Some (word 2 input)
unfolding sheet_room
room_whole input w = rw (le-ltb (length input) 2 w.some, le-ltb max_sheet (word 2 input) w.few)

-- ---- by the length that is wanted

-- there is none: the input is cut
pub cut_unsaid : (input : List ℕ) → sheet_room input ≡ None → is_cut input ≡ true
unfolding sheet_room is_cut
cut_unsaid input e = go (ltb (length input) 2) (ltb max_sheet (word 2 input)) e
  where
    go : (a b : Bool) → cond (a || b) None (Some (word 2 input)) ≡ None → a || (b || ltb (length input) (2 + word 2 input)) ≡ true
    go true b f = refl
    go false true f = refl
    go false false f = cc

module _ (input : List ℕ) (len : ℕ) (e : sheet_room input ≡ Some len) where
  -- what it says
  pub record Said : Type 0 where
    pub some : 2 ≤ length input
    pub few : len ≤ max_sheet
    pub said : word 2 input ≡ len

  said : Said
  unfolding sheet_room
  said = go (ltb (length input) 2) (ltb max_sheet (word 2 input)) refl refl e
    where
      go : (a b : Bool) → ltb (length input) 2 ≡ a → ltb max_sheet (word 2 input) ≡ b → cond (a || b) None (Some (word 2 input)) ≡ Some len → Said
      go true b p q f = cc
      go false true p q f = cc
      go false false p q f =
          let s : word 2 input ≡ len = cc in
          record { some = ltb-false _ _ p; few = omega (arith, ltb-false _ _ q); said = s }

  pub room_few : len ≤ max_sheet
  room_few = said.few

  pub cut_short : length input < 2 + len → is_cut input ≡ true
  unfolding is_cut
  cut_short h = rw (le-ltb (length input) 2 said.some, said.said, le-ltb max_sheet len said.few, lt-ltb (length input) (2 + len) h)

  pub cut_not : 2 + len ≤ length input → is_cut input ≡ false
  unfolding is_cut
  cut_not h = rw (le-ltb (length input) 2 said.some, said.said, le-ltb max_sheet len said.few, le-ltb (length input) (2 + len) h)

  -- the part of the input that is read as the sheet
  pub sheet_is : take len (drop 2 input) ≡ sheet_in input
  sheet_is = rw said.said

pub ruleset sheets = (cut_unsaid, cut_short, cut_not, room_few, sheet_is)

-- ---- the number of the sheet

pub number_cut : (input : List ℕ) → is_cut input ≡ true → sheet_number input ≡ 7
unfolding sheet_number
number_cut input e = rw e

pub number-whole : (input : List ℕ) → is_cut input ≡ false → sheet_number input ≡ (reading_of (sheet_in input)).refusal
unfolding sheet_number
number-whole input e = rw e

some_same : {x y : Log} → ◌≡◌ {A = Option Log} (Some x) (Some y) → x ≡ y
some_same e = cc

module _ (input : List ℕ) where
  pub open-refused : (sheet_number input ≡ 0 → ⊥) → (open_line input ≡ Refused (sheet_number input)) × (open_log input ≡ None)
  unfolding open_line open_log
  open-refused h = rw (ne_eqb (sheet_number input) 0 h) (refl, refl)

  pub open-accepted : sheet_number input ≡ 0 → (open_line input ≡ sheet_line (track_in input)) × (open_log input ≡ Some (new_log (track_in input)))
  unfolding open_line open_log
  open-accepted h = rw (eq-eqb (sheet_number input) 0 h) (refl, refl)

  -- the line, by the answer
  pub line_accepted : (log : Log) → accepted ≡ sheet_number input → Some log ≡ open_log input → open_line input ≡ sheet_line log.track
  line_accepted log n e =
      let o = open-accepted (sym n) in
      let l : log ≡ new_log (track_in input) = some_same (e ∙ o.1) in
      o.0 ∙ ap (λ (g : Log). sheet_line g.track) (sym l)

  pub line_refused : (r : Refusal) → number r ≡ sheet_number input → open_line input ≡ Refused (number r)
  line_refused r n = (open-refused (λ z. number-not r (n ∙ z))).0 ∙ ap Refused (sym n)
