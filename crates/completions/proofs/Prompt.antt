-- Every walk is prompt.
use mathlib.Core.Path.{◌≡◌, refl, ap, sym, subst, ◌∙◌}
use mathlib.Core.Logic.{inl, inr}
use mathlib.Core.Bool.{Bool, true, false, ◌||◌, true≢false}
use mathlib.Core.List.{List, map}
use Prim.Native.Nat.{ℕ, suc, ◌+◌, ◌-◌, ◌≤◌, ◌<◌, ◌^◌, min}
use native.Mathlib.Nat.{le_of_lt, le_trans, le_of_suc-le-suc}
use native.Mathlib.Omega.{arith}
use borrow.Author.Tests.{ltb-true, ltb-false, leb-true, leb-false, lt-leb}
use lib.Dec.{T, ltb, lit≤}
use lib.ListN.{length, take, length-take}
use lib.Seq.{take_all}
use lib.Ieee.{Float, binary32, div, lt, le, is_nan, fits}
use lib.Ieee.Fits.{mul-fits}
use lib.Ieee.Casts.{to_unsigned-lt}
use lib.Ieee.Positive.{above}
use Rattle.float32.specs.Helpers.{zero_f, max_f}
use Rattle.float32.proofs.Order.{lt-or_le, le-self}
use Rattle.float32.proofs.Nonneg.{above_of_lt, fold-max_zero_nonneg, nonneg_no_nan, zero_nonneg, zero_le_nonneg}
use Rattle.tween.specs.declared.loop_mode.Loop.{Loop}
use Rattle.tween.specs.declared.loop_mode.Loop.TheVariants.{Once, Times, Forever, PingPong, PingPongTimes}
use Rattle.steps.specs.Times.{two_f, end_at, base_of}
use Rattle.steps.specs.declared.Entry.{Entry}
use Rattle.completions.specs.declared.Walk.{Walk}
use Rattle.std.specs.Prelude.{Option}
use Rattle.completions.specs.Answers.{room_for, Listed}
use Rattle.completions.specs.Completions.{last_cycle, breaks_at, cycles, walk_of, first_cycle, none_if, completions_in, completions_between}
use Rattle.completions.specs.Prompt.{completions_within, most_cycles, turns_from, Prompt, PromptAnswer, FewTurns}
use Rattle.completions.proofs.Ends.{base_of_ends}
use Rattle.std.proofs.lemmas.Bool.{or_parts}
use Rattle.completions.proofs.Fuel.{Lists, settled-from, enough-from, few-from}
use Rattle.completions.proofs.Longest.{Has, largest_has, has_fits, le-double, lists}

none_same : (n : ℕ) (b : Bool) (xs ys : List ℕ) → (b ≡ false → take n xs ≡ take n ys) → take n (none_if b xs) ≡ take n (none_if b ys)
none_same n true xs ys h = refl
none_same n false xs ys h = h refl

lt_of_not_le : (x y : Float) → is_nan x ≡ false → is_nan y ≡ false → le y x ≡ false → lt x y ≡ true
lt_of_not_le x y p q h = elim (lt-or_le x y p q) [ inl l ↦ l | inr l ↦ absurd (true≢false (sym l ∙ h)) ]

-- a cycle number is one of a u32
first_top : (w : Walk) → first_cycle w ≤ last_cycle
first_top w = le_of_suc-le-suc (to_unsigned-lt 32 (max_f (div binary32 w.step.prev w.period) zero_f))

-- ---- the walk of a mode
module _ (base prev next : Float) (fit : T (fits binary32 base)) (up : T (above base)) where
  period-fits : (mode : Loop) → T (fits binary32 (walk_of mode base prev next).period)
  period-fits Once = fit
  period-fits (Times n) = fit
  period-fits Forever = fit
  period-fits PingPong = mul-fits binary32 base two_f
  period-fits (PingPongTimes n) = mul-fits binary32 base two_f

  period-ge : is_nan base ≡ false → (mode : Loop) → le base (walk_of mode base prev next).period ≡ true
  period-ge p Once = le-self base p
  period-ge p (Times n) = le-self base p
  period-ge p Forever = le-self base p
  period-ge p PingPong = le-double base fit up
  period-ge p (PingPongTimes n) = le-double base fit up

walk_goes : (mode : Loop) (base prev next : Float) → lt prev next ≡ true → lt (walk_of mode base prev next).step.prev (walk_of mode base prev next).step.next ≡ true
walk_goes Once base prev next h = h
walk_goes (Times n) base prev next h = h
walk_goes Forever base prev next h = h
walk_goes PingPong base prev next h = h
walk_goes (PingPongTimes n) base prev next h = h

-- the base of entries, where it is above zero, is where one of them ends
base_has : (es : List Entry) → le (base_of es) zero_f ≡ false → Has (base_of es) (map end_at es)
base_has es h = elim (largest_has zero_f (map end_at es)) [
  | inl e ↦ absurd (true≢false (sym (zero_le_nonneg zero_f zero_nonneg) ∙ ap (λ (x : Float). le x zero_f) (sym e ∙ base_of_ends es) ∙ h))
  | inr q ↦ subst (λ (x : Float). Has x (map end_at es)) (base_of_ends es) q
]

module _ (mode : Loop) (es : List Entry) (prev next : Float) (room : ℕ) where
  abbrev w : Walk
  w = walk_of mode (base_of es) prev next

  base-no-nan : is_nan (base_of es) ≡ false
  base-no-nan = subst (λ (x : Float). is_nan x ≡ false) (base_of_ends es) (nonneg_no_nan _ (fold-max_zero_nonneg (map end_at es)))

  module _ (goes : lt prev next ≡ true) (b : le (base_of es) zero_f ≡ false) where
    has : Has (base_of es) (map end_at es)
    has = base_has es b

    fit : T (fits binary32 (base_of es))
    fit = has_fits (base_of es) es has

    up : T (above (base_of es))
    up = above_of_lt (base_of es) (lt_of_not_le zero_f (base_of es) (nonneg_no_nan zero_f zero_nonneg) base-no-nan b)

    walk-lists : Lists w (map end_at es) (first_cycle w + 775) 1033
    walk-lists = lists w (map end_at es) (base_of es) fit up has (period-fits (base_of es) prev next fit up mode) (period-ge (base_of es) prev next fit up base-no-nan mode) (walk_goes mode (base_of es) prev next goes)

    walk_same : take (room + 1) (cycles w (map end_at es) (most_cycles room) (breaks_at w (first_cycle w)) (first_cycle w)) ≡ take (room + 1) (cycles w (map end_at es) (2 ^ 32) (breaks_at w (first_cycle w)) (first_cycle w))
    walk_same = go (ltb (2 ^ 32) (most_cycles room)) refl
      where
        far : (first room : ℕ) → (first + 775 - first) + (room + 1) + 1033 < most_cycles room
        far first room = omega arith

        go : (t : Bool) → ltb (2 ^ 32) (most_cycles room) ≡ t
            → take (room + 1) (cycles w (map end_at es) (most_cycles room) (breaks_at w (first_cycle w)) (first_cycle w)) ≡ take (room + 1) (cycles w (map end_at es) (2 ^ 32) (breaks_at w (first_cycle w)) (first_cycle w))
        go true t = ap (take (room + 1)) (sym (settled-from w (map end_at es) (2 ^ 32) (most_cycles room) (first_cycle w) (first_top w) (le_of_lt (ltb-true (2 ^ 32) (most_cycles room) t)) (lit≤ tt)))
        go false t =
            enough-from w (map end_at es) (first_cycle w + 775) 1033 walk-lists (most_cycles room) (2 ^ 32) (room + 1) (first_cycle w) (lit≤ tt) (first_top w) (ltb-false (2 ^ 32) (most_cycles room) t) (far (first_cycle w) room)

    walk-few : turns_from w (map end_at es) room (first_cycle w) ≤ most_cycles room
    walk-few = le_trans (few-from w (map end_at es) (first_cycle w + 775) 1033 walk-lists (2 ^ 32) room (first_cycle w) (breaks_at w (first_cycle w)) (lit≤ tt) (first_top w)) (near (first_cycle w) room)
      where
        near : (first room : ℕ) → suc ((first + 775 - first) + suc room + 1033) ≤ most_cycles room
        near first room = omega arith

  same : take (room + 1) (completions_within (most_cycles room) mode es prev next) ≡ take (room + 1) (completions_between mode es prev next)
  unfolding completions_within completions_between completions_in
  same =
      none_same (room + 1) (is_nan prev || is_nan next) _ _ (λ (n : (is_nan prev || is_nan next) ≡ false).
      none_same (room + 1) (le next prev || (le (base_of es) zero_f || le w.period zero_f)) _ _ (λ (f : (le next prev || (le (base_of es) zero_f || le w.period zero_f)) ≡ false).
      let a = or_parts (is_nan prev) (is_nan next) n in
      let b = or_parts (le next prev) (le (base_of es) zero_f || le w.period zero_f) f in
      walk_same (lt_of_not_le prev next a.0 a.1 b.0) (or_parts (le (base_of es) zero_f) (le w.period zero_f) b.1).0))

pub prompt : Prompt
prompt mode es prev next room = same mode es prev next room

pub few_turns : FewTurns
few_turns mode es prev next room goes b = walk-few mode es prev next room goes b

-- ---- lists that agree in one place more than there is room for are answered alike
module _ (xs ys old : List ℕ) (e : take (length old + 1) xs ≡ take (length old + 1) ys) where
  lengths : min (length old + 1) (length xs) ≡ min (length old + 1) (length ys)
  lengths = sym (length-take (length old + 1) xs) ∙ ap length e ∙ length-take (length old + 1) ys

  one_list : length xs ≤ length old → xs ≡ ys
  one_list h = sym (take_all (length old + 1) xs (omega arith)) ∙ e ∙ take_all (length old + 1) ys (omega (arith, lengths))

  no_room : length old < length xs → room_for ys old ≡ false
  no_room h = lt-leb (length ys) (length old) (omega (arith, lengths))

  alike : (new : List ℕ) (r : Option ℕ) → Listed xs old new r → Listed ys old new r
  alike new r l = go (room_for xs old) refl
    where
      go : (b : Bool) → room_for xs old ≡ b → Listed ys old new r
      go true p = subst (λ (zs : List ℕ). Listed zs old new r) (one_list (leb-true (length xs) (length old) p)) l
      go false p =
          let n : room_for ys old ≡ false = no_room (leb-false (length xs) (length old) p) in
          record { answer = rw n (rw p at l.answer); refusal = rw n (rw p at l.refusal); count = rw n (rw p at l.count); list = rw n (rw p at l.list) }

pub prompt_answer : PromptAnswer
prompt_answer mode es prev next old new r l =
    alike (completions_within (most_cycles (length old)) mode es prev next) (completions_between mode es prev next) old (prompt mode es prev next (length old)) new r l
