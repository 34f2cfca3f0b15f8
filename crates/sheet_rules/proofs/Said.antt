-- What a mode or a placement that was read says of the checks of the numbers that it was read from.
use Prim.Native.Nat.{ℕ, ◌≤◌}
use mathlib.Core.Path.{◌≡◌, refl, sym}
use mathlib.Core.Bool.{Bool, true, false, cond, ◌&&◌}
use borrow.Author.Tests.{eq-eqb, ne_eqb, ltb-false}
use lib.Dec.{eqb, ltb}
use Rattle.std.specs.Prelude.{Ok, Err, ◌≢◌}
use Rattle.std.proofs.lemmas.Bool.{and_left, and_right}
use Rattle.refusal.specs.declared.Refusal.TheVariants.{SheetLoop, SheetPlacement}
use Rattle.refusal.specs.Refusal.{accepted, sheet_loop, sheet_placement, sheet_zero}
use Rattle.tween.specs.declared.loop_mode.Loop.{Loop}
use Rattle.tween.specs.LoopMode.{loop_of, loop_in, number_of}
use Rattle.sheet_rules.specs.declared.record.Placement.{Placement}
use Rattle.sheet_rules.specs.declared.record.Record.{Record}
use Rattle.sheet_rules.specs.Rules.{loop_good, placement_good, zeros_good, record_refusal}
use Rattle.sheet_rules.specs.Placements.{placement_of, placement_in, target_of, seconds_of, target_good}
use Rattle.sheet_rules.proofs.Five.{five}

same : (n : ℕ) → eqb n n ≡ true
same n = eq-eqb n n refl

-- ---- modes

loop_said : (mode number : ℕ) → mode ≤ 4 → loop_good mode number ≡ eqb number (number_of (loop_of mode number))
unfolding loop_of
loop_said mode number h =
    five (λ m. loop_good m number ≡ eqb number (number_of (loop_of m number))) refl (sym (same number)) refl refl (sym (same number)) mode h

mode_read : (mode number : ℕ) (m : Loop) → Ok m ≡ loop_in mode number → (mode ≤ 4) × (m ≡ loop_of mode number)
mode_read mode number m = go (ltb 4 mode) refl
  where
    go : (b : Bool) → ltb 4 mode ≡ b → Ok m ≡ cond b (Err SheetLoop) (Ok (loop_of mode number)) → (mode ≤ 4) × (m ≡ loop_of mode number)
    go true t q = absurd (cc)
    go false t q = (ltb-false 4 mode t, cc)

module _ (mode number : ℕ) (m : Loop) (e : Ok m ≡ loop_in mode number) where
  good : loop_good mode number ≡ eqb number (number_of m)
  good =
      let r = mode_read mode number m e in
      rw r.1 (loop_said mode number r.0)

  pub loop_taken : number_of m ≡ number → accepted ≡ cond (loop_good mode number) accepted sheet_loop
  loop_taken h = rw (good, eq-eqb _ _ (sym h))

  pub loop_refused : number_of m ≢ number → sheet_loop ≡ cond (loop_good mode number) accepted sheet_loop
  loop_refused h = rw (good, ne_eqb number (number_of m) (λ i. h (sym i)))

-- ---- placements

and_yes : (x : Bool) → x ≡ (x && true)
and_yes true = refl
and_yes false = refl

record Said (n kind target seconds : ℕ) (p : Placement) : Type 0 where
  placed : placement_good n kind target ≡ (target_good n p && eqb target (target_of p))
  zeros : (first second : ℕ) → zeros_good kind first second seconds ≡ ((eqb first 0 && eqb second 0) && eqb seconds (seconds_of p))

said : (n kind target seconds : ℕ) → kind ≤ 4 → Said n kind target seconds (placement_of kind target seconds)
unfolding placement_of
said n kind target seconds h =
    five (λ k. Said n k target seconds (placement_of k target seconds))
    (record { placed = refl; zeros = λ a b. rw (same seconds) })
    (record { placed = refl; zeros = λ a b. refl })
    (record { placed = refl; zeros = λ a b. refl })
    (record { placed = rw (same target) (and_yes (ltb target n)); zeros = λ a b. refl })
    (record { placed = refl; zeros = λ a b. rw (same seconds) })
    kind h

placement_read : (kind target seconds : ℕ) (p : Placement) → Ok p ≡ placement_in kind target seconds → (kind ≤ 4) × (p ≡ placement_of kind target seconds)
placement_read kind target seconds p = go (ltb 4 kind) refl
  where
    go : (b : Bool) → ltb 4 kind ≡ b → Ok p ≡ cond b (Err SheetPlacement) (Ok (placement_of kind target seconds)) → (kind ≤ 4) × (p ≡ placement_of kind target seconds)
    go true t q = absurd (cc)
    go false t q = (ltb-false 4 kind t, cc)

-- of a record in a sheet of n entries
module _ (n : ℕ) (x : Record) (p : Placement) (e : Ok p ≡ placement_in x.kind x.target x.seconds) where
  abbrev refusal : ℕ
  refusal = record_refusal n x.kind x.target x.first_zero x.second_zero x.seconds

  says : Said n x.kind x.target x.seconds p
  says =
      let r = placement_read x.kind x.target x.seconds p e in
      rw r.1 (said n x.kind x.target x.seconds r.0)

  pub other_target : target_of p ≢ x.target → sheet_placement ≡ refusal
  other_target h = rw (says.placed, and_right (target_good n p) _ (ne_eqb x.target (target_of p) (λ i. h (sym i))))

  pub no_target : target_good n p ≡ false → sheet_placement ≡ refusal
  no_target g = rw (says.placed, g)

  module _ (t : target_of p ≡ x.target) (g : target_good n p ≡ true) where
    zero_refused : ((eqb x.first_zero 0 && eqb x.second_zero 0) && eqb x.seconds (seconds_of p)) ≡ false → sheet_zero ≡ refusal
    zero_refused z = rw (says.placed, g, eq-eqb x.target (target_of p) (sym t), says.zeros x.first_zero x.second_zero, z)

    pub first_refused : x.first_zero ≢ 0 → sheet_zero ≡ refusal
    first_refused h = zero_refused (rw (ne_eqb x.first_zero 0 h))

    pub second_refused : x.second_zero ≢ 0 → sheet_zero ≡ refusal
    second_refused h = zero_refused (and_left _ _ (and_right (eqb x.first_zero 0) _ (ne_eqb x.second_zero 0 h)))

    pub seconds_refused : seconds_of p ≢ x.seconds → sheet_zero ≡ refusal
    seconds_refused h = zero_refused (and_right _ _ (ne_eqb x.seconds (seconds_of p) (λ i. h (sym i))))

    pub placement_taken : x.first_zero ≡ 0 → x.second_zero ≡ 0 → seconds_of p ≡ x.seconds → accepted ≡ refusal
    placement_taken a b c =
        rw (says.placed, g, eq-eqb x.target (target_of p) (sym t), says.zeros x.first_zero x.second_zero, eq-eqb x.first_zero 0 a, eq-eqb x.second_zero 0 b, eq-eqb x.seconds (seconds_of p) (sym c))
