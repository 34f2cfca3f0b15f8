-- Modes and kinds, by their five numbers: what a number says, and the number that says it.
use Prim.Native.Nat.{ℕ, zero, suc, ◌≤◌}
use mathlib.Core.Path.{◌≡◌, refl, sym}
use mathlib.Core.Bool.{true}
use native.Mathlib.Omega.{arith}
use borrow.Author.Tests.{eqb-true, leb-true}
use lib.Dec.{leb}
use Rattle.std.proofs.lemmas.Bool.{and_parts}
use Rattle.tween.specs.declared.loop_mode.Loop.{Loop}
use Rattle.tween.specs.declared.loop_mode.Loop.TheVariants.{Once, Times, Forever, PingPong, PingPongTimes}
use Rattle.sheet_rules.specs.declared.record.Placement.{Placement}
use Rattle.sheet_rules.specs.declared.record.Placement.TheVariants.{Absolute, Start, End, Label as Labeled, Offset}
use Rattle.sheet_rules.specs.Rules.{loop_good, placement_good, zeros_good}
use Rattle.tween.specs.LoopMode.{loop_of, mode_of, number_of}
use Rattle.sheet_rules.specs.Placements.{placement_of, kind_of, target_of, seconds_of, target_good}

-- what holds of 0 to 4 holds up to 4
pub five : (P : ℕ → Type 0) → P 0 → P 1 → P 2 → P 3 → P 4 → (k : ℕ) → k ≤ 4 → P k
five P a b c d e zero h = a
five P a b c d e (suc zero) h = b
five P a b c d e (suc (suc zero)) h = c
five P a b c d e (suc (suc (suc zero))) h = d
five P a b c d e (suc (suc (suc (suc zero)))) h = e
five P a b c d e (suc (suc (suc (suc (suc k))))) h = absurd (omega arith)

-- ---- modes

-- the number of a mode that was read
pub record LoopBack (mode number : ℕ) : Type 0 where
  pub mode-same : mode_of (loop_of mode number) ≡ mode
  pub number_same : number_of (loop_of mode number) ≡ number

pub loop_back : (mode number : ℕ) → loop_good mode number ≡ true → LoopBack mode number
unfolding loop_of
loop_back mode number g =
    five (λ m. loop_good m number ≡ true → LoopBack m number)
    (λ e. record { mode-same = refl; number_same = sym (eqb-true number 0 e) })
    (λ e. record { mode-same = refl; number_same = refl })
    (λ e. record { mode-same = refl; number_same = sym (eqb-true number 0 e) })
    (λ e. record { mode-same = refl; number_same = sym (eqb-true number 0 e) })
    (λ e. record { mode-same = refl; number_same = refl })
    mode (leb-true mode 4 (and_parts (leb mode 4) _ g).0) g

-- the mode that was written is read
pub loop_same : (looping : Loop) → loop_of (mode_of looping) (number_of looping) ≡ looping
unfolding loop_of
loop_same Once = refl
loop_same (Times n) = refl
loop_same Forever = refl
loop_same PingPong = refl
loop_same (PingPongTimes n) = refl

pub loop_good_lem : (looping : Loop) → loop_good (mode_of looping) (number_of looping) ≡ true
loop_good_lem Once = refl
loop_good_lem (Times n) = refl
loop_good_lem Forever = refl
loop_good_lem PingPong = refl
loop_good_lem (PingPongTimes n) = refl

-- ---- placements

-- the numbers of a placement that was read, and that it can be written
pub record PlacementBack (n kind target seconds : ℕ) : Type 0 where
  pub kind-same : kind_of (placement_of kind target seconds) ≡ kind
  pub target-same : target_of (placement_of kind target seconds) ≡ target
  pub seconds-same : seconds_of (placement_of kind target seconds) ≡ seconds
  pub good : target_good n (placement_of kind target seconds) ≡ true

pub placement_back : (n kind target seconds : ℕ) → placement_good n kind target ≡ true → zeros_good kind 0 0 seconds ≡ true → PlacementBack n kind target seconds
unfolding placement_of
placement_back n kind target seconds p z =
    five (λ k. placement_good n k target ≡ true → zeros_good k 0 0 seconds ≡ true → PlacementBack n k target seconds)
    (λ e f. record { kind-same = refl; target-same = sym (eqb-true target 0 e); seconds-same = refl; good = refl })
    (λ e f. record { kind-same = refl; target-same = sym (eqb-true target 0 e); seconds-same = sym (eqb-true seconds 0 f); good = refl })
    (λ e f. record { kind-same = refl; target-same = sym (eqb-true target 0 e); seconds-same = sym (eqb-true seconds 0 f); good = refl })
    (λ e f. record { kind-same = refl; target-same = refl; seconds-same = sym (eqb-true seconds 0 f); good = e })
    (λ e f. record { kind-same = refl; target-same = sym (eqb-true target 0 e); seconds-same = refl; good = refl })
    kind (leb-true kind 4 (and_parts (leb kind 4) _ p).0) p z

-- the placement that was written is read
pub placement_same : (at : Placement) → placement_of (kind_of at) (target_of at) (seconds_of at) ≡ at
unfolding placement_of
placement_same (Absolute s) = refl
placement_same Start = refl
placement_same End = refl
placement_same (Labeled k) = refl
placement_same (Offset s) = refl

pub placement_good_lem : (n : ℕ) (at : Placement) → target_good n at ≡ true → placement_good n (kind_of at) (target_of at) ≡ true
placement_good_lem n (Absolute s) g = refl
placement_good_lem n Start g = refl
placement_good_lem n End g = refl
placement_good_lem n (Labeled k) g = g
placement_good_lem n (Offset s) g = refl

pub zeros_good_lem : (at : Placement) → zeros_good (kind_of at) 0 0 (seconds_of at) ≡ true
zeros_good_lem (Absolute s) = refl
zeros_good_lem Start = refl
zeros_good_lem End = refl
zeros_good_lem (Labeled k) = refl
zeros_good_lem (Offset s) = refl
