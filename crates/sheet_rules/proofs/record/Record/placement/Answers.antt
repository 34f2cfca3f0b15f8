-- Each check, by what the placement says of it.
use mathlib.Core.Path.{◌≡◌, sym, ap, ◌∙◌}
use mathlib.Core.Bool.{Bool, true}
use Prim.Native.Nat.{ℕ}
use Rattle.sheet_rules.specs.declared.record.Placement.{Placement}
use Rattle.sheet_rules.specs.declared.record.Record.{Record}
use Rattle.sheet_rules.specs.Placements.{kind_of, target_of, seconds_of, target_good}
use Rattle.sheet_rules.proofs.Said.{other_target, no_target, first_refused, second_refused, seconds_refused, placement_taken}
use Rattle.sheet_rules.proofs.record.Record.placement.Goals.{then-target-from-via-then-target-from, then-target-from-via-else-target-from+then-not-is_good, then-self-ne0-via-then-self-ne0, then-self-ne0-via-else-self-ne0+then-self-ne0-2, then-self-ne0-via-else-self-ne0+else-self-ne0-2+then-seconds-self}
use Rattle.sheet_rules.proofs.record.Record.placement.Goals as goal

second : (t : ℕ × ℕ × ℕ) (a b c : ℕ) → t ≡ (a, b, c) → t.1 ≡ b
second t a b c e = ap (λ (t : ℕ × ℕ × ℕ). t.1) e

third : (t : ℕ × ℕ × ℕ) (a b c : ℕ) → t ≡ (a, b, c) → t.2 ≡ c
third t a b c e = ap (λ (t : ℕ × ℕ × ℕ). t.2) e

-- what is known once the target is checked
record Known (n : ℕ) (x : Record) (p : Placement) (seconds : ℕ) : Type 0 where
  target : target_of p ≡ x.target
  good : target_good n p ≡ true
  bits : seconds_of p ≡ seconds

known : (n : ℕ) (x : Record) (p : Placement) (t : ℕ × ℕ × ℕ) (from : ℕ) (good : Bool) → t ≡ (kind_of p, target_of p, seconds_of p) → from ≡ x.target → good ≡ target_good n p
    → t.1 ≡ from → good ≡ true → Known n x p t.2
known n x p t from good e f g h i =
    record { target = sym (second _ _ _ _ e) ∙ h ∙ f; good = sym g ∙ i; bits = sym (third _ _ _ _ e) }

pub returns-then-target-from-clause-number : goal.returns-then-target-from-clause-number
returns-then-target-from-clause-number c =
    let x = c.args.self in
    let p = c.in_ok-placement.placement in
    let t = second _ _ _ _ c.parts-target.ensures in
    elim c.then-target-from.branch [
      | then-target-from-via-then-target-from w ↦ other_target c.args.n x p c.in_ok-placement.ensures (λ e. w.if-target-from.true (t ∙ e ∙ sym c.from.ensures))
      | then-target-from-via-else-target-from+then-not-is_good w ↦ no_target c.args.n x p c.in_ok-placement.ensures (sym w.is_good.ensures ∙ w.if-not-is_good.true)
    ]

pub returns-then-self-ne0-clause-number : goal.returns-then-self-ne0-clause-number
returns-then-self-ne0-clause-number c =
    let e = c.in_ok-placement.ensures in
    let k = known c.args.n c.args.self c.in_ok-placement.placement _ _ _ c.parts-target.ensures c.from.ensures c.is_good.ensures c.if-target-from.false c.if-not-is_good.false in
    elim c.then-self-ne0.branch [
      | then-self-ne0-via-then-self-ne0 w ↦ first_refused _ c.args.self _ e k.target k.good w.if-self-ne0.true
      | then-self-ne0-via-else-self-ne0+then-self-ne0-2 w ↦ second_refused _ c.args.self _ e k.target k.good w.if-self-ne0-2.true
      | then-self-ne0-via-else-self-ne0+else-self-ne0-2+then-seconds-self w ↦ seconds_refused _ c.args.self _ e k.target k.good (λ q. w.if-seconds-self.true (sym k.bits ∙ q))
    ]

pub returns-clause-number : goal.returns-clause-number
returns-clause-number c =
    let k = known c.args.n c.args.self c.in_ok-placement.placement _ _ _ c.parts-target.ensures c.from.ensures c.is_good.ensures c.if-target-from.false c.if-not-is_good.false in
    placement_taken _ c.args.self _ c.in_ok-placement.ensures k.target k.good c.if-self-ne0.false c.if-self-ne0-2.false (k.bits ∙ c.if-seconds-self.false)
