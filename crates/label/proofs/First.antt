-- What is found is the first label with the text, as `position` gives it; and the laws of a loop that looks for it from the front.
use Prim.Native.Nat.{ℕ, zero, suc, ◌+◌, ◌<◌, ◌≤◌, zero-le, suc-le-suc}
use mathlib.Core.Path.{◌≡◌, refl, ap, ◌∙◌}
use mathlib.Core.Bool.{Bool, true, false, cond}
use mathlib.Core.List.{List, [], ◌∷◌}
use native.Mathlib.Nat.{not-suc-le-zero, le_of_suc-le-suc}
use native.Mathlib.Omega.{arith}
use native.Mathlib.Numerals.{add-one}
use lib.ListN.{length, get_or, take, drop, drop_of_length-le, length-take}
use lib.Dec.{ltb}
use lib.Seq.{drop-cons, get_or-take}
use Rattle.std.specs.List.{position_from, position_or_len}
use Rattle.std.proofs.lemmas.Iterator.Adapters.{position_from-zero}
use Rattle.label.specs.Label.{text, same_text, first_from, first_with, first_like, no_label}
use Rattle.label.specs.declared.Label.{Label}
use Rattle.std.specs.Prelude.{Option, Some, None}
use borrow.Author.Tests.{lt-ltb, le-ltb}
use Rattle.label.proofs.Text.{text-fits}
use Rattle.label.proofs.SameText.{same_true, same_false}

-- label k is the first with the text
pub record First (target : List ℕ) (ls : List Label) (k : ℕ) : Type 0 where
  pub below : k < length ls
  pub has : text (get_or ls k no_label) ≡ target
  pub earliest : (j : ℕ) → j < k → text (get_or ls j no_label) ≡ target → ⊥

-- the same at a place of a list whose first label has number i
record Place (i : ℕ) (target : List ℕ) (ls : List Label) (k : ℕ) : Type 0 where
  place : ℕ
  counted : k ≡ i + place
  first : First target ls place

-- the first label has the text
here : (target : List ℕ) (l : Label) (ls : List Label) → same_text (text l) target ≡ true → First target (l ∷ ls) 0
here target l ls t =
    record { below = suc-le-suc zero-le; has = same_true (text l) target t; earliest = λ j h p. not-suc-le-zero h }

-- the first label has not the text: it is found among the others
later : (target : List ℕ) (l : Label) (ls : List Label) (k : ℕ) → same_text (text l) target ≡ false → First target ls k → First target (l ∷ ls) (suc k)
later target l ls k t f =
    record { below = suc-le-suc f.below; has = f.has; earliest = earlier }
  where
    earlier : (j : ℕ) → j < suc k → text (get_or (l ∷ ls) j no_label) ≡ target → ⊥
    earlier zero h p = same_false (text l) target t p
    earlier (suc j) h p = f.earliest j (le_of_suc-le-suc h) p

found_from : (i : ℕ) (target : List ℕ) (ls : List Label) (k : ℕ) → first_from i target ls ≡ Some k → Place i target ls k
unfolding first_from
found_from i target [] k e =
    let z : ◌≡◌ {A = ℕ} 0 1 = cc in
    absurd (omega arith)
found_from i target (l ∷ ls) k e = go (same_text (text l) target) refl (found_from (i + 1) target ls k) e
  where
    go : (b : Bool) → same_text (text l) target ≡ b → (first_from (i + 1) target ls ≡ Some k → Place (i + 1) target ls k) → cond b (Some i) (first_from (i + 1) target ls) ≡ Some k → Place i target (l ∷ ls) k
    go true t rest q =
        let n : i ≡ k = cc in
        record { place = 0; counted = omega arith; first = here target l ls t }
    go false t rest q =
        let p = rest q in
        record { place = suc p.place; counted = omega arith; first = later target l ls p.place t p.first }

-- what is found is the first label with the text
pub found_first : (target : List ℕ) (ls : List Label) (k : ℕ) → first_with target ls ≡ Some k → First target ls k
found_first target ls k e =
    let p = found_from 0 target ls k e in
    let n : k ≡ p.place = omega arith in
    rw n p.first

nothing_from : (i : ℕ) (target : List ℕ) (ls : List Label) → first_from i target ls ≡ None → (j : ℕ) → j < length ls → text (get_or ls j no_label) ≡ target → ⊥
unfolding first_from
nothing_from i target [] e j h = absurd (not-suc-le-zero h)
nothing_from i target (l ∷ ls) e j h = go (same_text (text l) target) refl (nothing_from (i + 1) target ls) e j h
  where
    go : (b : Bool) → same_text (text l) target ≡ b → (first_from (i + 1) target ls ≡ None → (j : ℕ) → j < length ls → text (get_or ls j no_label) ≡ target → ⊥) → cond b (Some i) (first_from (i + 1) target ls) ≡ None → (j : ℕ) → j < length (l ∷ ls) → text (get_or (l ∷ ls) j no_label) ≡ target → ⊥
    go true t rest q j h p =
        let z : ◌≡◌ {A = ℕ} 0 1 = cc in
        omega arith
    go false t rest q zero h p = same_false (text l) target t p
    go false t rest q (suc j) h p = rest q j (le_of_suc-le-suc h) p

-- nothing is found: no label has the text
pub nothing_has : (target : List ℕ) (ls : List Label) → first_with target ls ≡ None → (j : ℕ) → j < length ls → text (get_or ls j no_label) ≡ target → ⊥
nothing_has target ls e = nothing_from 0 target ls e

-- "a longer label .. is just not found": a target that is longer than every label's storage
pub too_long : (target : List ℕ) (ls : List Label) → ((j : ℕ) → j < length ls → length (get_or ls j no_label).bytes < length target) → first_with target ls ≡ None
too_long target ls short = go (first_with target ls) refl
  where
    go : (f : Option ℕ) → first_with target ls ≡ f → f ≡ None
    go (Some k) e =
        let p = found_first target ls k e in
        let s = short k p.below in
        absurd (omega (arith, ap length p.has, text-fits (get_or ls k no_label)))
    go None e = refl

-- the first with the text, as `position` gives it
first_from_position : (i : ℕ) (target : List ℕ) (ls : List Label) → position_from (λ (l : Label). same_text (text l) target) i ls ≡ first_from i target ls
unfolding first_from
first_from_position i target [] = refl
first_from_position i target (l ∷ ls) = rw (first_from_position (i + 1) target ls)

pub first_position : (target : List ℕ) (ls : List Label) → (let test : Label → Bool = λ l. same_text (text l) target in cond (ltb (position_or_len test ls) (length ls)) (Some (position_or_len test ls)) None) ≡ first_with target ls
first_position target ls = position_from-zero (λ (l : Label). same_text (text l) target) ls ∙ first_from_position 0 target ls

-- label k, and the first with its text
pub like_at : (k : ℕ) (ls : List Label) (l : Label) → k < length ls → l ≡ get_or ls k no_label → first_with (text l) ls ≡ first_like k ls
unfolding first_like
like_at k ls l h e = rw (lt-ltb k (length ls) h, e)

-- there is no label k
pub like_none : (k : ℕ) (ls : List Label) → length ls ≤ k → first_like k ls ≡ None
unfolding first_like
like_none k ls h = rw (le-ltb k (length ls) h)

pub ruleset likes = (like_at, like_none)

in_part : (n k : ℕ) (ls : List Label) → k < length (take n ls) → get_or (take n ls) k no_label ≡ get_or ls k no_label
in_part n k ls h = get_or-take n ls k no_label (omega (arith, length-take n ls))

-- label k of the first n; b is what a test of it gives
module _ (n k : ℕ) (ls : List Label) (target : List ℕ) where
  -- a turn finds the text
  pub first-hit : (b : Bool) → k < length (take n ls) → b ≡ same_text (text (get_or ls k no_label)) target → b ≡ true → first_from k target (drop k (take n ls)) ≡ Some k
  unfolding first_from
  first-hit b h e p = rw (drop-cons (take n ls) k no_label h, in_part n k ls h, ← e, p)

  -- a turn finds another text
  pub first-miss : (b : Bool) → k < length (take n ls) → b ≡ same_text (text (get_or ls k no_label)) target → b ≡ false → first_from k target (drop k (take n ls)) ≡ first_from (k + 1) target (drop (k + 1) (take n ls))
  unfolding first_from
  first-miss b h e p = rw (drop-cons (take n ls) k no_label h, in_part n k ls h, ← e, p, add-one)

  -- no label is left
  pub first-end : length (take n ls) ≤ k → first_from k target (drop k (take n ls)) ≡ None
  unfolding first_from
  first-end h = rw (drop_of_length-le (take n ls) h)
