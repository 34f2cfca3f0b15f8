-- What is found is the first code that is the label; where nothing is found, no code is.
use Prim.Native.Nat.{ℕ, zero, suc, ◌+◌, ◌*◌, ◌<◌, zero-le, suc-le-suc}
use mathlib.Core.Path.{◌≡◌, refl, sym, ap, ◌∙◌}
use mathlib.Core.Bool.{Bool, true, false}
use mathlib.Core.List.{List}
use native.Mathlib.Nat.{not-suc-le-zero, le_of_suc-le-suc}
use native.Mathlib.Omega.{arith}
use lib.ListN.{drop}
use lib.Seq.{drop-drop}
use Rattle.label.specs.Label.{same_text}
use Rattle.label.proofs.SameText.{eq-same, same_true}
use Rattle.std.specs.Prelude.{Some}
use Rattle.words.specs.Pairs.{pair_size, pair_in, part_of}
use Rattle.caption.specs.Captions.{code_size, no_match, first_match}

module _ (list label : List ℕ) where
  -- the pairs of code i, from these pairs on
  abbrev pub code_pairs_from : List ℕ → ℕ → List ℕ
  code_pairs_from pairs i = drop (code_size * i) pairs

  next : (pairs : List ℕ) (i : ℕ) → code_pairs_from (drop code_size pairs) i ≡ code_pairs_from pairs (suc i)
  next pairs i =
      let n : code_size + code_size * i ≡ code_size * suc i = omega arith in
      drop-drop (code_size * i) code_size pairs ∙ ap (λ (m : ℕ). drop m pairs) n

  -- what is not equal is no match
  unlike : (pairs : List ℕ) → (part_of list pairs ≡ label → ⊥) → same_text (part_of list pairs) label ≡ false
  unlike pairs f = chosen (same_text (part_of list pairs) label) refl
    where
      chosen : (b : Bool) → same_text (part_of list pairs) label ≡ b → b ≡ false
      chosen true t = absurd (f (same_true _ _ t))
      chosen false t = refl

  -- a code of k, with none equal before it, is found
  pub finds : (k : ℕ) (pairs : List ℕ) (i : ℕ) → i < k → part_of list (code_pairs_from pairs i) ≡ label → ((j : ℕ) → j < i → part_of list (code_pairs_from pairs j) ≡ label → ⊥)
      → first_match list label k pairs ≡ Some (pair_in (drop pair_size (code_pairs_from pairs i)))
  unfolding first_match
  finds zero pairs i h e d = absurd (not-suc-le-zero h)
  finds (suc k) pairs zero h e d = rw (eq-same (part_of list pairs) label e)
  finds (suc k) pairs (suc i) h e d =
      let n = next pairs i in
      let other = unlike pairs (d 0 (suc-le-suc zero-le)) in
      let rest = finds k (drop code_size pairs) i (le_of_suc-le-suc h) (ap (λ (p : List ℕ). part_of list p) n ∙ e) (λ j g q. d (suc j) (suc-le-suc g) (ap (λ (p : List ℕ). part_of list p) (sym (next pairs j)) ∙ q)) in
      rw other (rest ∙ ap (λ (p : List ℕ). Some (pair_in (drop pair_size p))) n)

  -- no code of k is equal: nothing is found
  pub finds-none : (k : ℕ) (pairs : List ℕ) → ((i : ℕ) → i < k → part_of list (code_pairs_from pairs i) ≡ label → ⊥) → first_match list label k pairs ≡ no_match
  unfolding first_match
  finds-none zero pairs d = refl
  finds-none (suc k) pairs d =
      rw (unlike pairs (d 0 (suc-le-suc zero-le)))
      (finds-none k (drop code_size pairs) (λ j g q. d (suc j) (suc-le-suc g) (ap (λ (p : List ℕ). part_of list p) (sym (next pairs j)) ∙ q)))
