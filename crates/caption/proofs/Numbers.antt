-- The number of a caption, by each check, and what the caption then is.
use Prim.Native.Nat.{ℕ, ◌<◌, ◌≤◌}
use mathlib.Core.Path.{◌≡◌, refl, sym, ap, ◌∙◌}
use mathlib.Core.Bool.{Bool, true, false}
use mathlib.Core.List.{List}
use native.Mathlib.Omega.{arith}
use borrow.Author.Tests.{ne_eqb, eqb-false, lt-ltb, le-ltb}
use lib.Dec.{eqb}
use Rattle.refusal.specs.Refusal.{accepted, bad_caption, in_turn, number, number_in}
use Rattle.refusal.proofs.Numbers.{number-not}
use Rattle.words.specs.declared.Pair.{Pair}
use Rattle.words.specs.Pairs.{pair_in}
use Rattle.sheet_format.specs.Check.{count_in, check_number}
use Rattle.std.specs.Prelude.{Option, Result, Ok, Err}
use Rattle.refusal.specs.declared.Refusal.{Refusal}
use Rattle.caption.specs.Captions.{looked_up, codes_in, pairs_in, list_number, first_match, label_pair, label_in, caption_number, refused_caption, shown_by, caption_of}
use Rattle.caption.proofs.Turns.{list_number_lem, looked_number, looked_first}

module _ (list sheet : List ℕ) (entry : ℕ) where
  -- a number other than 0 refuses
  pub refused-by : (number : ℕ) → caption_number list sheet entry ≡ number → (number ≡ accepted → ⊥) → refused_caption number ≡ caption_of list sheet entry
  unfolding caption_of
  refused-by number e d = rw (e, ne_eqb number accepted d)

  pub accepted-by : caption_number list sheet entry ≡ accepted → shown_by (first_match list (label_in sheet entry) (codes_in list) (pairs_in list)) (pair_in (label_pair sheet entry)) ≡ caption_of list sheet entry
  unfolding caption_of
  accepted-by e = rw e

  -- the sheet is refused
  pub sheet-bad : (check_number sheet ≡ accepted → ⊥) → caption_number list sheet entry ≡ check_number sheet
  unfolding caption_number
  sheet-bad d = rw (ne_eqb (check_number sheet) accepted d)

  -- the list is refused
  pub list-bad : check_number sheet ≡ accepted → (list_number list ≡ accepted → ⊥) → caption_number list sheet entry ≡ list_number list
  unfolding caption_number
  list-bad e d = rw (e, ne_eqb (list_number list) accepted d)

  -- the entry is not below the count, whatever the list
  pub entry-bad : check_number sheet ≡ accepted → count_in sheet ≤ entry → caption_number list sheet entry ≡ bad_caption
  unfolding caption_number
  entry-bad e h = rw (e, le-ltb entry (count_in sheet) h) (chosen (eqb (list_number list) accepted) refl)
    where
      chosen : (b : Bool) → eqb (list_number list) accepted ≡ b → in_turn (list_number list) bad_caption ≡ bad_caption
      chosen true t = rw t
      chosen false t = rw t (list_number_lem list (eqb-false _ _ t))

  -- all is well
  pub all-good : check_number sheet ≡ accepted → list_number list ≡ accepted → entry < count_in sheet → caption_number list sheet entry ≡ accepted
  unfolding caption_number
  all-good e f h = rw (e, f, lt-ltb entry (count_in sheet) h)

  -- ---- what the checks and the pass answered

  pub sheet-refuses : (r : Refusal) → number r ≡ check_number sheet → refused_caption (number r) ≡ caption_of list sheet entry
  sheet-refuses r e = refused-by (number r) (sheet-bad (λ h. number-not r (e ∙ h)) ∙ sym e) (number-not r)

  pub entry-refuses : check_number sheet ≡ accepted → count_in sheet ≤ entry → refused_caption bad_caption ≡ caption_of list sheet entry
  entry-refuses e h = refused-by bad_caption (entry-bad e h) (λ z. absurd (omega arith))

  module _ (label : List ℕ) (ok : check_number sheet ≡ accepted) where
    pub list-refuses : (r : Refusal) → Err r ≡ looked_up list label → refused_caption (number r) ≡ caption_of list sheet entry
    list-refuses r is =
        let n : number r ≡ list_number list = ap (λ (l : Result (Option Pair) Refusal). number_in l) is ∙ looked_number list label in
        refused-by (number r) (list-bad ok (λ h. number-not r (n ∙ h)) ∙ sym n) (number-not r)

    pub shown-by : (first : Option Pair) → Ok first ≡ looked_up list label → entry < count_in sheet → label ≡ label_in sheet entry → shown_by first (pair_in (label_pair sheet entry)) ≡ caption_of list sheet entry
    shown-by first is below names =
        let fine : list_number list ≡ accepted = sym (looked_number list label) ∙ ap (λ (l : Result (Option Pair) Refusal). number_in l) (sym is) in
        let found : Ok first ≡ Ok (first_match list label (codes_in list) (pairs_in list)) = is ∙ looked_first list label fine in
        let same : first ≡ first_match list label (codes_in list) (pairs_in list) = cc in
        ap (λ (m : Option Pair). shown_by m (pair_in (label_pair sheet entry))) (same ∙ ap (λ (l : List ℕ). first_match list l (codes_in list) (pairs_in list)) names) ∙ accepted-by (all-good ok fine below)
