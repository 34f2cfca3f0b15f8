-- Why what specs/Claim.antt says holds.
use Prim.Native.Nat.{ℕ, ◌+◌, ◌*◌, ◌≤◌, ◌<◌}
use mathlib.Core.Path.{◌≡◌, refl, sym, ap, ◌∙◌}
use mathlib.Core.Bool.{Bool, true, false}
use mathlib.Core.List.{List}
use native.Mathlib.Omega.{arith}
use borrow.Author.Tests.{ltb-true, eqb-true, eqb-false}
use lib.Dec.{eqb, ltb}
use lib.ListN.{length, drop}
use lib.Seq.{drop-drop}
use Rattle.refusal.specs.Refusal.{accepted}
use Rattle.words.specs.declared.Pair.{Pair}
use Rattle.words.specs.Pairs.{pair_size, pair_in, part_of, pairs_in_turn}
use Rattle.words.proofs.InTurn.{inside}
use Rattle.sheet_rules.specs.Rules.{header_size, label_fits, labels_at}
use Rattle.label.specs.Label.{same_text}
use Rattle.words.specs.Words.{word}
use Rattle.sheet_format.specs.Check.{count_in, header_number, record_number, records_number, check_number}
use Rattle.refusal.proofs.Checks.{passed_good, in_turn_lem}
use Rattle.sheet_format.proofs.Accepted.{accepted-sheet}
use Rattle.caption.specs.declared.finder.Source.TheVariants.{Sheet, List as Venue}
use Rattle.std.specs.Prelude.{Option, Some, None}
use Rattle.caption.specs.Captions.{Answer, codes_in, pairs_in, text_at, code_size, list_number, first_match, label_pair, label_in, caption_number, shown_from, shown_by, caption_of, named}
use Rattle.caption.specs.Cases.{Worked}
use Rattle.caption.specs.Claim.{code_pairs, code_at, First, Holds, Claim}
use Rattle.caption.proofs.Numbers.{accepted-by, refused-by}
use Rattle.caption.proofs.Inside.{Fits, match_inside}
use Rattle.caption.proofs.Labels.{label_of_lem}
use Rattle.caption.proofs.First.{code_pairs_from, finds, finds-none}

module _ (list sheet : List ℕ) (entry : ℕ) where
  -- what an accepted number says
  record Good : Type 0 where
    sheet-good : check_number sheet ≡ accepted
    list-good : list_number list ≡ accepted
    below : entry < count_in sheet

  good : caption_number list sheet entry ≡ accepted → Good
  unfolding caption_number
  good e =
      let a = in_turn_lem _ _ e in
      let b = in_turn_lem _ _ a.1 in
      record { sheet-good = a.0; list-good = b.0; below = ltb-true _ _ (passed_good (ltb entry (count_in sheet)) 15 _ b.1).0 }

  abbrev match : Option Pair
  match = first_match list (label_in sheet entry) (codes_in list) (pairs_in list)

  abbrev own : Pair
  own = pair_in (label_pair sheet entry)

  -- the pairs of a code, counted from the start of the list or of the pairs
  pairs_of : (k : ℕ) → code_pairs_from list (label_in sheet entry) (pairs_in list) k ≡ code_pairs list k
  pairs_of k = drop-drop (code_size * k) 2 list

  wins : caption_number list sheet entry ≡ accepted → (k : ℕ) → First list (label_in sheet entry) k → caption_of list sheet entry ≡ shown_from Venue (pair_in (drop pair_size (code_pairs list k)))
  wins e k f =
      let same : part_of list (code_pairs_from list (label_in sheet entry) (pairs_in list) k) ≡ label_in sheet entry = ap (λ (p : List ℕ). part_of list p) (pairs_of k) ∙ f.equal in
      let found = finds list (label_in sheet entry) (codes_in list) (pairs_in list) k f.below same (λ j h q. f.earliest j h (ap (λ (p : List ℕ). part_of list p) (sym (pairs_of j)) ∙ q)) in
      sym (accepted-by list sheet entry e) ∙ ap (λ (m : Option Pair). shown_by m own) found ∙ ap (λ (p : List ℕ). shown_from Venue (pair_in (drop pair_size p))) (pairs_of k)

  itself : caption_number list sheet entry ≡ accepted → ((k : ℕ) → k < codes_in list → code_at list k ≡ label_in sheet entry → ⊥) → caption_of list sheet entry ≡ shown_from Sheet own
  itself e d =
      let found = finds-none list (label_in sheet entry) (codes_in list) (pairs_in list) (λ k h q. d k h (ap (λ (p : List ℕ). part_of list p) (sym (pairs_of k)) ∙ q)) in
      sym (accepted-by list sheet entry e) ∙ ap (λ (m : Option Pair). shown_by m own) found

  -- a part that lies inside the slice that is named
  abbrev Inside : Answer → Type 0
  Inside c = c.at + c.len ≤ length (named c.source list sheet)

  label_fits_lem : Good → own.offset + own.len ≤ length sheet
  label_fits_lem g =
      let s = accepted-sheet sheet g.sheet-good in
      rw (← drop-drop (pair_size * entry) header_size sheet) (inside label_fits 10 6 (length sheet) (labels_at (count_in sheet)) (count_in sheet) (drop header_size sheet) s.pairs entry g.below)

  words-fit : Good → Fits (length list) match
  unfolding list_number
  words-fit g = match_inside list (label_in sheet entry) (length list) (text_at (codes_in list)) (codes_in list) (pairs_in list) g.list-good

  shown-fits : (m : Option Pair) → Fits (length list) m → Good → Inside (shown_by m own)
  shown-fits (Some words) f g = f
  shown-fits None f g = label_fits_lem g

  lies : (b : Bool) → eqb (caption_number list sheet entry) accepted ≡ b → Inside (caption_of list sheet entry)
  lies true e =
      let n = eqb-true _ _ e in
      rw (← accepted-by list sheet entry n) (shown-fits match (words-fit (good n)) (good n))
  lies false e = rw (← refused-by list sheet entry _ refl (eqb-false _ _ e)) (omega arith)

  holds : Holds list sheet entry
  holds =
      record {
        first = wins;
        own = λ e d. (itself e d, rw (itself e d));
        label = λ e. label_of_lem sheet entry (good e).sheet-good (good e).below;
        inside = lies (eqb (caption_number list sheet entry) accepted) refl;
        refused = λ d. (sym (refused-by list sheet entry _ refl d), rw (← refused-by list sheet entry _ refl d));
      }

worked : Worked
unfolding caption_of caption_number check_number header_number records_number record_number pairs_in_turn list_number first_match word same_text
worked =
    record {
      first = refl;
      label = refl;
      longer_code = refl;
      empty_code = refl;
      no_codes = refl;
      three_bytes = refl;
      one_byte = refl;
      nothing = refl;
      end = refl;
      entry = refl;
      sheet_first = refl;
      no_sheet = refl;
    }

pub claim : Claim
claim = record { holds = holds; worked = worked }
