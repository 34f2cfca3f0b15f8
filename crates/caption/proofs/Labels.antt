-- An entry's label, as the sheet's reader describes it.
use Prim.Native.Nat.{ℕ, zero, suc, ◌*◌, ◌≤◌, ◌<◌}
use mathlib.Core.Path.{◌≡◌, sym, ap, ◌∙◌}
use mathlib.Core.List.{List}
use native.Mathlib.Nat.{not-suc-le-zero, le_of_suc-le-suc}
use native.Mathlib.Omega.{arith}
use borrow.Author.Tests.{leb-true}
use lib.ListN.{length, drop, get_or, length-take}
use lib.Seq.{drop-drop}
use Rattle.refusal.specs.Refusal.{accepted}
use Rattle.label.specs.Label.{max_label, text}
use Rattle.label.proofs.Text.{text-whole}
use Rattle.words.specs.Pairs.{pair_size, offset_in, length_in, part_of}
use Rattle.words.proofs.InTurn.{next, fits-at}
use Rattle.sheet_rules.specs.Rules.{header_size, record_size, label_fits, labels_at}
use Rattle.sheet_format.specs.Check.{records_at, count_in, check_number}
use Rattle.sheet_format.specs.Descriptions.{blank_item, items_from, sheet_items}
use Rattle.sheet_format.proofs.Accepted.{accepted-sheet}
use Rattle.caption.specs.Captions.{label_in}

-- the label of item i of k is the text of pair i
label_at : (s : List ℕ) (k : ℕ) (pairs records : List ℕ) (i : ℕ) → i < k → length_in (drop (pair_size * i) pairs) ≤ max_label
    → text (get_or (items_from s k pairs records) i blank_item).label ≡ part_of s (drop (pair_size * i) pairs)
unfolding items_from
label_at s zero pairs records i h m = absurd (not-suc-le-zero h)
label_at s (suc k) pairs records zero h m = text-whole (part_of s pairs) (omega (arith, length-take (length_in pairs) (drop (offset_in pairs) s)))
label_at s (suc k) pairs records (suc i) h m =
    rw (← next pairs i) (label_at s k (drop pair_size pairs) (drop record_size records) i (le_of_suc-le-suc h) (rw (next pairs i) m))

pub label_of_lem : (sheet : List ℕ) (entry : ℕ) → check_number sheet ≡ accepted → entry < count_in sheet → label_in sheet entry ≡ text (get_or (sheet_items sheet) entry blank_item).label
label_of_lem sheet entry ok h =
    let s = accepted-sheet sheet ok in
    let fits = leb-true _ _ (fits-at label_fits 10 6 (length sheet) (labels_at (count_in sheet)) (count_in sheet) (drop header_size sheet) s.pairs entry h) in
    sym (label_at sheet (count_in sheet) (drop header_size sheet) (drop (records_at (count_in sheet)) sheet) entry h fits ∙ ap (λ (p : List ℕ). part_of sheet p) (drop-drop (pair_size * entry) header_size sheet))
