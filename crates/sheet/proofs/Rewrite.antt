-- An accepted sheet's description is written as its bytes: header, pairs, records and labels, each as it was read.
use Prim.Native.Nat.{ℕ, zero, suc, ◌+◌, ◌-◌, ◌*◌, ◌/◌, ◌%◌, ◌≤◌}
use mathlib.Core.Path.{◌≡◌, refl, sym, ap, ◌∙◌}
use mathlib.Core.Bool.{true, ◌&&◌}
use mathlib.Core.List.{List, [], ◌∷◌, ◌++◌, append_assoc}
use native.Mathlib.Omega.{arith}
use borrow.Author.Tests.{eqb-true, leb-true, le-leb, le-ltb}
use lib.Dec.{eqb}
use lib.ListN.{length, take, drop, replicate, length-take, length-drop, take-append-drop}
use lib.Seq.{take-add, take_at, drop-drop, drop-length}
use Rattle.steps.specs.Times.{max_entries}
use Rattle.tween.specs.LoopMode.{loop_of}
use Rattle.label.specs.Label.{max_label, text, label_of}
use Rattle.label.proofs.Text.{text-whole}
use Rattle.words.specs.Words.{byte_at, word, bytes_of}
use Rattle.words.specs.Pairs.{pair_size, offset_in, length_in, part_of, pairs_in_turn}
use Rattle.sheet_rules.specs.Rules.{header_size, record_size, label_fits, labels_at, placement_good, zeros_good}
use Rattle.sheet_format.specs.Check.{records_at, count_in, pairs_number, kind_in, target_in, seconds_in, record_number, records_number}
use Rattle.sheet_format.specs.Descriptions.{blank_item, items_in, item_of, items_from, sheet_items, description_in}
use Rattle.sheet_format.specs.Write.{header_bytes, text_length, pair_of, pairs_of, record_of, records_of, texts_of, sheet_of, labels_good, targets_good, describe_number}
use Rattle.sheet_rules.specs.Placements.{target_good}
use Rattle.words.proofs.Bytes.{Bytes, bytes_drop, bytes_word}
use Rattle.refusal.proofs.Checks.{passed_good, in_turn_lem}
use Rattle.words.proofs.InTurn.{ends, front}
use Rattle.sheet_format.proofs.Accepted.{Accepted}
use Rattle.std.proofs.lemmas.Bool.{and_parts}
use Rattle.sheet_rules.proofs.Five.{loop_back, placement_back}

-- the first four bytes
four : (s : List ℕ) → 4 ≤ length s → take 4 s ≡ byte_at s 0 ∷ byte_at s 1 ∷ byte_at s 2 ∷ byte_at s 3 ∷ []
four [] h = absurd (omega arith)
four (a ∷ []) h = absurd (omega arith)
four (a ∷ b ∷ []) h = absurd (omega arith)
four (a ∷ b ∷ c ∷ []) h = absurd (omega arith)
four (a ∷ b ∷ c ∷ d ∷ s) h = refl

-- four bytes and two words, written as they were read
twelve : (s : List ℕ) (n a b : ℕ) → 12 ≤ length s → Bytes s → byte_at s 1 ≡ n → byte_at s 2 ≡ a → byte_at s 3 ≡ b
    → (byte_at s 0 ∷ n ∷ a ∷ b ∷ []) ++ (bytes_of 4 (word 4 (drop 4 s)) ++ bytes_of 4 (word 4 (drop 8 s))) ≡ take 12 s
twelve s n a b h y d e f =
    let l = length-drop 4 s in
    let m = length-drop 8 s in
    let p = bytes_word 4 (drop 4 s) (omega arith) (bytes_drop 4 s y) in
    let q = bytes_word 4 (drop 8 s) (omega arith) (bytes_drop 8 s y) in
    let g : drop 8 s ≡ drop 4 (drop 4 s) = sym (drop-drop 4 4 s) in
    let front : (byte_at s 0 ∷ n ∷ a ∷ b ∷ []) ≡ take 4 s = rw (← d, ← e, ← f) (sym (four s (omega arith))) in
    ap (λ (l : List ℕ). l ++ (bytes_of 4 (word 4 (drop 4 s)) ++ bytes_of 4 (word 4 (drop 8 s)))) front
    ∙ rw (p, q, g, ← take-add 4 4 (drop 4 s)) (sym (take-add 4 8 s))

-- ---- the items of a sheet

module _ (s : List ℕ) where
  pub length-itemsFrom : (k : ℕ) (pairs records : List ℕ) → length (items_from s k pairs records) ≡ k
  unfolding items_from
  length-itemsFrom zero pairs records = refl
  length-itemsFrom (suc k) pairs records = ap suc (length-itemsFrom k (drop pair_size pairs) (drop record_size records))

  -- what a pair in its place says of the text
  pub record Placed (place k : ℕ) (pairs records : List ℕ) : Type 0 where
    pub offset : offset_in pairs ≡ place
    pub next : pairs_number (length s) (place + length_in pairs) k (drop pair_size pairs) ≡ 0
    pub texts : text (item_of s pairs records).label ≡ take (length_in pairs) (drop place s)
    pub size : text_length (item_of s pairs records) ≡ length_in pairs

  placed : (place k : ℕ) (pairs records : List ℕ) → pairs_number (length s) place (suc k) pairs ≡ 0 → Placed place k pairs records
  placed place k pairs records e =
      let f = front label_fits 10 6 (length s) place k pairs e in
      let h = ends label_fits 10 6 (length s) (place + length_in pairs) k (drop pair_size pairs) f.rest in
      let short = leb-true (length_in pairs) max_label f.short in
      let l = length-take (length_in pairs) (drop place s) in
      let m = length-drop place s in
      let n : length (take (length_in pairs) (drop place s)) ≡ length_in pairs = omega arith in
      let t : text (label_of (part_of s pairs)) ≡ take (length_in pairs) (drop place s) = rw f.starts (text-whole (take (length_in pairs) (drop place s)) (omega arith)) in
      record { offset = f.starts; next = f.rest; texts = t; size = ap length t ∙ n }

  -- ---- each part, written as it was read

  pub pairs-back : (place k : ℕ) (pairs records : List ℕ) → pair_size * k ≤ length pairs → Bytes pairs → pairs_number (length s) place k pairs ≡ 0
      → pairs_of place (items_from s k pairs records) ++ drop (pair_size * k) pairs ≡ pairs
  unfolding pairs_of items_from
  pairs-back place zero pairs records h y e = refl
  pairs-back place (suc k) pairs records h y e =
      let p = placed place k pairs records e in
      let l = length-drop 4 pairs in
      let m = length-drop 2 pairs in
      let a = bytes_word 2 pairs (omega arith) y in
      let b = bytes_word 2 (drop 2 pairs) (omega arith) (bytes_drop 2 pairs y) in
      let rest = pairs-back (place + length_in pairs) k (drop pair_size pairs) (drop record_size records) (omega arith) (bytes_drop 4 pairs y) p.next in
      let n : pair_size * suc k ≡ pair_size + pair_size * k = omega arith in
      let front : pair_of place (length_in pairs) ≡ take 4 pairs = rw (← p.offset, a, b, ← take-add 2 2 pairs) in
      rw (p.size, front, append_assoc, n, ← drop-drop (pair_size * k) pair_size pairs, rest) (take-append-drop 4 pairs)

  pub texts-back : (place k : ℕ) (pairs records : List ℕ) → pairs_number (length s) place k pairs ≡ 0 → texts_of (items_from s k pairs records) ≡ drop place s
  unfolding texts_of items_from pairs_in_turn
  texts-back place zero pairs records e = rw (eqb-true place (length s) (passed_good _ 6 _ e).0) (sym (drop-length s))
  texts-back place (suc k) pairs records e =
      let p = placed place k pairs records e in
      let rest = texts-back (place + length_in pairs) k (drop pair_size pairs) (drop record_size records) p.next in
      rw (p.texts, rest, ← drop-drop (length_in pairs) place s) (take-append-drop (length_in pairs) (drop place s))

  module _ (n : ℕ) where
    -- a record, written as it was read, whose target is good
    pub record RecordBack (pairs records : List ℕ) : Type 0 where
      pub same : record_of (item_of s pairs records) ≡ take 12 records
      pub good : target_good n (item_of s pairs records).at ≡ true

    record-back : (pairs records : List ℕ) → record_size ≤ length records → Bytes records → record_number n records ≡ 0 → RecordBack pairs records
    unfolding record_number record_of
    record-back pairs records h y e =
        let p = passed_good (placement_good n (kind_in records) (target_in records)) 9 _ e in
        let z = passed_good (zeros_good (kind_in records) (byte_at records 2) (byte_at records 3) (seconds_in records)) 11 _ p.1 in
        let a = and_parts (eqb (byte_at records 2) 0 && eqb (byte_at records 3) 0) _ z.0 in
        let b = and_parts (eqb (byte_at records 2) 0) (eqb (byte_at records 3) 0) a.0 in
        let r = placement_back n (kind_in records) (target_in records) (seconds_in records) p.0 a.1 in
        record {
          same = rw (r.kind-same, r.target-same, r.seconds-same) (twelve records (byte_at records 1) 0 0 h y refl (eqb-true _ _ b.0) (eqb-true _ _ b.1));
          good = r.good;
        }

    pub records-back : (k : ℕ) (pairs records : List ℕ) → record_size * k ≤ length records → Bytes records → records_number n k records ≡ 0
        → records_of (items_from s k pairs records) ++ drop (record_size * k) records ≡ records
    unfolding records_of items_from records_number
    records-back zero pairs records h y e = refl
    records-back (suc k) pairs records h y e =
        let t = in_turn_lem (record_number n records) (records_number n k (drop record_size records)) e in
        let r = record-back pairs records (omega arith) y t.0 in
        let l = length-drop 12 records in
        let rest = records-back k (drop pair_size pairs) (drop record_size records) (omega arith) (bytes_drop 12 records y) t.1 in
        let m : record_size * suc k ≡ record_size + record_size * k = omega arith in
        rw (r.same, append_assoc, m, ← drop-drop (record_size * k) record_size records, rest) (take-append-drop 12 records)

    pub targets-good : (k : ℕ) (pairs records : List ℕ) → record_size * k ≤ length records → Bytes records → records_number n k records ≡ 0
        → targets_good n (items_from s k pairs records) ≡ true
    unfolding targets_good items_from records_number
    targets-good zero pairs records h y e = refl
    targets-good (suc k) pairs records h y e =
        let t = in_turn_lem (record_number n records) (records_number n k (drop record_size records)) e in
        let r = record-back pairs records (omega arith) y t.0 in
        let l = length-drop 12 records in
        rw r.good (targets-good k (drop pair_size pairs) (drop record_size records) (omega arith) (bytes_drop 12 records y) t.1)

  pub labels-good : (k : ℕ) (pairs records : List ℕ) → labels_good (items_from s k pairs records) ≡ true
  unfolding labels_good items_from
  labels-good zero pairs records = refl
  labels-good (suc k) pairs records =
      let l = length-take max_label (part_of s pairs) in
      rw (le-leb (length (take max_label (part_of s pairs))) max_label (omega arith)) (labels-good k (drop pair_size pairs) (drop record_size records))

-- ---- the whole sheet

-- what is described: the count, and the entries
module _ (s : List ℕ) where
  pub count_same : (description_in s).count ≡ count_in s
  unfolding description_in
  count_same = refl

  pub items-same : items_in (description_in s) ≡ sheet_items s
  unfolding description_in
  items-same = take_at (sheet_items s) (replicate (max_entries - count_in s) blank_item) (count_in s) (length-itemsFrom s (count_in s) (drop header_size s) (drop (records_at (count_in s)) s))

module _ (s : List ℕ) (y : Bytes s) (a : Accepted s) where
  header-same : header_bytes (count_in s) (loop_of (byte_at s 2) (word 4 (drop 4 s))) (word 4 (drop 8 s)) ≡ take 12 s
  unfolding header_bytes
  header-same =
      let h = a.header in
      let l = loop_back (byte_at s 2) (word 4 (drop 4 s)) h.looping in
      let low : byte_at s 1 ≡ count_in s % 256 = omega (arith, y 1) in
      let high : byte_at s 3 ≡ count_in s / 256 = omega (arith, y 1) in
      rw (l.mode-same, l.number_same) (rw h.version at (twelve s (count_in s % 256) (byte_at s 2) (count_in s / 256) h.long y low refl high))

  pub sheet-same : sheet_of (description_in s) ≡ s
  unfolding sheet_of description_in
  sheet-same =
      let k = count_in s in
      let h = a.header in
      let ps = drop header_size s in
      let rs = drop (records_at k) s in
      let lp = length-drop header_size s in
      let lr = length-drop (records_at k) s in
      let p = pairs-back s (labels_at k) k ps rs (omega arith) (bytes_drop header_size s y) a.pairs in
      let r = records-back s k k ps rs (omega arith) (bytes_drop (records_at k) s y) a.records in
      let t = texts-back s (labels_at k) k ps rs a.pairs in
      let e : records_at k + record_size * k ≡ labels_at k = omega arith in
      let d : drop (record_size * k) rs ≡ drop (labels_at k) s = drop-drop (record_size * k) (records_at k) s ∙ ap (λ (m : ℕ). drop m s) e in
      let f : records_of (sheet_items s) ++ texts_of (sheet_items s) ≡ rs = rw (t, ← d) r in
      let g : drop (pair_size * k) ps ≡ rs = drop-drop (pair_size * k) header_size s in
      let q = rw g at p in
      rw (items-same s, header-same, f, q) (take-append-drop 12 s)

  pub described-good : describe_number (description_in s) ≡ 0
  unfolding describe_number description_in labels_good targets_good
  described-good =
      let h = a.header in
      let lr = length-drop (records_at (count_in s)) s in
      let t = targets-good s (count_in s) (count_in s) (drop header_size s) (drop (records_at (count_in s)) s) (omega arith) (bytes_drop (records_at (count_in s)) s y) a.records in
      rw (count_same s, le-ltb max_entries (count_in s) h.few, items-same s, labels-good s (count_in s) (drop header_size s) (drop (records_at (count_in s)) s), t)
