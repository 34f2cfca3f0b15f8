-- The sheet that a description is written as is accepted, and says that description.
use Prim.Native.Nat.{ℕ, zero, suc, ◌+◌, ◌*◌, ◌≤◌, ◌<◌}
use mathlib.Core.Path.{◌≡◌, refl, sym, ap, ◌∙◌}
use mathlib.Core.Bool.{true}
use mathlib.Core.List.{List, [], ◌∷◌, ◌++◌, append_assoc, map}
use native.Mathlib.Omega.{arith}
use borrow.Author.Tests.{leb-true, le-leb, le-ltb, eq-eqb}
use lib.Dec.{leb}
use lib.ListN.{length, take, drop, get_or, length-append, length-take}
use lib.Seq.{take_all, take-append_seam, drop_at, drop-drop}
use Rattle.tween.specs.LoopMode.{loop_of, mode_of, number_of}
use Rattle.label.specs.Label.{max_label, text}
use Rattle.sheet_format.specs.declared.description.Item.{Item}
use Rattle.sheet_format.specs.declared.description.Description.{Description}
use Rattle.words.specs.Words.{byte_at, word, bytes_of}
use Rattle.words.specs.Pairs.{pair_size, offset_in, length_in, part_of, pairs_in_turn}
use Rattle.sheet_rules.specs.Rules.{header_size, record_size, labels_at}
use Rattle.sheet_format.specs.Check.{records_at, count_in, header_number, pairs_number, kind_in, target_in, seconds_in, duration_in, record_number, records_number, check_number}
use Rattle.sheet_format.specs.Descriptions.{described_by, blank_item, items_in, item_of, items_from, sheet_items, description_in, clean_item, cleaned}
use Rattle.sheet_format.specs.Write.{header_bytes, text_length, pair_of, pairs_of, record_of, records_of, texts_of, sheet_of, labels_good, targets_good, describe_number, ReadsBack}
use Rattle.sheet_rules.specs.Placements.{kind_of, target_of, seconds_of, target_good}
use Rattle.words.proofs.Bytes.{length-bytes, word_bytes}
use Rattle.sheet_format.proofs.Accepted.{Header, Accepted}
use Rattle.std.proofs.lemmas.Bool.{and_parts}
use Rattle.sheet_format.proofs.Turns.{length-pair, length-record, length_pairs, length-records}
use Rattle.sheet_format.proofs.Sheets.{Good, described, length-header, length-items, length-sheet}
use Rattle.sheet_format.proofs.Typed.{TypedItem, Typed, blank-typed}
use Rattle.sheet_rules.proofs.Five.{loop_same, loop_good_lem, placement_same, placement_good_lem, zeros_good_lem}

-- ---- what the checks ask, they accept

header-accepts : (s : List ℕ) → Header s → header_number s ≡ 0
unfolding header_number
header-accepts s h =
    rw
    (le-ltb _ _ h.long, eq-eqb _ _ h.version, le-ltb _ _ h.few, h.looping, le-ltb _ _ h.room)

pub check_accepts : (s : List ℕ) → Accepted s → check_number s ≡ 0
unfolding check_number
check_accepts s a = rw (header-accepts s a.header, a.pairs, a.records)

-- ---- a pair and a record at the front

record PairFront (offset len : ℕ) (pairs rest : List ℕ) : Type 0 where
  starts : offset_in pairs ≡ offset
  size : length_in pairs ≡ len
  next : drop pair_size pairs ≡ rest

pair-front : (offset len : ℕ) (rest : List ℕ) → offset < 65536 → len < 65536 → PairFront offset len (pair_of offset len ++ rest) rest
pair-front offset len rest h k =
    let e = append_assoc (bytes_of 2 offset) (bytes_of 2 len) rest in
    record {
      starts = rw e (word_bytes 2 offset (bytes_of 2 len ++ rest) h);
      size = rw (e, drop_at (bytes_of 2 offset) (bytes_of 2 len ++ rest) 2 (length-bytes 2 offset)) (word_bytes 2 len rest k);
      next = drop_at (pair_of offset len) rest 4 (length-pair offset len);
    }

record RecordFront (x : Item) (records rest : List ℕ) : Type 0 where
  kind : kind_in records ≡ kind_of x.at
  target : target_in records ≡ target_of x.at
  first : byte_at records 2 ≡ 0
  second : byte_at records 3 ≡ 0
  seconds : seconds_in records ≡ seconds_of x.at
  duration : duration_in records ≡ x.duration
  next : drop record_size records ≡ rest

record_front : (x : Item) (rest : List ℕ) → TypedItem x → RecordFront x (record_of x ++ rest) rest
unfolding record_of
record_front x rest t =
    let a = bytes_of 4 (seconds_of x.at) in
    let b = bytes_of 4 x.duration in
    let e = append_assoc a b rest in
    record {
      kind = refl;
      target = refl;
      first = refl;
      second = refl;
      seconds = rw e (word_bytes 4 (seconds_of x.at) (b ++ rest) t.seconds);
      duration = rw (e, drop_at a (b ++ rest) 4 (length-bytes 4 (seconds_of x.at))) (word_bytes 4 x.duration rest t.duration);
      next = drop_at (record_of x) rest 12 (length-record x);
    }

-- ---- in turn

pairs_step : (len offset k size : ℕ) (pairs rest : List ℕ) → PairFront offset size pairs rest → size ≤ max_label → pairs_number len offset (suc k) pairs ≡ pairs_number len (offset + size) k rest
unfolding pairs_in_turn
pairs_step len offset k size pairs rest f h = rw (f.starts, f.size, f.next, eq-eqb offset offset refl, le-leb size max_label h)

records_step : (n k : ℕ) (x : Item) (records rest : List ℕ) → RecordFront x records rest → target_good n x.at ≡ true → records_number n (suc k) records ≡ records_number n k rest
unfolding records_number record_number
records_step n k x records rest f g =
    rw (f.kind, f.target, f.first, f.second, f.seconds, f.next, placement_good_lem n x.at g, zeros_good_lem x.at)

-- a label that is good has a short text
short : (x : Item) → leb x.label.len max_label ≡ true → text_length x ≤ max_label
short x g = omega (arith, length-take x.label.len x.label.bytes, leb-true x.label.len max_label g)

pub texts-short : (xs : List Item) → labels_good xs ≡ true → length (texts_of xs) ≤ 24 * length xs
unfolding labels_good texts_of
texts-short [] g = omega arith
texts-short (x ∷ xs) g =
    let a = and_parts (leb x.label.len max_label) (labels_good xs) g in
    let h = short x a.0 in
    let rest = texts-short xs a.1 in
    omega (arith, length-append (text x.label) (texts_of xs))

pairs_last : (len offset : ℕ) (pairs : List ℕ) → offset ≡ len → pairs_number len offset 0 pairs ≡ 0
unfolding pairs_in_turn
pairs_last len offset pairs e = rw (eq-eqb offset len e)

pairs_accepted : (len offset : ℕ) (xs : List Item) (rest : List ℕ) → labels_good xs ≡ true → offset + length (texts_of xs) ≡ len → len < 65536
    → pairs_number len offset (length xs) (pairs_of offset xs ++ rest) ≡ 0
unfolding pairs_of labels_good texts_of
pairs_accepted len offset [] rest g e h = pairs_last len offset rest (omega arith)
pairs_accepted len offset (x ∷ xs) rest g e h =
    let a = and_parts (leb x.label.len max_label) (labels_good xs) g in
    let m = short x a.0 in
    let l = length-append (text x.label) (texts_of xs) in
    let more = pairs_of (offset + text_length x) xs in
    rw (append_assoc (pair_of offset (text_length x)) more rest)
    (pairs_step len offset (length xs) (text_length x) _ _ (pair-front offset (text_length x) (more ++ rest) (omega arith) (omega arith)) m
    ∙ pairs_accepted len (offset + text_length x) xs rest a.1 (omega arith) h)

-- the entries fit their types
Each : List Item → Type 0
Each xs = (i : ℕ) → TypedItem (get_or xs i blank_item)

-- the first n fit too; past them all is blank
each_live : (n : ℕ) (xs : List Item) → Each xs → Each (take n xs)
unfolding Each
each_live zero xs t i = blank-typed
each_live (suc n) [] t i = t i
each_live (suc n) (x ∷ xs) t zero = t 0
each_live (suc n) (x ∷ xs) t (suc i) = each_live n xs (λ j. t (suc j)) i

records_last : (n : ℕ) (records : List ℕ) → records_number n 0 records ≡ 0
unfolding records_number
records_last n records = refl

records_accepted : (n : ℕ) (xs : List Item) (rest : List ℕ) → Each xs → targets_good n xs ≡ true → records_number n (length xs) (records_of xs ++ rest) ≡ 0
unfolding records_of targets_good Each
records_accepted n [] rest t g = records_last n rest
records_accepted n (x ∷ xs) rest t g =
    let a = and_parts (target_good n x.at) (targets_good n xs) g in
    rw (append_assoc (record_of x) (records_of xs) rest)
    (records_step n (length xs) x _ _ (record_front x (records_of xs ++ rest) (t 0)) a.0 ∙ records_accepted n xs rest (λ i. t (suc i)) a.1)

-- ---- what is read

item_same : (s : List ℕ) (offset : ℕ) (x : Item) (pairs records more ps rs : List ℕ) → PairFront offset (text_length x) pairs ps → RecordFront x records rs
    → drop offset s ≡ text x.label ++ more → text_length x ≤ max_label → item_of s pairs records ≡ clean_item x
item_same s offset x pairs records more ps rs f g d h =
    let p : part_of s pairs ≡ text x.label = rw (f.starts, f.size, d) (take-append_seam (text x.label) more) in
    let q : take max_label (part_of s pairs) ≡ text x.label = rw p (take_all max_label (text x.label) h) in
    rw (g.duration, g.kind, g.target, g.seconds, placement_same x.at, q)

items_step : (s : List ℕ) (k : ℕ) (x : Item) (pairs records ps rs : List ℕ) → item_of s pairs records ≡ x → drop pair_size pairs ≡ ps → drop record_size records ≡ rs
    → items_from s (suc k) pairs records ≡ x ∷ items_from s k ps rs
unfolding items_from
items_step s k x pairs records ps rs e f g = ap (λ (y : Item). y ∷ items_from s k (drop pair_size pairs) (drop record_size records)) e ∙ rw (f, g)

items_last : (s pairs records : List ℕ) → items_from s 0 pairs records ≡ []
unfolding items_from
items_last s pairs records = refl

items_read : (s : List ℕ) (offset : ℕ) (xs : List Item) (a b : List ℕ) → Each xs → labels_good xs ≡ true → drop offset s ≡ texts_of xs → offset + length (texts_of xs) < 65536
    → items_from s (length xs) (pairs_of offset xs ++ a) (records_of xs ++ b) ≡ map clean_item xs
unfolding pairs_of records_of texts_of labels_good Each
items_read s offset [] a b t g d h = items_last s a b
items_read s offset (x ∷ xs) a b t g d h =
    let u = and_parts (leb x.label.len max_label) (labels_good xs) g in
    let m = short x u.0 in
    let l = length-append (text x.label) (texts_of xs) in
    let pairs = pairs_of (offset + text_length x) xs in
    let p = pair-front offset (text_length x) (pairs ++ a) (omega arith) (omega arith) in
    let r = record_front x (records_of xs ++ b) (t 0) in
    let e : drop (offset + text_length x) s ≡ texts_of xs = sym (drop-drop (text_length x) offset s) ∙ ap (drop (text_length x)) d ∙ drop_at (text x.label) (texts_of xs) (text_length x) refl in
    rw (append_assoc (pair_of offset (text_length x)) pairs a, append_assoc (record_of x) (records_of xs) b)
    (items_step s (length xs) (clean_item x) _ _ _ _ (item_same s offset x _ _ (texts_of xs) _ _ p r d m) p.next r.next
    ∙ ap (λ (ys : List Item). clean_item x ∷ ys) (items_read s (offset + text_length x) xs a b (λ i. t (suc i)) u.1 e (omega arith)))

described_as : (s : List ℕ) (d : Description) → sheet_items s ≡ map clean_item (items_in d) → loop_of (byte_at s 2) (word 4 (drop 4 s)) ≡ d.looping → word 4 (drop 8 s) ≡ d.time_scale
    → count_in s ≡ d.count → description_in s ≡ cleaned d
unfolding description_in cleaned
described_as s d e f g h = rw (e, f, g, h)

-- ---- the whole sheet

module _ (d : Description) (t : Typed d) (z : describe_number d ≡ 0) where
  good : Good d
  good = described d z

  live : length (items_in d) ≡ d.count
  live = length-items d t.slots good.few

  each : Each (items_in d)
  unfolding Each
  each i = each_live d.count d.items t.each i

  from-header : drop header_size (sheet_of d) ≡ pairs_of (labels_at d.count) (items_in d) ++ (records_of (items_in d) ++ texts_of (items_in d))
  unfolding sheet_of
  from-header = drop_at (header_bytes d.count d.looping d.time_scale) _ 12 (length-header d.count d.looping d.time_scale)

  from-pairs : drop (records_at d.count) (sheet_of d) ≡ records_of (items_in d) ++ texts_of (items_in d)
  from-pairs =
      let l = length_pairs (labels_at d.count) (items_in d) in
      sym (drop-drop (pair_size * d.count) header_size (sheet_of d)) ∙ ap (drop (pair_size * d.count)) from-header
      ∙ drop_at (pairs_of (labels_at d.count) (items_in d)) _ (pair_size * d.count) (l ∙ rw live)

  from-records : drop (labels_at d.count) (sheet_of d) ≡ texts_of (items_in d)
  from-records =
      let l = length-records (items_in d) in
      let e : labels_at d.count ≡ records_at d.count + record_size * d.count = omega arith in
      ap (λ (m : ℕ). drop m (sheet_of d)) e ∙ sym (drop-drop (record_size * d.count) (records_at d.count) (sheet_of d)) ∙ ap (drop (record_size * d.count)) from-pairs
      ∙ drop_at (records_of (items_in d)) _ (record_size * d.count) (l ∙ rw live)

  version-said : byte_at (sheet_of d) 0 ≡ 1
  unfolding sheet_of header_bytes
  version-said = refl

  count-said : count_in (sheet_of d) ≡ d.count
  unfolding sheet_of header_bytes
  count-said = omega arith

  mode-said : byte_at (sheet_of d) 2 ≡ mode_of d.looping
  unfolding sheet_of header_bytes
  mode-said = refl

  number-said : word 4 (drop 4 (sheet_of d)) ≡ number_of d.looping
  unfolding sheet_of header_bytes
  number-said =
      rw (append_assoc (bytes_of 4 (number_of d.looping)) (bytes_of 4 d.time_scale) (pairs_of (labels_at d.count) (items_in d) ++ (records_of (items_in d) ++ texts_of (items_in d))))
      (word_bytes 4 (number_of d.looping) _ t.number)

  scale-said : word 4 (drop 8 (sheet_of d)) ≡ d.time_scale
  unfolding sheet_of header_bytes
  scale-said =
      let rest = pairs_of (labels_at d.count) (items_in d) ++ (records_of (items_in d) ++ texts_of (items_in d)) in
      rw (append_assoc (bytes_of 4 (number_of d.looping)) (bytes_of 4 d.time_scale) rest, drop_at (bytes_of 4 (number_of d.looping)) (bytes_of 4 d.time_scale ++ rest) 4 (length-bytes 4 (number_of d.looping)))
      (word_bytes 4 d.time_scale rest t.scale)

  header : Header (sheet_of d)
  header =
      let l = length-sheet d live in
      let g = good in
      record {
        long = omega arith;
        version = version-said;
        few = rw count-said g.few;
        looping = rw (mode-said, number-said) (loop_good_lem d.looping);
        room = rw count-said (omega arith);
      }

  pub accepts : Accepted (sheet_of d)
  accepts =
      let l = length-sheet d live in
      let g = good in
      let m = texts-short (items_in d) g.labels in
      let n = live in
      let p = pairs_accepted (length (sheet_of d)) (labels_at d.count) (items_in d) (records_of (items_in d) ++ texts_of (items_in d)) g.labels (sym l) (omega (arith, g.few)) in
      let r = records_accepted d.count (items_in d) (texts_of (items_in d)) each g.targets in
      record {
        header = header;
        pairs = rw (count-said, from-header) (rw n at p);
        records = rw (count-said, from-pairs) (rw n at r);
      }

  pub says : description_in (sheet_of d) ≡ cleaned d
  says =
      let g = good in
      let n = live in
      let m = texts-short (items_in d) g.labels in
      let i = items_read (sheet_of d) (labels_at d.count) (items_in d) (records_of (items_in d) ++ texts_of (items_in d)) (texts_of (items_in d)) each g.labels from-records (omega (arith, g.few)) in
      described_as (sheet_of d) d (rw (count-said, from-header, from-pairs) (rw n at i)) (rw (mode-said, number-said) (loop_same d.looping)) scale-said count-said

-- ---- what the writer leaves

-- an accepted sheet's answer
described_accepts : (s : List ℕ) (x : Description) → check_number s ≡ 0 → description_in s ≡ x → described_by s ≡ record { refusal = 0; description = x }
unfolding described_by
described_accepts s x e f = rw (e, f)

-- the sheet at the front of a room reads back
pub reads_back : (d : Description) → Typed d → describe_number d ≡ 0 → (rest : List ℕ) → ReadsBack d (record { refusal = 0; len = length (sheet_of d) }) (sheet_of d ++ rest)
reads_back d t z rest e =
    rw (take-append_seam (sheet_of d) rest)
    (described_accepts (sheet_of d) _ (check_accepts (sheet_of d) (accepts d t z)) (says d t z))
