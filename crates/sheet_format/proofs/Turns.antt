-- The definitions that go over entries in turn, at a turn of a loop over i of n.
use Prim.Native.Nat.{ℕ, zero, suc, ◌+◌, ◌-◌, ◌*◌, ◌≤◌, ◌<◌}
use mathlib.Core.Path.{◌≡◌, refl, sym}
use mathlib.Core.Bool.{true, false, cond, not}
use mathlib.Core.List.{List, [], ◌∷◌, ◌++◌}
use native.Mathlib.Nat.{not-suc-le-zero, le_of_suc-le-suc}
use native.Mathlib.Numerals.{add-one}
use native.Mathlib.Omega.{arith}
use borrow.Author.Tests.{ltb-true}
use Rattle.std.specs.Prelude.{sum_by}
use Rattle.std.specs.List.{list_all}
use Rattle.std.proofs.lemmas.List.Recursion.{is_sum_by}
use lib.Dec.{leb, eqb}
use lib.ListN.{length, drop, get_or, length-append, take, length-take, drop_of_length-le}
use lib.Seq.{drop-cons, drop-drop, get_or-take}
use Rattle.refusal.specs.declared.Refusal.{Refusal}
use Rattle.refusal.specs.Refusal.{accepted, number, sheet_length, sheet_pair}
use Rattle.refusal.proofs.Numbers.{refused}
use Rattle.steps.specs.Times.{max_entries}
use Rattle.label.specs.Label.{max_label, text, no_label}
use Rattle.sheet_rules.specs.declared.record.Placement.{Placement}
use Rattle.sheet_rules.specs.declared.record.Placement.TheVariants.{Absolute, Start, End, Label as Labeled, Offset}
use Rattle.sheet_format.specs.declared.description.Item.{Item}
use Rattle.words.specs.Pairs.{pair_size, length_in, pairs_in_turn}
use Rattle.sheet_rules.specs.Rules.{record_size}
use Rattle.sheet_format.specs.Check.{record_number, records_number, pair_good, pairs_number}
use Rattle.sheet_format.specs.Descriptions.{item_of, items_from}
use Rattle.sheet_format.specs.Write.{text_length, pair_of, pairs_of, record_of, records_of, texts_of, labels_good, targets_good}
use Rattle.sheet_rules.specs.Placements.{target_of, target_good}
use Rattle.words.proofs.Bytes.{length-bytes}
use Rattle.std.proofs.lemmas.Bool.{and_parts}

module _ (n i : ℕ) where
  -- one more turn is left, or none
  turn : i < n → n - i ≡ suc (n - (i + 1))
  turn h = omega arith

  done : n ≤ i → n - i ≡ 0
  done h = omega arith

  -- ---- the pairs

  module _ (len offset at : ℕ) (s : List ℕ) where
    pub pairs-bad : i < n → pair_good offset (drop at s) ≡ false → pairs_number len offset (n - i) (drop at s) ≡ sheet_pair
    unfolding pairs_in_turn
    pairs-bad h g = rw (turn h, g)

    pub pairs-more : i < n → pair_good offset (drop at s) ≡ true
        → pairs_number len offset (n - i) (drop at s) ≡ pairs_number len (offset + length_in (drop at s)) (n - (i + 1)) (drop (at + pair_size) s)
    unfolding pairs_in_turn
    pairs-more h g = rw (turn h, g, drop-drop pair_size at s)

    pub pairs_end : n ≤ i → pairs_number len offset (n - i) (drop at s) ≡ cond (not (eqb offset len)) sheet_length accepted
    unfolding pairs_in_turn
    pairs_end h = rw (done h)

  -- ---- the records

  module _ (count at : ℕ) (s : List ℕ) where
    pub records-bad : (r : Refusal) → i < n → number r ≡ record_number count (drop at s) → records_number count (n - i) (drop at s) ≡ number r
    unfolding records_number
    records-bad r h e = rw (turn h, ← e, refused r)

    pub records-more : (next : ℕ) → next ≡ at + record_size → i < n → accepted ≡ record_number count (drop at s) → records_number count (n - i) (drop at s) ≡ records_number count (n - (i + 1)) (drop next s)
    unfolding records_number
    records-more next e h g = rw (e, turn h, ← g, drop-drop record_size at s)

    pub records-end : n ≤ i → records_number count (n - i) (drop at s) ≡ accepted
    unfolding records_number
    records-end h = rw (done h)

  -- ---- the entries that are read

  pub items_more : (s : List ℕ) (pair at next_pair next : ℕ) → next_pair ≡ pair + pair_size → next ≡ at + record_size → i < n
      → items_from s (n - i) (drop pair s) (drop at s) ≡ item_of s (drop pair s) (drop at s) ∷ items_from s (n - (i + 1)) (drop next_pair s) (drop next s)
  unfolding items_from
  items_more s pair at next_pair next e f h = rw (e, f, turn h, drop-drop pair_size pair s, drop-drop record_size at s)

  pub items-end : (s pairs records : List ℕ) → n ≤ i → items_from s (n - i) pairs records ≡ []
  unfolding items_from
  items-end s pairs records h = rw (done h)

-- ---- the entries that are written, from i on

module _ (i : ℕ) (xs : List Item) (d : Item) (h : i < length xs) where
  -- at a turn one is in front
  pub item-cons : drop i xs ≡ get_or xs i d ∷ drop (i + 1) xs
  item-cons = rw (drop-cons xs i d h, add-one)

  pub pairs-live : (offset len : ℕ) → len ≡ text_length (get_or xs i d) → pairs_of offset (drop i xs) ≡ pair_of offset len ++ pairs_of (offset + len) (drop (i + 1) xs)
  unfolding pairs_of
  pairs-live offset len e = rw (item-cons, e)

  pub records-live : records_of (drop i xs) ≡ record_of (get_or xs i d) ++ records_of (drop (i + 1) xs)
  unfolding records_of
  records-live = rw item-cons

  pub texts-live : texts_of (drop i xs) ≡ text (get_or xs i d).label ++ texts_of (drop (i + 1) xs)
  unfolding texts_of
  texts-live = rw item-cons

  pub texts-count : (len : ℕ) → len ≡ text_length (get_or xs i d) → length (texts_of (drop i xs)) ≡ len + length (texts_of (drop (i + 1) xs))
  texts-count len e = rw (texts-live, e) (length-append (text (get_or xs i d).label) (texts_of (drop (i + 1) xs)))

-- ---- checks of the first n of an array, at a turn of a loop over i of n

-- what is read past the last entry
abbrev pub unread : Item
unread = record { duration = 0; at = Absolute 0; label = no_label }

-- after the last turn none is left
pub live_end : (n i : ℕ) (items : List Item) → n ≤ i → drop i (take n items) ≡ []
live_end n i items h =
    let l : length (take n items) ≤ i = omega (arith, length-take n items) in
    drop_of_length-le (take n items) l

module _ (n i : ℕ) (items : List Item) (d : Item) where
  -- at a turn one is in front
  pub live-cons : i < n → n ≤ length items → drop i (take n items) ≡ get_or items i d ∷ drop (i + 1) (take n items)
  live-cons h k =
      let l : i < length (take n items) = omega (arith, length-take n items) in
      rw (drop-cons (take n items) i d l, get_or-take n items i d h, add-one)

  pub labels-bad : i < n → n ≤ length items → leb (get_or items i d).label.len max_label ≡ false → labels_good (drop i (take n items)) ≡ false
  unfolding labels_good
  labels-bad h k g = rw (live-cons h k, g)

  pub labels-more : i < n → n ≤ length items → leb (get_or items i d).label.len max_label ≡ true → labels_good (drop i (take n items)) ≡ labels_good (drop (i + 1) (take n items))
  unfolding labels_good
  labels-more h k g = rw (live-cons h k, g)

  pub targets-bad : (m : ℕ) → i < n → n ≤ length items → target_good m (get_or items i d).at ≡ false → targets_good m (drop i (take n items)) ≡ false
  unfolding targets_good
  targets-bad m h k g = rw (live-cons h k, g)

  pub targets-more : (m : ℕ) → i < n → n ≤ length items → target_good m (get_or items i d).at ≡ true → targets_good m (drop i (take n items)) ≡ targets_good m (drop (i + 1) (take n items))
  unfolding targets_good
  targets-more m h k g = rw (live-cons h k, g)

-- nothing is left to check
pub labels_end : labels_good [] ≡ true
unfolding labels_good
labels_end = refl

pub targets_end : (m : ℕ) → targets_good m [] ≡ true
unfolding targets_good
targets_end m = refl

-- ---- checks and a sum over entries

pub labels-all : (xs : List Item) → list_all (λ (x : Item). leb x.label.len max_label) xs ≡ labels_good xs
unfolding labels_good
labels-all [] = refl
labels-all (x ∷ xs) = rw (labels-all xs)

pub targets-all : (n : ℕ) (xs : List Item) → list_all (λ (x : Item). target_good n x.at) xs ≡ targets_good n xs
unfolding targets_good
targets-all n [] = refl
targets-all n (x ∷ xs) = rw (targets-all n xs)

pub texts-sum : (xs : List Item) → sum_by text_length xs ≡ length (texts_of xs)
unfolding texts_of
texts-sum xs = sym (is_sum_by (λ (ys : List Item). length (texts_of ys)) text_length refl (λ x ys. length-append (text x.label) (texts_of ys)) xs)

-- nothing is left to write
pub pairs_none : (offset : ℕ) → pairs_of offset [] ≡ []
unfolding pairs_of
pairs_none offset = refl

pub records_none : records_of [] ≡ []
unfolding records_of
records_none = refl

pub texts-none : texts_of [] ≡ []
unfolding texts_of
texts-none = refl

-- ---- how long the parts are

pub length-record : (x : Item) → length (record_of x) ≡ record_size
unfolding record_of
length-record x = simp (length-append, length-bytes)

pub length-pair : (offset len : ℕ) → length (pair_of offset len) ≡ pair_size
length-pair offset len = simp (length-append, length-bytes)

pub length_pairs : (offset : ℕ) (xs : List Item) → length (pairs_of offset xs) ≡ pair_size * length xs
unfolding pairs_of
length_pairs offset [] = refl
length_pairs offset (x ∷ xs) =
    let rest = length_pairs (offset + text_length x) xs in
    let here = length-pair offset (text_length x) in
    let l = length-append (pair_of offset (text_length x)) (pairs_of (offset + text_length x) xs) in
    omega arith

pub length-records : (xs : List Item) → length (records_of xs) ≡ record_size * length xs
unfolding records_of
length-records [] = refl
length-records (x ∷ xs) =
    let rest = length-records xs in
    let here = length-record x in
    let l = length-append (record_of x) (records_of xs) in
    omega arith

-- each entry's target is good
pub target_at : (m : ℕ) (xs : List Item) (i : ℕ) (d : Item) → targets_good m xs ≡ true → i < length xs → target_good m (get_or xs i d).at ≡ true
unfolding targets_good
target_at m [] i d g h = absurd (not-suc-le-zero h)
target_at m (x ∷ xs) zero d g h = (and_parts (target_good m x.at) (targets_good m xs) g).0
target_at m (x ∷ xs) (suc i) d g h = target_at m xs i d (and_parts (target_good m x.at) (targets_good m xs) g).1 (le_of_suc-le-suc h)

-- the target of a good placement is below the count, where there are entries
pub target_below : (m : ℕ) (at : Placement) → 0 < m → target_good m at ≡ true → target_of at < m
target_below m (Absolute s) h g = h
target_below m Start h g = h
target_below m End h g = h
target_below m (Labeled k) h g = ltb-true k m g
target_below m (Offset s) h g = h

-- so it fits a byte
pub target_small : (xs : List Item) (i : ℕ) (d : Item) → length xs ≤ max_entries → targets_good (length xs) xs ≡ true → i < length xs → target_of (get_or xs i d).at < 256
target_small xs i d f g h =
    let below = target_below (length xs) (get_or xs i d).at (omega arith) (target_at (length xs) xs i d g h) in
    omega arith

-- of the first n of an array the target of each is below the count of entries, or 0
pub target_live : (m n i : ℕ) (items : List Item) (d : Item) → targets_good m (take n items) ≡ true → i < n → n ≤ length items → target_of (get_or items i d).at ≤ m
target_live m n i items d g h k =
    let l : i < length (take n items) = omega (arith, length-take n items) in
    let t = target_at m (take n items) i d g l in
    at_most m (get_or items i d).at (rw (get_or-take n items i d h) at t)
  where
    at_most : (m : ℕ) (at : Placement) → target_good m at ≡ true → target_of at ≤ m
    at_most m (Absolute s) g = omega arith
    at_most m Start g = omega arith
    at_most m End g = omega arith
    at_most m (Labeled k) g = omega (arith, ltb-true k m g)
    at_most m (Offset s) g = omega arith
