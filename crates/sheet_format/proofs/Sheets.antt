-- How long a sheet is, and what the writer answers.
use mathlib.Core.List.{List, []}
use Prim.Native.Nat.{ℕ, ◌+◌, ◌≤◌, ◌<◌, min}
use mathlib.Core.Path.{◌≡◌, refl}
use mathlib.Core.Bool.{true, false}
use native.Mathlib.Omega.{arith}
use borrow.Author.Tests.{ltb-false, le-ltb, lt-ltb}
use lib.Dec.{eqb}
use lib.ListN.{length, length-append, length-take}
use Rattle.refusal.specs.Refusal.{room_too_short}
use Rattle.steps.specs.Times.{max_entries}
use Rattle.tween.specs.declared.loop_mode.Loop.{Loop}
use Rattle.sheet_format.specs.declared.description.Item.{Item}
use Rattle.sheet_format.specs.declared.description.Description.{Description}
use Rattle.sheet_rules.specs.Rules.{header_size, labels_at}
use Rattle.sheet_format.specs.Descriptions.{items_in}
use Rattle.sheet_format.specs.Write.{header_bytes, texts_of, sheet_of, labels_good, targets_good, describe_number, write_number, written_bytes, Fits}
use Rattle.words.proofs.Bytes.{length-bytes}
use Rattle.sheet_format.proofs.Turns.{length_pairs, length-records}
use Rattle.refusal.proofs.Checks.{passed, passed_good}

pub length-header : (n : ℕ) (looping : Loop) (scale : ℕ) → length (header_bytes n looping scale) ≡ header_size
unfolding header_bytes
length-header n looping scale = simp (length-append, length-bytes)

-- header, pairs and records, then the labels
pub length-sheet : (d : Description) → length (items_in d) ≡ d.count → length (sheet_of d) ≡ labels_at d.count + length (texts_of (items_in d))
unfolding sheet_of
length-sheet d h =
    let xs = items_in d in
    let p = length_pairs (labels_at d.count) xs in
    let r = length-records xs in
    simp (length-append, length-header) (omega arith)

-- the entries that count
pub length-items : (d : Description) → length d.items ≡ max_entries → d.count ≤ max_entries → length (items_in d) ≡ d.count
length-items d h k = simp length-take (omega arith)

-- what holds of a description that can be written
pub record Good (d : Description) : Type 0 where
  pub few : d.count ≤ max_entries
  pub labels : labels_good (items_in d) ≡ true
  pub targets : targets_good d.count (items_in d) ≡ true

pub described : (d : Description) → describe_number d ≡ 0 → Good d
unfolding describe_number
described d e =
    let a = passed _ 7 _ e in
    let b = passed_good _ 10 _ a.1 in
    let c = passed_good _ 9 _ b.1 in
    record { few = ltb-false _ _ a.0; labels = b.0; targets = c.0 }

-- so its sheet fits, where there is room for it
pub fitting : (d : Description) (room : ℕ) → length d.items ≡ max_entries → describe_number d ≡ 0 → length (sheet_of d) ≤ room → Fits d room
fitting d room h e k =
    let g = described d e in
    let l = length-items d h g.few in
    record { few = g.few; targets = g.targets; items = l; fits = omega (arith, length-sheet d l) }

-- where the labels start, and how long they are, is how long the sheet is
pub size-sheet : (d : Description) (items : List Item) (at len : ℕ) → d.count ≤ max_entries → items ≡ items_in d → length items ≡ min d.count max_entries
    → at ≡ labels_at (length items) → len ≡ length (texts_of items) → at + len ≡ length (sheet_of d)
size-sheet d items at len few v h a t =
    let h' = rw v at h in
    let a' = rw v at a in
    let t' = rw v at t in
    let l : length (items_in d) ≡ d.count = omega arith in
    omega (arith, length-sheet d l)

module _ (d : Description) (room : ℕ) where
  -- the description is refused
  pub write-refused : (n : ℕ) → n ≡ describe_number d → eqb n 0 ≡ false → (write_number d room ≡ n) × (written_bytes d room ≡ [])
  unfolding write_number written_bytes
  write-refused n e z = rw (← e, z) (refl, rw z)

  -- the room is too short
  pub write-short : describe_number d ≡ 0 → room < length (sheet_of d) → (write_number d room ≡ room_too_short) × (written_bytes d room ≡ [])
  unfolding write_number written_bytes
  write-short e h = rw (e, lt-ltb room (length (sheet_of d)) h) (refl, refl)

  -- the sheet is written
  pub write-whole : describe_number d ≡ 0 → length (sheet_of d) ≤ room → (write_number d room ≡ 0) × (written_bytes d room ≡ sheet_of d)
  unfolding write_number written_bytes
  write-whole e h = rw (e, le-ltb room (length (sheet_of d)) h) (refl, refl)
