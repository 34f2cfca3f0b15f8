-- The turns of the loops that write the entries: what is still to be written.
use Prim.Native.Nat.{ℕ, ◌+◌, ◌≤◌, ◌<◌}
use mathlib.Core.Path.{◌≡◌}
use mathlib.Core.List.{List}
use native.Mathlib.Omega.{arith}
use lib.ListN.{length, drop, get_or, drop_of_length-le}
use Rattle.label.specs.Label.{text}
use Rattle.digits.specs.Digits.{put_at}
use Rattle.sheet_format.specs.declared.description.Item.{Item}
use Rattle.words.specs.Pairs.{pair_size}
use Rattle.sheet_rules.specs.Rules.{record_size}
use Rattle.sheet_format.specs.Write.{text_length, pair_of, pairs_of, record_of, records_of, texts_of}
use Rattle.sheet_format.proofs.Stores.{Left, less_left, none_left}
use Rattle.sheet_format.proofs.Turns.{pairs-live, pairs_none, records-live, records_none, texts-live, texts-none, length-pair, length-record}

module _ (whole old : List ℕ) (i : ℕ) (xs : List Item) (d : Item) (out new : List ℕ) (at : ℕ) (h : i < length xs) where
  pub pairs-left : (offset len : ℕ) → len ≡ text_length (get_or xs i d) → Left whole (pairs_of offset (drop i xs)) at old out
      → new ≡ put_at (pair_of offset len) at out → Left whole (pairs_of (offset + len) (drop (i + 1) xs)) (at + pair_size) old new
  pairs-left offset len e l w =
      less_left (pair_of offset len) (pairs_of (offset + len) (drop (i + 1) xs)) at old whole out new (at + pair_size)
      (rw (pairs-live i xs d h offset len e) at l) w (omega (arith, length-pair offset len))

  pub records-left : Left whole (records_of (drop i xs)) at old out → new ≡ put_at (record_of (get_or xs i d)) at out
      → Left whole (records_of (drop (i + 1) xs)) (at + record_size) old new
  records-left l w =
      less_left (record_of (get_or xs i d)) (records_of (drop (i + 1) xs)) at old whole out new (at + record_size)
      (rw (records-live i xs d h) at l) w (omega (arith, length-record (get_or xs i d)))

  pub texts-left : (len : ℕ) → len ≡ text_length (get_or xs i d) → Left whole (texts_of (drop i xs)) at old out
      → new ≡ put_at (text (get_or xs i d).label) at out → Left whole (texts_of (drop (i + 1) xs)) (at + len) old new
  texts-left len e l w =
      less_left (text (get_or xs i d).label) (texts_of (drop (i + 1) xs)) at old whole out new (at + len)
      (rw (texts-live i xs d h) at l) w (omega arith)

module _ (whole old : List ℕ) (i : ℕ) (xs : List Item) (out : List ℕ) (at : ℕ) (h : length xs ≤ i) where
  pub pairs-done : (offset : ℕ) → Left whole (pairs_of offset (drop i xs)) at old out → out ≡ whole
  pairs-done offset l = none_left whole at old out (rw (drop_of_length-le xs h, pairs_none offset) at l)

  pub records-done : Left whole (records_of (drop i xs)) at old out → out ≡ whole
  records-done l = none_left whole at old out (rw (drop_of_length-le xs h, records_none) at l)

  pub texts-done : Left whole (texts_of (drop i xs)) at old out → out ≡ whole
  texts-done l = none_left whole at old out (rw (drop_of_length-le xs h, texts-none) at l)
