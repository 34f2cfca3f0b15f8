-- The pairs from here on are still to be written, the first of them for a label that starts at this offset.
use Prim.Native.Nat.{◌+◌, ◌*◌, ◌≤◌}
use mathlib.Core.Path.{◌≡◌}
use lib.ListN.{length, drop}
use Rattle.digits.specs.Digits.{put_at}
use Rattle.sheet_rules.specs.Rules.{header_size, labels_at}
use Rattle.sheet_format.specs.Write.{pairs_of}
use Rattle.sheet_format.proofs.Stores.{Left}
use Rattle.sheet_format.proofs.pairs.put_pairs.Given as goal

abbrev pub invariant-loop-item : goal.invariant-loop-item
invariant-loop-item l =
    record {
      place : l.at ≡ header_size + 4 * l.item-index;
      near : l.offset ≤ labels_at (length l.items) + 24 * l.item-index;
      left : Left (put_at (pairs_of (labels_at (length l.items)) l.items) header_size l.initial.room) (pairs_of l.offset (drop l.item-index l.items)) l.at l.initial.room l.room;
    }
