-- The records from here on are still to be written.
use Prim.Native.Nat.{◌+◌, ◌*◌}
use mathlib.Core.Path.{◌≡◌}
use lib.ListN.{length, drop}
use Rattle.digits.specs.Digits.{put_at}
use Rattle.sheet_format.specs.Check.{records_at}
use Rattle.sheet_format.specs.Write.{records_of}
use Rattle.sheet_format.proofs.Stores.{Left}
use Rattle.sheet_format.proofs.records.put_records.Given as goal

abbrev pub invariant-loop-item : goal.invariant-loop-item
invariant-loop-item l =
    record {
      place : l.at ≡ records_at (length l.items) + 12 * l.item-index;
      left : Left (put_at (records_of l.items) (records_at (length l.items)) l.initial.room) (records_of (drop l.item-index l.items)) l.at l.initial.room l.room;
    }
