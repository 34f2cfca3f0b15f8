-- What the records so far leave to check: those that are still to come.
use mathlib.Core.Path.{◌≡◌}
use Prim.Native.Nat.{◌/◌}
use lib.ListN.{length, drop}
use Rattle.std.specs.Slice.Iter.{chunks_exact_rest, chunks_exact_size}
use Rattle.sheet_rules.specs.Rules.{record_size}
use Rattle.sheet_format.specs.Check.{records_at, records_number}
use Rattle.sheet_format.proofs.sheet.Sheet.check_records.Given as goal

abbrev pub invariant-loop-record : goal.invariant-loop-record
invariant-loop-record l =
    record {
      size : chunks_exact_size l.record-iterator ≡ record_size;
      left : records_number l.self.count l.self.count (drop (records_at l.self.count) l.self.bytes.now) ≡ records_number l.self.count (length (chunks_exact_rest l.record-iterator) / record_size) (chunks_exact_rest l.record-iterator);
    }
