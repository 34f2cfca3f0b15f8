-- What the pairs so far leave to check: those that are still to come, the first of which has to start at this offset.
use mathlib.Core.Path.{◌≡◌}
use Prim.Native.Nat.{◌+◌, ◌*◌, ◌/◌, ◌≤◌}
use lib.ListN.{length, drop}
use Rattle.std.specs.Slice.Iter.{chunks_exact_rest, chunks_exact_size}
use Rattle.words.specs.Pairs.{pair_size}
use Rattle.sheet_rules.specs.Rules.{header_size, labels_at}
use Rattle.sheet_format.specs.Check.{pairs_number}
use Rattle.sheet_format.proofs.sheet.Sheet.check_pairs.Given as goal

abbrev pub invariant-loop-pair : goal.invariant-loop-pair
invariant-loop-pair l =
    record {
      size : chunks_exact_size l.pair-iterator ≡ pair_size;
      near : l.offset + 24 * (length (chunks_exact_rest l.pair-iterator) / pair_size) ≤ labels_at l.self.count + 24 * l.self.count;
      left : pairs_number (length l.self.bytes.now) (labels_at l.self.count) l.self.count (drop header_size l.self.bytes.now) ≡ pairs_number (length l.self.bytes.now) l.offset (length (chunks_exact_rest l.pair-iterator) / pair_size) (chunks_exact_rest l.pair-iterator);
    }
