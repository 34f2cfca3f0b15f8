-- What the records so far leave to check; the slots up to i hold the entries that were read, and the others are blank.
use Prim.Native.Nat.{◌+◌, ◌*◌, ◌-◌}
use mathlib.Core.Path.{◌≡◌}
use lib.ListN.{drop}
use Rattle.steps.specs.Times.{max_entries}
use Rattle.words.specs.Pairs.{pair_size}
use Rattle.sheet_rules.specs.Rules.{header_size, record_size}
use Rattle.sheet_format.specs.Check.{records_at, records_number}
use Rattle.sheet_format.specs.Descriptions.{blank_item, items_from}
use Rattle.sheet_format.proofs.Filling.{Filled}
use Rattle.sheet_format.proofs.sheet.Sheet.items.Given as goal

abbrev pub invariant-loop-i : goal.invariant-loop-i
invariant-loop-i l =
    record {
      left : records_number l.self.count l.self.count (drop (records_at l.self.count) l.self.bytes.now) ≡ records_number l.self.count (l.self.count - l.i) (drop (records_at l.self.count + record_size * l.i) l.self.bytes.now);
      filled : Filled (items_from l.self.bytes.now l.self.count (drop header_size l.self.bytes.now) (drop (records_at l.self.count) l.self.bytes.now)) blank_item max_entries l.i l.items (items_from l.self.bytes.now (l.self.count - l.i) (drop (header_size + pair_size * l.i) l.self.bytes.now) (drop (records_at l.self.count + record_size * l.i) l.self.bytes.now));
    }
