-- The first numbers are added.
use mathlib.Core.List.{[], map}
use lib.ListN.{take}
use Rattle.digits.specs.Digits.{decimal}
use Rattle.call_log.specs.Lines.{with_fields, Adds}
use Rattle.call_log.proofs.fields.Text.list.Given as goal

abbrev pub invariant-loop-listed : goal.invariant-loop-listed
invariant-loop-listed l = Adds (with_fields [] (map decimal (take l.listed-index l.list))) l.initial.self l.self
