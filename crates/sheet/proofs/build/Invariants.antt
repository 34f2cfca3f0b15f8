-- The calls from here on are still to be made.
use mathlib.Core.Path.{◌≡◌}
use lib.ListN.{drop}
use Rattle.timeline.specs.Calls.{after}
use Rattle.sheet.specs.Build.{calls_from}
use Rattle.sheet.proofs.build.Given as goal

abbrev pub invariant-loop-item : goal.invariant-loop-item
invariant-loop-item l = after l.timeline (calls_from l.items (drop l.item-index l.items)) ≡ after l.initial.timeline (calls_from l.items l.items)
