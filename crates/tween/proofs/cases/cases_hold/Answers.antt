-- `cases_hold` states the table, which `Table.antt` computes.
use Rattle.tween.proofs.Table.{holds}
use Rattle.tween.proofs.cases.cases_hold.Goals as goal

pub returns : goal.returns
returns c = holds
