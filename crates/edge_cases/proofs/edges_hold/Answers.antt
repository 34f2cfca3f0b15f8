-- `edges_hold` states the table, which `Table.antt` computes.
use Rattle.edge_cases.proofs.Table.{holds}
use Rattle.edge_cases.proofs.edges_hold.Goals as goal

pub returns : goal.returns
returns c = holds
