-- `claimed` states the table, which `Cases.antt` computes.
use Rattle.steps.proofs.Cases.{holds}
use Rattle.steps.proofs.claimed.Goals as goal

pub returns : goal.returns
returns c = holds
