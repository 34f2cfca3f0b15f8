use Rattle.log_history.proofs.Claim.{claim}
use Rattle.log_history.proofs.claimed.Goals as goal

pub returns : goal.returns
returns c = claim
