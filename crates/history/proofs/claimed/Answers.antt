-- `claimed` states the claim, which Claim.antt proves.
use Rattle.history.proofs.Claim.{claim}
use Rattle.history.proofs.claimed.Goals as goal

pub returns : goal.returns
returns c = claim
