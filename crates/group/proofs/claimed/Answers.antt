-- `claimed` states the claim, which Claim.antt proves.
use Rattle.group.proofs.Claim.{claim}
use Rattle.group.proofs.claimed.Goals as goal

pub returns : goal.returns
returns c = claim
