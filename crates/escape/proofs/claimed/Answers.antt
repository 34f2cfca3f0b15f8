-- The claim, which Claim.antt proves.
use Rattle.escape.proofs.Claim.{claim}
use Rattle.escape.proofs.claimed.Goals as goal

pub returns : goal.returns
returns c = claim
