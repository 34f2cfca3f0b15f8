-- The claim, which Claim.antt proves.
use Rattle.digits.proofs.Claim.{claim}
use Rattle.digits.proofs.claimed.Goals as goal

pub returns : goal.returns
returns c = claim
