-- `claimed` carries the claim.
use Rattle.caption.proofs.Claim.{claim}
use Rattle.caption.proofs.claimed.Goals as goal

pub returns : goal.returns
returns c = claim
