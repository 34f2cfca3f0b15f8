-- The claim, which Claim.antt proves.
use Rattle.sheet.proofs.Claim.{claim}
use Rattle.sheet.proofs.claimed.Goals as goal

pub returns : goal.returns
returns c = claim
