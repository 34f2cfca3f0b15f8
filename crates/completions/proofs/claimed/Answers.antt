-- `claimed` states the claims, which `Claims.antt` proves.
use Rattle.completions.proofs.Claims.{claims}
use Rattle.completions.proofs.claimed.Goals as goal

pub returns : goal.returns
returns c = claims
