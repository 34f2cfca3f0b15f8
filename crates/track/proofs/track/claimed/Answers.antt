-- `claimed` states the claims, which `Claims.antt` proves.
use Rattle.track.proofs.Claims.{claims}
use Rattle.track.proofs.track.claimed.Goals as goal

pub returns : goal.returns
returns c = claims
