-- `places_agree` states the answer to the steward's question, which Claim.antt proves.
use Rattle.history.proofs.Claim.{places_agree_lem}
use Rattle.history.proofs.places_agree.Goals as goal

pub returns : goal.returns
returns c = places_agree_lem
