-- `invariant_kept` states that every call keeps the invariant, which Kept.antt proves.
use Rattle.history.proofs.Kept.{kept}
use Rattle.history.proofs.invariant_kept.Goals as goal

pub returns : goal.returns
returns c = kept
