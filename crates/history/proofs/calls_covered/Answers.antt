-- `calls_covered` states what the claim covers, which Covered.antt proves.
use Rattle.history.proofs.Covered.{coverage}
use Rattle.history.proofs.calls_covered.Goals as goal

pub returns : goal.returns
returns c = coverage
