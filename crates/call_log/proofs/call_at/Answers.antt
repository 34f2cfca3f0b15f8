-- Too few bytes are no call.
use borrow.Author.Tests.{lt-ltb, le-ltb}
use Rattle.track.specs.declared.track.Track.{Track}
use Rattle.call_log.specs.Logs.{outcome_at}
use Rattle.call_log.proofs.call_at.Goals as goal

pub returns-then-rest-lt-CALL : goal.returns-then-rest-lt-CALL
unfolding outcome_at
returns-then-rest-lt-CALL c = λ (k : Track). rw (lt-ltb _ _ c.if-rest-lt-CALL.true)

pub returns : goal.returns
unfolding outcome_at
returns c = λ (k : Track). rw (le-ltb _ _ c.if-rest-lt-CALL.false, ← c.u32_at.ensures, ← c.from_bits.ensures)
