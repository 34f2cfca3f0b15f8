-- `start_found` is `start_found`.
use Rattle.timeline.proofs.timeline.Timeline.start_found.Goals as goal

pub returns-in-Some : goal.returns-in-Some
returns-in-Some c = rw c.in-Some.is c.start_at.ensures

pub returns-in-None : goal.returns-in-None
returns-in-None c = rw c.in-None.is c.duration.ensures
