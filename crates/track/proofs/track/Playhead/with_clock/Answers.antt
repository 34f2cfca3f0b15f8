-- `with_clock` is `with_clock_at`.
use Rattle.track.proofs.track.Playhead.with_clock.Goals as goal

pub returns : goal.returns
returns c = rw c.kept.ensures
