-- `introspect` is `introspected`.
use Rattle.timeline.specs.Introspections.{introspected}
use Rattle.timeline.proofs.timeline.Timeline.introspect.Goals as goal

pub returns : goal.returns
unfolding introspected
returns c =
    rw (← c.progress.ensures, ← c.elapsed.ensures, ← c.playback_duration.ensures, ← c.state.ensures, ← c.into.ensures)
    c.new.ensures
