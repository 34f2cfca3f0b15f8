-- `pause`, `resume` and `set_time_scale` on a lent clock (crate lent_clock) are calls of the lists too.
use Rattle.std.specs.Prelude.{◌≡◌, Float}
use Rattle.clock.specs.declared.Clock.{Clock}
use Rattle.clock.specs.Clocks.{paused, resumed, scaled}
use Rattle.track.specs.Calls.{SetTimeScale, Pause, Resume, with_clock}
use Rattle.timeline.specs.declared.timeline.Timeline.{Timeline}
use Rattle.timeline.specs.Calls.{On, step}

-- the timeline t, whose clock was lent and came back as c
abbrev pub lent : Timeline → Clock → Timeline
lent t c = record { track = with_clock t.track c; labels = t.labels }

-- the timeline with the clock that the lent call leaves is what the call on the timeline leaves, so that the claim covers this form
pub record LentCalls : Type 0 where
  pub pause : (t : Timeline) → lent t (paused t.track.clock) ≡ (step t (On Pause)).timeline
  pub resume : (t : Timeline) → lent t (resumed t.track.clock) ≡ (step t (On Resume)).timeline
  pub scale : (t : Timeline) (x : Float) → lent t (scaled t.track.clock x) ≡ (step t (On (SetTimeScale x))).timeline
