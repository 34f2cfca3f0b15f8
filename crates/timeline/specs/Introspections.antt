-- What `introspect` reports. Definitions only.
use Rattle.std.specs.Prelude.{cond, Float, Option, Some, None}
use Rattle.float32.specs.Helpers.{zero_f, one_f, max_f, clamp_f, finite_f}
use Rattle.clock.specs.declared.TimelineState.{TimelineState}
use Rattle.clock.specs.declared.TimelineState.TheVariants.{Idle, Playing, Paused, Completed}
use Rattle.track.specs.Tracks.{track_run, progress_of}
use Rattle.timeline.specs.declared.introspection.AnimationKind.{AnimationKind}
use Rattle.timeline.specs.declared.introspection.AnimationKind.TheVariants.{Timeline as TimelineKind}
use Rattle.timeline.specs.declared.introspection.PlaybackState.{PlaybackState}
use Rattle.timeline.specs.declared.introspection.PlaybackState.TheVariants.{Idle as IdleState, Playing as PlayingState, Paused as PausedState, Complete}
use Rattle.timeline.specs.declared.introspection.AnimationIntrospection.{AnimationIntrospection}
use Rattle.timeline.specs.declared.timeline.Timeline.{Timeline}

-- `duration.filter(|value| value.is_finite()).map(|value| value.max(0.0))`
unfoldable pub known_duration : Float → Option Float
known_duration secs = cond (finite_f secs) (Some (max_f secs zero_f)) None

-- the coarse state
abbrev pub playback_state : TimelineState → PlaybackState
playback_state Idle = IdleState
playback_state Playing = PlayingState
playback_state Paused = PausedState
playback_state Completed = Complete

-- `AnimationIntrospection::new`; a duration that is not finite is none
unfoldable pub introspection : AnimationKind → Float → Float → Float → PlaybackState → AnimationIntrospection
introspection kind progress elapsed duration state =
    record { kind = kind; progress = clamp_f progress zero_f one_f; elapsed = max_f elapsed zero_f; duration = known_duration duration; state = state }

-- `Timeline::introspect`: its duration is the run
unfoldable pub introspected : Timeline → AnimationIntrospection
introspected t =
    introspection TimelineKind (progress_of t.track) t.track.clock.elapsed (track_run t.track) (playback_state t.track.clock.state)
