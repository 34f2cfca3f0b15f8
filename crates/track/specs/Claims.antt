-- What is claimed of the definitions themselves.
use Rattle.std.specs.Prelude.{ℕ, ◌≡◌, Bool, List, Float}
use Rattle.tween.specs.declared.loop_mode.Loop.{Loop}
use Rattle.steps.specs.Slices.{over}
use Rattle.clock.specs.Clocks.{scaled, paused, resumed}
use Rattle.track.specs.declared.track.Track.{Track}
use Rattle.track.specs.declared.track.Playhead.{Playhead}
use Rattle.track.specs.Columns.{track_of, with_clock_at, with_mode_at, trimmed}
use Rattle.track.specs.Calls.{TrackCall, Looping, SetTimeScale, Pause, Resume, TrackOut, updated, track_step}

-- the track k with what a call left of its live entries: the slots past them stay, and so does the count
abbrev pub put_back : Track → Track → Track
put_back k q = record { count = k.count; entries = over q.entries k.entries; clock = q.clock; looping = q.looping }

-- the outcome of a call on the live entries, as one on the whole track
abbrev pub restored : Track → TrackOut → TrackOut
restored k o = record { refusal = o.refusal; track = put_back k o.track; rows = o.rows; running = o.running; completed = o.completed; listed = o.listed }

-- all of them
pub record Claims : Type 0 where
  -- no row depends on a reply: what the preview shows is what the update sends, whatever the leaves reply
  pub rows : (k : Track) (dt : Float) (rs rs' : List ℕ) → (updated k dt rs).rows ≡ (updated k dt rs').rows
  -- only the live entries count: a call on them alone answers as the call on the track, and leaves of them what that leaves
  pub whole : (k : Track) (call : TrackCall) → track_step k call ≡ restored k (track_step (trimmed k) call)
  pub part : (k : Track) (call : TrackCall) → (track_step (trimmed k) call).track ≡ trimmed (track_step k call).track
  -- the calls on a playhead that send nothing are those on the track that it plays, whatever stands in the columns
  pub looping : (h : Playhead) (ss ds : List Float) (ms : List Bool) (mode : Loop) → track_of (with_mode_at h mode) ss ds ms ≡ (track_step (track_of h ss ds ms) (Looping mode)).track
  pub scale : (h : Playhead) (ss ds : List Float) (ms : List Bool) (x : Float) → track_of (with_clock_at h (scaled h.clock x)) ss ds ms ≡ (track_step (track_of h ss ds ms) (SetTimeScale x)).track
  pub pause : (h : Playhead) (ss ds : List Float) (ms : List Bool) → track_of (with_clock_at h (paused h.clock)) ss ds ms ≡ (track_step (track_of h ss ds ms) Pause).track
  pub resume : (h : Playhead) (ss ds : List Float) (ms : List Bool) → track_of (with_clock_at h (resumed h.clock)) ss ds ms ≡ (track_step (track_of h ss ds ms) Resume).track
