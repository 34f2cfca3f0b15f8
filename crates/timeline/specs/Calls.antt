-- All the calls on a timeline: what each leaves, sends, lists, answers and refuses. `step` is the definition of them all; `after` runs a list of them.
use Rattle.std.specs.Prelude.{ℕ, Bool, false, cond, List, [], ◌∷◌, leb, ltb, length, Float}
use Rattle.refusal.specs.Refusal.{accepted, timeline_full, label_too_long}
use Rattle.steps.specs.declared.Row.{Row}
use Rattle.steps.specs.Times.{max_entries}
use Rattle.label.specs.Label.{max_label}
use Rattle.track.specs.declared.track.Track.{Track}
use Rattle.track.specs.Calls.{TrackCall, TrackOut, track_step}
use Rattle.timeline.specs.declared.timeline.At.{At}
use Rattle.timeline.specs.declared.timeline.Timeline.{Timeline}
use Rattle.timeline.specs.Placements.{resolve_start, named_start, grown}

-- a call on a timeline, with its arguments: the three that add an entry (label, placement, duration), and those on what plays
pub data Call : Type 0 where
  Add : List ℕ → At → Float → Call
  AddBoxed : List ℕ → At → Float → Call
  AddAtLabel : List ℕ → List ℕ → Float → Call
  On : TrackCall → Call

-- what a call leaves and answers: its refusal, the timeline, the rows sent, whether it still runs, whether the whole-run completion fired, and the completed entries
pub record Out : Type 0 where
  pub refusal : ℕ
  pub timeline : Timeline
  pub rows : List Row
  pub running : Bool
  pub completed : Bool
  pub listed : List ℕ

-- a call that sends nothing to the entries and answers nothing more
abbrev pub silent : ℕ → Timeline → Out
silent n t = record { refusal = n; timeline = t; rows = []; running = false; completed = false; listed = [] }

-- 1: an entry past the 256th ("1 and 8 move to 256"). "2: an entry's own label above 24 bytes (after 1)"
unfoldable pub added_at : Timeline → List ℕ → Float → Float → Out
added_at t label start duration =
    cond (leb max_entries t.track.count) (silent timeline_full t)
    (cond (ltb max_label (length label)) (silent label_too_long t)
    (silent accepted (grown t label start duration)))

-- the timeline with another track: labels stay
abbrev pub with_track : Timeline → Track → Timeline
with_track t k = record { track = k; labels = t.labels }

-- a call on what plays
abbrev pub on_track : Timeline → TrackOut → Out
on_track t o =
    record { refusal = o.refusal; timeline = with_track t o.track; rows = o.rows; running = o.running; completed = o.completed; listed = o.listed }

-- every call: what it leaves, sends, lists, answers and refuses
unfoldable pub step : Timeline → Call → Out
step t (Add label at duration) = added_at t label (resolve_start t at) duration
step t (AddBoxed label at duration) = added_at t label (resolve_start t at) duration
step t (AddAtLabel label target duration) = added_at t label (named_start t target) duration
step t (On call) = on_track t (track_step t.track call)

-- the timeline that a list of calls leaves, each on what the one before left
unfoldable pub after : Timeline → List Call → Timeline
after t [] = t
after t (c ∷ cs) = after (step t c).timeline cs
