-- What holds of every timeline that calls make from the empty one. Definitions only; the proof is `kept` of proofs/Kept.antt.
use Rattle.std.specs.Prelude.{◌≤◌, ◌≡◌, false, true, List, [], ◌∷◌, length, Float}
use Rattle.std.specs.Float.Ieee.{is_nan}
use Rattle.float32.specs.Helpers.{nonneg_f}
use Rattle.steps.specs.Times.{max_entries}
use Rattle.timeline.specs.declared.timeline.Timeline.{Timeline}
use Rattle.timeline.specs.Placements.{empty}
use Rattle.timeline.specs.Calls.{Call, step, after}
use Rattle.history.specs.Entries.{Span, spans}

-- not below 0, unless it is a NaN
abbrev pub NotBelow : Float → Type 0
NotBelow x = is_nan x ≡ false → nonneg_f x ≡ true

-- start and duration of an entry: no NaN, and not below 0
pub record SoundSpan (s : Span) : Type 0 where
  pub start : nonneg_f s.start ≡ true
  pub duration : nonneg_f s.duration ≡ true

-- all of them
abbrev pub AllSound : List Span → Type 0
AllSound [] = Unit
AllSound (s ∷ ss) = SoundSpan s × AllSound ss

-- "up to 256 entries", each array whole; every start and duration sound; the elapsed time may be a NaN, the scale is none
pub record Invariant (t : Timeline) : Type 0 where
  pub count : t.track.count ≤ max_entries
  pub entries : length t.track.entries ≡ max_entries
  pub labels : length t.labels ≡ max_entries
  pub spans : AllSound (spans t)
  pub elapsed : NotBelow t.track.clock.elapsed
  pub scale : nonneg_f t.track.clock.time_scale ≡ true

-- The empty timeline has it, and every call keeps it: so every list of calls does.
pub record Kept : Type 0 where
  pub new : Invariant empty
  pub each : (t : Timeline) (call : Call) → Invariant t → Invariant (step t call).timeline
  pub list : (calls : List Call) → Invariant (after empty calls)
