-- What two timelines have alike, whatever the marks. Definitions only.
use Rattle.std.specs.Prelude.{ℕ, ◌≡◌, Bool, List, map, Float}
use Rattle.steps.specs.declared.Entry.{Entry}
use Rattle.label.specs.Label.{text}
use Rattle.track.specs.Tracks.{live}
use Rattle.timeline.specs.declared.timeline.Timeline.{Timeline}
use Rattle.timeline.specs.Placements.{live_labels}

-- an entry but for its mark: when it starts, and how long it is
pub record Span : Type 0 where
  pub start : Float
  pub duration : Float

-- the span of an entry
abbrev pub span_of : Entry → Span
span_of e = record { start = e.start; duration = e.duration }

-- of each entry its span, its label's text and its mark
abbrev pub spans : Timeline → List Span
spans t = map span_of (live t.track)

abbrev pub texts : Timeline → List (List ℕ)
texts t = map text (live_labels t)

abbrev pub done_marks : Timeline → List Bool
done_marks t = map (λ (e : Entry). e.done) (live t.track)

-- "Same entries means the same labels, starts and durations in the same order, whatever the marks"; and the same loop mode
pub record SameEntries (t u : Timeline) : Type 0 where
  pub labels : texts t ≡ texts u
  pub spans : spans t ≡ spans u
  pub mode : t.track.looping ≡ u.track.looping
