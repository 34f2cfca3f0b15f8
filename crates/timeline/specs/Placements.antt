-- Where an entry starts, and a timeline with one entry more. Definitions only.
use Rattle.std.specs.Prelude.{ℕ, ◌+◌, false, cond, List, [], take, get_or, set, replicate, Float, Option}
use Rattle.std.specs.Float.{binary32}
use Rattle.std.specs.Float.Ieee.{add}
use Rattle.float32.specs.Helpers.{zero_f, max_f}
use Rattle.steps.specs.declared.Entry.{Entry}
use Rattle.steps.specs.Times.{max_entries}
use Rattle.label.specs.declared.Label.{Label}
use Rattle.label.specs.Label.{is_found, entry_found, with_text, label_of, first_with, first_like}
use Rattle.track.specs.declared.track.Track.{Track}
use Rattle.track.specs.Tracks.{empty_track, live, track_base, blank}
use Rattle.timeline.specs.declared.timeline.At.{At}
use Rattle.timeline.specs.declared.timeline.At.TheVariants.{Absolute, Start, End, Label as Labeled, Offset}
use Rattle.timeline.specs.declared.timeline.Timeline.{Timeline}

-- what stands in a slot that names no entry
abbrev pub blank_label : Label
blank_label = with_text []

-- `Timeline::new`: "The empty panel is Idle at 0, `Once`, scale 1"
unfoldable pub empty : Timeline
empty = record { track = empty_track; labels = replicate max_entries blank_label }

-- the labels of the entries that count
abbrev pub live_labels : Timeline → List Label
live_labels t = take t.track.count t.labels

-- the start of the entry that was found; "not found, the base"
abbrev pub start_found : Timeline → Option ℕ → Float
start_found t f = cond (is_found f) (get_or (live t.track) (entry_found f) blank).start (track_base t.track)

-- "`Label`: start of the first entry with that label", by the label's bytes
unfoldable pub named_start : Timeline → List ℕ → Float
named_start t target = start_found t (first_with target (live_labels t))

-- `resolve_start`; the label case carries an entry number, and means that entry's label
unfoldable pub resolve_start : Timeline → At → Float
resolve_start t (Absolute secs) = max_f secs zero_f
resolve_start t Start = zero_f
resolve_start t End = track_base t.track
resolve_start t (Labeled k) = start_found t (first_like k (live_labels t))
resolve_start t (Offset offset) = max_f (add binary32 (track_base t.track) offset) zero_f

-- a new entry: "A negative or NaN duration is 0"
abbrev pub new_entry : Float → Float → Entry
new_entry start duration = record { start = start; duration = max_f duration zero_f; done = false }

-- the track with one entry more, in the slot of its count
abbrev pub grown_track : Track → Entry → Track
grown_track k e = record { count = k.count + 1; entries = set k.entries k.count e; clock = k.clock; looping = k.looping }

-- `self.entries.push(..)`
abbrev pub grown : Timeline → List ℕ → Float → Float → Timeline
grown t label start duration =
    record { track = grown_track t.track (new_entry start duration); labels = set t.labels t.track.count (label_of label) }
