-- A track whose entries stand in three columns: starts, durations and marks. Definitions only.
use Rattle.std.specs.Prelude.{ℕ, min, Bool, List, [], ◌∷◌, length, take, Float}
use Rattle.tween.specs.declared.loop_mode.Loop.{Loop}
use Rattle.steps.specs.declared.Entry.{Entry}
use Rattle.steps.specs.Slices.{over}
use Rattle.steps.specs.Times.{max_entries}
use Rattle.completions.specs.Columns.{most_entries}
use Rattle.clock.specs.declared.Clock.{Clock}
use Rattle.track.specs.declared.track.Track.{Track}
use Rattle.track.specs.declared.track.Playhead.{Playhead}
use Rattle.track.specs.Tracks.{live, with_only}

-- an entry, of its three parts
abbrev pub entry_of : Float → Float → Bool → Entry
entry_of start duration done = record { start = start; duration = duration; done = done }

-- the entries of the columns, as many as the shortest has
abbrev pub entries_of : List Float → List Float → List Bool → List Entry
entries_of [] ds ms = []
entries_of (s ∷ ss) [] ms = []
entries_of (s ∷ ss) (d ∷ ds) [] = []
entries_of (s ∷ ss) (d ∷ ds) (m ∷ ms) = entry_of s d m ∷ entries_of ss ds ms

-- the first n of them
abbrev pub first_of : ℕ → List Float → List Float → List Bool → List Entry
first_of n ss ds ms = take n (entries_of ss ds ms)

-- how many entries of columns with these lengths count: as many as the count, a byte's numbers and the shortest column allow
abbrev pub entries_in : ℕ → ℕ → ℕ → ℕ → ℕ
entries_in count starts durations marks = min (min count most_entries) (min starts (min durations marks))

-- the track that a playhead plays in the columns: its count of entries, as far as a list can number them in bytes, and no others
unfoldable pub track_of : Playhead → List Float → List Float → List Bool → Track
track_of h ss ds ms =
    let es = first_of (min h.count most_entries) ss ds ms in
    record { count = length es; entries = es; clock = h.clock; looping = h.looping }

-- the playhead with another clock
abbrev pub with_clock_at : Playhead → Clock → Playhead
with_clock_at h c = record { count = h.count; clock = c; looping = h.looping }

-- and in another mode
abbrev pub with_mode_at : Playhead → Loop → Playhead
with_mode_at h mode = record { count = h.count; clock = h.clock; looping = mode }

-- a track, of its live entries alone
abbrev pub trimmed : Track → Track
trimmed k = with_only k (live k)

-- the track k, over whose first entries those of another are laid, as many as fit, with its clock and mode
unfoldable pub laid_over : Track → Track → Track
laid_over k other =
    let es = take max_entries (live other) in
    record { count = length es; entries = over es k.entries; clock = other.clock; looping = other.looping }
