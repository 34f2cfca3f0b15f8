-- The entries of a track, and what rows and marks do to them. Definitions only.
use Rattle.std.specs.Prelude.{ℕ, ◌≡◌, Bool, false, cond, List, [], ◌∷◌, map, length, take, replicate, Float}
use Rattle.std.specs.Float.{binary32}
use Rattle.std.specs.Float.Ieee.{div, eq}
use Rattle.float32.specs.Helpers.{zero_f, one_f, clamp_f, finite_f}
use Rattle.tween.specs.declared.loop_mode.Loop.{Loop}
use Rattle.tween.specs.declared.loop_mode.Loop.TheVariants.{Once}
use Rattle.steps.specs.declared.Entry.{Entry}
use Rattle.steps.specs.declared.Row.{Row}
use Rattle.steps.specs.declared.Stepped.{Stepped}
use Rattle.steps.specs.Slices.{over}
use Rattle.steps.specs.Times.{max_entries, base_of, run_of, local_time}
use Rattle.clock.specs.declared.Clock.{Clock}
use Rattle.track.specs.declared.track.Track.{Track}
use Rattle.clock.specs.Clocks.{new_clock, share_in}

-- what stands in a slot that holds no entry
abbrev pub blank : Entry
blank = record { start = zero_f; duration = zero_f; done = false }

-- "The empty panel is Idle at 0, `Once`, scale 1"
unfoldable pub empty_track : Track
empty_track = record { count = 0; entries = replicate max_entries blank; clock = new_clock; looping = Once }

-- the entries that count: a count past the array counts them all
abbrev pub live : Track → List Entry
live k = take k.count k.entries

-- the track with these entries and no others
abbrev pub with_only : Track → List Entry → Track
with_only k es = record { count = length es; entries = es; clock = k.clock; looping = k.looping }

-- the base: `Timeline::duration`
abbrev pub track_base : Track → Float
track_base k = base_of (live k)

-- the run: `playback_duration`
abbrev pub track_run : Track → Float
track_run k = run_of k.looping (track_base k)

-- `progress` at an elapsed time: of the run if it is finite, else of the base
unfoldable pub progress_in : Loop → Float → Float → Float → Float
progress_in mode base total elapsed =
    cond (eq total zero_f) one_f
    (cond (finite_f total) (clamp_f (div binary32 elapsed total) zero_f one_f)
    (cond (eq base zero_f) one_f (clamp_f (div binary32 (local_time mode base elapsed) base) zero_f one_f)))

-- `progress`
abbrev pub progress_of : Track → Float
progress_of k = progress_in k.looping (track_base k) (track_run k) k.clock.elapsed

-- the second that a share stands for, in a track
abbrev pub share_of : Track → Float → Float
share_of k share = share_in (track_base k) (track_run k) share

-- ---- rows and marks

-- an entry with the mark d
abbrev pub marked : Entry → Bool → Entry
marked e d = record { start = e.start; duration = e.duration; done = d }

-- each entry with a mark of its own
abbrev pub marks : List Entry → List Bool → List Entry
marks [] ds = []
marks (e ∷ es) [] = []
marks (e ∷ es) (d ∷ ds) = marked e d ∷ marks es ds

-- the track k with the clock c and these marks
abbrev pub with_marks : Track → Clock → List Bool → Track
with_marks k c ds = record { count = k.count; entries = over (marks (live k) ds) k.entries; clock = c; looping = k.looping }

-- the mark that each step leaves
abbrev pub done_of : List Stepped → List Bool
done_of = map (λ (s : Stepped). s.done)

-- the rows of the steps
abbrev pub rows_of : List Stepped → List Row
rows_of = map (λ s. s.row)

-- the track k with the clock c and the marks that the steps leave
abbrev pub moved : Track → Clock → List Stepped → Track
moved k c ss = with_marks k c (done_of ss)

-- What rows leave in the three lent slices, from what was there: "Rows beyond the entries are not written", and nothing where there are no rows.
pub record Sent (rs : List Row) (k₀ k : List ℕ) (a₀ a p₀ p : List Float) : Type 0 where
  pub kinds : k ≡ over (map (λ r. r.kind) rs) k₀
  pub amounts : a ≡ over (map (λ r. r.amount) rs) a₀
  pub places : p ≡ over (map (λ r. r.place) rs) p₀
