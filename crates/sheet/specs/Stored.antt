-- What a sheet was before panels had up to 256 entries: its checks, its description and its panel. They are here for the claims alone
-- that stored sheets keep their reading, and what an older reader or log makes of a longer sheet. What has not changed since is today's
-- definition: who changes one of those says here what it was. Definitions only.
use Rattle.std.specs.Prelude.{ℕ, ◌-◌, Bool, true, false, cond, not, ◌&&◌, List, [], ◌∷◌, ◌++◌, eqb, leb, ltb, length, drop, replicate}
use Rattle.refusal.specs.Refusal.{accepted, timeline_full, sheet_version, sheet_length, sheet_count, sheet_loop, sheet_zero, refused_if, in_turn}
use Rattle.tween.specs.declared.loop_mode.Loop.TheVariants.{Once}
use Rattle.tween.specs.LoopMode.{loop_of}
use Rattle.steps.specs.Times.{max_entries}
use Rattle.clock.specs.Clocks.{new_clock}
use Rattle.track.specs.declared.track.Track.{Track}
use Rattle.track.specs.Tracks.{blank}
use Rattle.timeline.specs.declared.timeline.Timeline.{Timeline}
use Rattle.timeline.specs.Placements.{blank_label}
use Rattle.timeline.specs.Calls.{Call, Add, AddBoxed, AddAtLabel, On, Out, silent, step}
use Rattle.words.specs.Words.{byte_at, word}
use Rattle.sheet_rules.specs.Rules.{header_size, labels_at, loop_good}
use Rattle.sheet_format.specs.declared.description.Item.{Item}
use Rattle.sheet_format.specs.declared.description.Description.{Description}
use Rattle.sheet_format.specs.Check.{records_at, pairs_number, records_number}
use Rattle.sheet_format.specs.Descriptions.{blank_item, items_from}
use Rattle.sheet.specs.Build.{calls_of, NumberedReading}

-- "At most 64 entries"
abbrev pub old_max_entries : ℕ
old_max_entries = 64

-- ---- the checks: those of pairs and records have not changed

-- "1 count n"
abbrev pub old_count_in : List ℕ → ℕ
old_count_in s = byte_at s 1

-- "6; 12 for byte 3; 8; 9; 7 if below 12 + 16n", of a sheet of len bytes
abbrev pub old_header_refusal : ℕ → ℕ → ℕ → ℕ → ℕ → ℕ → ℕ
old_header_refusal len version n mode reserved number =
    refused_if (not (eqb version 1)) sheet_version
    (refused_if (not (eqb reserved 0)) sheet_zero
    (refused_if (ltb old_max_entries n) sheet_count
    (refused_if (not (loop_good mode number)) sheet_loop
    (refused_if (ltb len (labels_at n)) sheet_length accepted))))

-- "7 if below 12 bytes", then the other checks of the header
unfoldable pub old_header_number : List ℕ → ℕ
old_header_number s =
    refused_if (ltb (length s) header_size) sheet_length
    (old_header_refusal (length s) (byte_at s 0) (old_count_in s) (byte_at s 2) (byte_at s 3) (word 4 (drop 4 s)))

-- the refusal of any byte string; 0 is accepted
unfoldable pub old_check_number : List ℕ → ℕ
old_check_number s =
    in_turn (old_header_number s)
    (in_turn (pairs_number (length s) (labels_at (old_count_in s)) (old_count_in s) (drop header_size s))
    (records_number (old_count_in s) (old_count_in s) (drop (records_at (old_count_in s)) s)))

-- ---- the description

-- all entries of an accepted sheet
abbrev pub old_items : List ℕ → List Item
old_items s = items_from s (old_count_in s) (drop header_size s) (drop (records_at (old_count_in s)) s)

-- the description that an accepted sheet said, raw bits kept; slots past the count were blank
unfoldable pub old_description_in : List ℕ → Description
old_description_in s =
    record {
      count = old_count_in s;
      looping = loop_of (byte_at s 2) (word 4 (drop 4 s));
      time_scale = word 4 (drop 8 s);
      items = old_items s ++ replicate (old_max_entries - old_count_in s) blank_item;
    }

-- ---- the panel

-- `Timeline::new`
unfoldable pub old_empty : Timeline
old_empty =
    record {
      track = record { count = 0; entries = replicate old_max_entries blank; clock = new_clock; looping = Once };
      labels = replicate old_max_entries blank_label;
    }

-- a call adds an entry
abbrev pub adds : Call → Bool
adds (Add label at duration) = true
adds (AddBoxed label at duration) = true
adds (AddAtLabel label target duration) = true
adds (On call) = false

-- "1: an entry past the 64th", before all else; where there was room a call did what it does now
unfoldable pub old_step : Timeline → Call → Out
old_step t call = cond (adds call && leb old_max_entries t.track.count) (silent timeline_full t) (step t call)

-- the timeline that a list of calls left, each on what the one before left
unfoldable pub old_after : Timeline → List Call → Timeline
old_after t [] = t
old_after t (c ∷ cs) = old_after (old_step t c).timeline cs

-- "the panel that `add` and the setters build from it"
abbrev pub old_built : Description → Timeline
old_built d = old_after old_empty (calls_of d)

-- the reader's answer for an accepted sheet
abbrev pub old_reading_in : List ℕ → NumberedReading
old_reading_in s = record { refusal = accepted; described = old_description_in s; timeline = old_built (old_description_in s) }

-- ---- what was read then, in the arrays of now

-- the slots by which an array is longer
abbrev pub more_slots : {A : Type 0} → A → List A
more_slots x = replicate (max_entries - old_max_entries) x

-- the same description; the added slots are blank
abbrev pub longer_description : Description → Description
longer_description d = record { count = d.count; looping = d.looping; time_scale = d.time_scale; items = d.items ++ more_slots blank_item }

-- likewise what plays
abbrev pub longer_track : Track → Track
longer_track k = record { count = k.count; entries = k.entries ++ more_slots blank; clock = k.clock; looping = k.looping }

-- likewise the panel
abbrev pub longer_panel : Timeline → Timeline
longer_panel t = record { track = longer_track t.track; labels = t.labels ++ more_slots blank_label }

-- likewise what is read
abbrev pub longer_reading : NumberedReading → NumberedReading
longer_reading r = record { refusal = r.refusal; described = longer_description r.described; timeline = longer_panel r.timeline }
