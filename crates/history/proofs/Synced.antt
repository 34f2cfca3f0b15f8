-- A track whose marks are those of synchronising it at its elapsed time, and whose elapsed time a seek keeps: what noting calls leave.
use mathlib.Core.Path.{◌≡◌, refl, sym, ap, ◌∙◌}
use mathlib.Core.Bool.{Bool, true, false}
use mathlib.Core.List.{List, map, map-map}
use Prim.Native.Nat.{ℕ}
use lib.ListN.{length, length-map}
use lib.Ieee.{Float, eq, is_nan}
use Rattle.float32.specs.Helpers.{zero_f, min_f, finite_f, nonneg_f}
use Rattle.float32.proofs.MaxMin.{min-le}
use Rattle.float32.proofs.Nonneg.{nonneg_no_nan}
use Rattle.tween.specs.LoopMode.{is_once}
use Rattle.steps.specs.declared.Entry.{Entry}
use Rattle.steps.specs.declared.Stepped.{Stepped}
use Rattle.steps.specs.Times.{run_of, local_time}
use Rattle.steps.specs.Rows.{synced}
use Rattle.clock.specs.declared.Clock.{Clock}
use Rattle.track.specs.declared.track.Track.{Track}
use Rattle.clock.specs.Clocks.{seek_to, sought, reach_of, advanced_clock}
use Rattle.track.specs.Tracks.{live, track_base, track_run, moved}
use Rattle.track.specs.Updates.{advanced}
use Rattle.track.specs.Calls.{advanced_to}
use Rattle.history.specs.Entries.{span_of}
use Rattle.history.specs.Invariant.{NotBelow}
use Rattle.history.proofs.Runs.{base_nonneg, run_nonneg, seek-nonneg, seek-most, seek-stays, endless-most, min-not_below, reach_by}
use Rattle.history.proofs.Spans.{map_same, base_same}
use Rattle.history.proofs.Marks.{moved-spans, moved-done}
use Rattle.history.proofs.Sending.{sought_clock, sought_all}

-- the marks that synchronising at the local time t sets
abbrev pub marks_at : Float → List Entry → List Bool
marks_at t es = map (λ (e : Entry). (synced t e).done) es

pub marks-at_same : (t : Float) (es fs : List Entry) → map span_of es ≡ map span_of fs → marks_at t es ≡ marks_at t fs
unfolding synced
marks-at_same t es fs s = map_same es fs s (λ (e : Entry). (synced t e).done) (λ e. refl)

-- the local time at an elapsed time
abbrev pub local_at : Track → Float → Float
local_at k elapsed = local_time k.looping (track_base k) elapsed

-- a seek to this elapsed time stays at it
abbrev Keeps : Track → Float → Type 0
Keeps k elapsed = is_nan elapsed ≡ false → seek_to (track_run k) elapsed ≡ elapsed

pub record Synced (k : Track) : Type 0 where
  pub marks : map (λ (e : Entry). e.done) (live k) ≡ marks_at (local_at k k.clock.elapsed) (live k)
  pub stays : Keeps k k.clock.elapsed

-- ---- a track that is synchronised where the clock c stands
module _ (k : Track) (c : Clock) where
  abbrev steps : List Stepped
  steps = map (synced (local_at k c.elapsed)) (live k)

  each : length steps ≡ length (live k)
  each = length-map (live k) (synced (local_at k c.elapsed))

  -- the marks that it leaves
  pub sync-marks : map (λ (e : Entry). e.done) (live (moved k c steps)) ≡ marks_at (local_at k c.elapsed) (live k)
  sync-marks = moved-done k c steps each ∙ map-map (λ (s : Stepped). s.done) (synced (local_at k c.elapsed)) (live k)

  sync-base : track_base (moved k c steps) ≡ track_base k
  sync-base = base_same (live (moved k c steps)) (live k) (moved-spans k c steps each)

  sync-synced : Keeps k c.elapsed → Synced (moved k c steps)
  sync-synced h =
      record {
        marks =
            sync-marks ∙ sym (marks-at_same (local_at k c.elapsed) (live (moved k c steps)) (live k) (moved-spans k c steps each))
            ∙ ap (λ (b : Float). marks_at (local_time k.looping b c.elapsed) (live (moved k c steps))) (sym sync-base);
        stays = λ p. ap (λ (b : Float). seek_to (run_of k.looping b) c.elapsed) sync-base ∙ h p;
      }

-- ---- by a seek, and by an update in a mode other than Once
module _ (k : Track) where
  pub run_sound : nonneg_f (track_run k) ≡ true
  run_sound = run_nonneg k.looping (track_base k) (base_nonneg (live k))

  pub sought-synced : (secs : Float) → Synced (sought_all k secs).track
  unfolding sought
  sought-synced secs = sync-synced k (sought_clock k secs) (λ p. seek-stays (track_run k) run_sound (seek_to (track_run k) secs) (seek-nonneg (track_run k) run_sound secs) (seek-most (track_run k) run_sound secs))

  -- where the run bounds the update, and where it is endless
  bounded-kept : (next : Float) → NotBelow next → Keeps k (min_f next (track_run k))
  bounded-kept next h p =
      seek-stays (track_run k) run_sound (min_f next (track_run k)) (min-not_below next (track_run k) h run_sound p) (min-le next (track_run k) (nonneg_no_nan (track_run k) run_sound))

  endless-kept : (next : Float) → NotBelow next → finite_f (track_run k) ≡ false → Keeps k next
  endless-kept next h e p = seek-stays (track_run k) run_sound next (h p) (endless-most (track_run k) run_sound next e p)

  pub advanced-synced : (prev next : Float) (rs : List ℕ) → NotBelow next → eq (track_base k) zero_f ≡ false → is_once k.looping ≡ false
      → Synced (advanced_to k (advanced k.looping (live k) (track_base k) prev next rs)).track
  unfolding advanced_to advanced advanced_clock
  advanced-synced prev next rs h z once =
      let to = reach_of k.looping (track_base k) next in
      rw once (sync-synced k (advanced_clock k.clock to.elapsed to.ended) (reach_by (Keeps k) k.looping (track_base k) next z (bounded-kept next h) (endless-kept next h)))
