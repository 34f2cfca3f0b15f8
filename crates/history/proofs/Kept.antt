-- Every call keeps the invariant.
use mathlib.Core.Path.{◌≡◌, refl, sym, ◌∙◌, subst}
use mathlib.Core.Bool.{true, false}
use mathlib.Core.List.{List, [], ◌∷◌, ◌++◌, map}
use Prim.Native.Nat.{ℕ, zero, suc}
use native.Mathlib.Omega.{arith}
use lib.ListN.{get_or, length-set, length-replicate}
use lib.Ieee.{Float, binary32, add, of_bits}
use Rattle.std.specs.Prelude.{Option, Some, None}
use Rattle.float32.specs.Helpers.{nonneg_f}
use Rattle.float32.proofs.Nonneg.{zero_nonneg, max-zero_nonneg}
use Rattle.steps.specs.declared.Entry.{Entry}
use Rattle.steps.specs.Times.{max_entries}
use Rattle.label.specs.Label.{first_with, first_like, label_of}
use Rattle.track.specs.declared.track.Track.{Track}
use Rattle.track.specs.Tracks.{live, track_base, blank, empty_track}
use Rattle.track.specs.Calls.{TrackCall, track_step}
use Rattle.timeline.specs.declared.timeline.At.{At}
use Rattle.timeline.specs.declared.timeline.At.TheVariants.{Absolute, Start, End, Label as Labeled, Offset}
use Rattle.timeline.specs.declared.timeline.Timeline.{Timeline}
use Rattle.timeline.specs.Placements.{empty, blank_label, live_labels, start_found, named_start, resolve_start, new_entry}
use Rattle.timeline.specs.Calls.{Call, On, Out, added_at, with_track, step, after}
use Rattle.history.specs.Entries.{Span, span_of, spans}
use Rattle.history.specs.Invariant.{SoundSpan, AllSound, Invariant, Kept}
use Rattle.history.specs.Claim.{builds}
use Rattle.history.proofs.Runs.{base_nonneg}
use Rattle.history.proofs.Added.{new_span, grown-spans, added-by}
use Rattle.history.proofs.Calls.{call_by}
use Rattle.history.proofs.Stays.{Stays, stays}

-- ---- sound spans
sound_append : (ss : List Span) (s : Span) → AllSound ss → SoundSpan s → AllSound (ss ++ (s ∷ []))
sound_append [] s a h = (h, tt)
sound_append (x ∷ ss) s a h = (a.0, sound_append ss s a.1 h)

sound_at : (es : List Entry) (i : ℕ) → AllSound (map span_of es) → nonneg_f (get_or es i blank).start ≡ true
sound_at [] i a = zero_nonneg
sound_at (e ∷ es) zero a = a.0.start
sound_at (e ∷ es) (suc i) a = sound_at es i a.1

-- ---- where an entry starts
module _ (t : Timeline) (inv : Invariant t) where
  found-sound : (f : Option ℕ) → nonneg_f (start_found t f) ≡ true
  found-sound (Some i) = sound_at (live t.track) i inv.spans
  found-sound None = base_nonneg (live t.track)

  named-sound : (name : List ℕ) → nonneg_f (named_start t name) ≡ true
  unfolding named_start
  named-sound name = found-sound (first_with name (live_labels t))

  start-sound : (at : At) → nonneg_f (resolve_start t at) ≡ true
  unfolding resolve_start
  start-sound (Absolute secs) = max-zero_nonneg secs
  start-sound Start = zero_nonneg
  start-sound End = base_nonneg (live t.track)
  start-sound (Labeled k) = found-sound (first_like k (live_labels t))
  start-sound (Offset offset) = max-zero_nonneg (add binary32 (track_base t.track) offset)

  -- ---- the calls
  added-kept : (name : List ℕ) (start duration : Float) → nonneg_f start ≡ true → Invariant (added_at t name start duration).timeline
  added-kept name start duration h =
      added-by t name start duration (λ (o : Out). Invariant o.timeline) (λ n p. inv)
      (λ room fits. record {
        count = omega arith;
        entries = length-set t.track.entries t.track.count (new_entry start duration) ∙ inv.entries;
        labels = length-set t.labels t.track.count (label_of name) ∙ inv.labels;
        spans =
            rw (grown-spans t name start duration (omega (arith, inv.entries)))
            (sound_append (spans t) (new_span start duration) inv.spans (record { start = h; duration = max-zero_nonneg duration }));
        elapsed = inv.elapsed;
        scale = inv.scale;
      })

  stays-kept : (k : Track) → Stays t.track k → Invariant (with_track t k)
  stays-kept k s =
      record {
        count = omega (arith, s.count, inv.count);
        entries = s.long ∙ inv.entries;
        labels = inv.labels;
        spans = subst AllSound (sym s.spans) inv.spans;
        elapsed = s.clock.elapsed;
        scale = s.clock.scale;
      }

  plays-kept : (call : TrackCall) → builds (On call) ≡ false → Invariant (step t (On call)).timeline
  unfolding step
  plays-kept call b = stays-kept (track_step t.track call).track (stays t.track (record { elapsed = inv.elapsed; scale = inv.scale }) call b)

  pub step_kept : (call : Call) → Invariant (step t call).timeline
  step_kept =
      call_by (λ (call : Call). Invariant (step t call).timeline)
      (λ name at duration. unfold step in added-kept name (resolve_start t at) duration (start-sound at))
      (λ name at duration. unfold step in added-kept name (resolve_start t at) duration (start-sound at))
      (λ name target duration. unfold step in added-kept name (named_start t target) duration (named-sound target))
      (λ mode. unfold step track_step in record { count = inv.count; entries = inv.entries; labels = inv.labels; spans = inv.spans; elapsed = inv.elapsed; scale = inv.scale })
      plays-kept

pub empty-kept : Invariant empty
unfolding empty empty_track
empty-kept =
    record {
      count = omega arith;
      entries = length-replicate max_entries blank;
      labels = length-replicate max_entries blank_label;
      spans = tt;
      elapsed = λ p. zero_nonneg;
      scale = unfold of_bits in refl;
    }

pub after_kept : (t : Timeline) (calls : List Call) → Invariant t → Invariant (after t calls)
unfolding after
after_kept t [] inv = inv
after_kept t (call ∷ calls) inv = after_kept (step t call).timeline calls (step_kept t inv call)

pub kept : Kept
kept = record { new = empty-kept; each = λ t call inv. step_kept t inv call; list = λ calls. after_kept empty calls empty-kept }
