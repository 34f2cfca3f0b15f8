-- What depends on the entries' starts and durations alone, whatever the marks; and on the labels' texts alone.
use mathlib.Core.Path.{◌≡◌, refl, sym, ap, ap₂, ◌∙◌}
use mathlib.Core.Bool.{false, cond}
use mathlib.Core.List.{List, [], ◌∷◌, map, foldl}
use Prim.Native.Nat.{ℕ, ◌+◌}
use lib.Dec.{ltb}
use lib.ListN.{length, get_or, length-map, get_or-map}
use lib.Ieee.{Float, binary32, add}
use Rattle.std.specs.Prelude.{Option, Some, None}
use Rattle.float32.specs.Helpers.{zero_f, max_f}
use Rattle.tween.specs.declared.loop_mode.Loop.{Loop}
use Rattle.steps.specs.declared.Entry.{Entry}
use Rattle.steps.specs.Times.{end_at, base_of, run_of, local_time}
use Rattle.steps.specs.Rows.{synced}
use Rattle.completions.proofs.Ends.{base_of_ends}
use Rattle.label.specs.declared.Label.{Label}
use Rattle.label.specs.Label.{text, same_text, first_from, first_with, first_like, no_label}
use Rattle.track.specs.Tracks.{live, track_base, track_run, blank}
use Rattle.timeline.specs.declared.timeline.At.{At}
use Rattle.timeline.specs.declared.timeline.At.TheVariants.{Absolute, Start, End, Label as Labeled, Offset}
use Rattle.timeline.specs.declared.timeline.Timeline.{Timeline}
use Rattle.timeline.specs.Placements.{live_labels, start_found, named_start, resolve_start}
use Rattle.history.specs.Entries.{Span, span_of, SameEntries}

-- ---- lists of entries with the same spans
-- the entry of a span, not done
abbrev unmarked : Span → Entry
unmarked s = record { start = s.start; duration = s.duration; done = false }

map-unmarked : {A : Type 0} (f : Entry → A) → ((e : Entry) → f e ≡ f (unmarked (span_of e))) → (es : List Entry) → map f es ≡ map (λ (s : Span). f (unmarked s)) (map span_of es)
map-unmarked f h [] = refl
map-unmarked f h (e ∷ es) = ap₂ (λ (x : _) (xs : List _). x ∷ xs) (h e) (map-unmarked f h es)

module _ (es fs : List Entry) (same : map span_of es ≡ map span_of fs) where
  -- what does not look at the mark
  pub map_same : {A : Type 0} (f : Entry → A) → ((e : Entry) → f e ≡ f (unmarked (span_of e))) → map f es ≡ map f fs
  map_same f h = map-unmarked f h es ∙ ap (map (λ (s : Span). f (unmarked s))) same ∙ sym (map-unmarked f h fs)

  pub length-same : length es ≡ length fs
  length-same = sym (length-map es span_of) ∙ ap length same ∙ length-map fs span_of

  pub base_same : base_of es ≡ base_of fs
  base_same = sym (base_of_ends es) ∙ ap (foldl max_f zero_f) (map_same end_at (λ e. refl)) ∙ base_of_ends fs

  -- the rows and marks that synchronising gives
  pub synced-same : (t : Float) → map (synced t) es ≡ map (synced t) fs
  unfolding synced
  synced-same t = map_same (synced t) (λ e. refl)

  pub start-same : (i : ℕ) → (get_or es i blank).start ≡ (get_or fs i blank).start
  start-same i =
      let start : Entry → Float = λ e. e.start in
      sym (get_or-map start es i blank) ∙ ap (λ (xs : List Float). get_or xs i zero_f) (map_same start (λ e. refl)) ∙ get_or-map start fs i blank

-- ---- lists of labels with the same texts
first_in : ℕ → List ℕ → List (List ℕ) → Option ℕ
first_in i name [] = None
first_in i name (x ∷ xs) = cond (same_text x name) (Some i) (first_in (i + 1) name xs)

first_in_lem : (i : ℕ) (name : List ℕ) (ls : List Label) → first_from i name ls ≡ first_in i name (map text ls)
unfolding first_from first_in
first_in_lem i name [] = refl
first_in_lem i name (l ∷ ls) = ap (cond (same_text (text l) name) (Some i)) (first_in_lem (i + 1) name ls)

module _ (ls ms : List Label) (same : map text ls ≡ map text ms) where
  pub first_same : (name : List ℕ) → first_with name ls ≡ first_with name ms
  first_same name = first_in_lem 0 name ls ∙ ap (first_in 0 name) same ∙ sym (first_in_lem 0 name ms)

  text_same : (k : ℕ) → text (get_or ls k no_label) ≡ text (get_or ms k no_label)
  text_same k = sym (get_or-map text ls k no_label) ∙ ap (λ (xs : List (List ℕ)). get_or xs k []) same ∙ get_or-map text ms k no_label

  count_same : length ls ≡ length ms
  count_same = sym (length-map ls text) ∙ ap length same ∙ length-map ms text

  pub like-same : (k : ℕ) → first_like k ls ≡ first_like k ms
  unfolding first_like
  like-same k = ap₂ (λ (n : ℕ) (f : Option ℕ). cond (ltb k n) f None) count_same (first_same (text (get_or ls k no_label)) ∙ ap (λ (x : List ℕ). first_with x ms) (text_same k))

-- ---- timelines of the same entries and loop mode
module _ {t u : Timeline} (s : SameEntries t u) where
  pub bases : track_base t.track ≡ track_base u.track
  bases = base_same (live t.track) (live u.track) s.spans

  pub runs : track_run t.track ≡ track_run u.track
  runs = ap₂ run_of s.mode bases

  pub locals : (elapsed : Float) → local_time t.track.looping (track_base t.track) elapsed ≡ local_time u.track.looping (track_base u.track) elapsed
  locals elapsed = ap₂ (λ (m : Loop) (b : Float). local_time m b elapsed) s.mode bases

  pub lengths : length (live t.track) ≡ length (live u.track)
  lengths = length-same (live t.track) (live u.track) s.spans

  -- the start of what is found
  found-starts : (f : Option ℕ) → start_found t f ≡ start_found u f
  found-starts (Some i) = start-same (live t.track) (live u.track) s.spans i
  found-starts None = bases

  pub named-starts : (name : List ℕ) → named_start t name ≡ named_start u name
  unfolding named_start
  named-starts name = found-starts (first_with name (live_labels t)) ∙ ap (start_found u) (first_same (live_labels t) (live_labels u) s.labels name)

  pub starts : (at : At) → resolve_start t at ≡ resolve_start u at
  unfolding resolve_start
  starts (Absolute secs) = refl
  starts Start = refl
  starts End = bases
  starts (Labeled k) = found-starts (first_like k (live_labels t)) ∙ ap (start_found u) (like-same (live_labels t) (live_labels u) s.labels k)
  starts (Offset offset) = ap (λ (b : Float). max_f (add binary32 b offset) zero_f) bases

-- the same as itself, and through a third
pub same_refl : {t : Timeline} → SameEntries t t
same_refl = record { labels = refl; spans = refl; mode = refl }

pub same_trans : {t u v : Timeline} → SameEntries t u → SameEntries u v → SameEntries t v
same_trans a b = record { labels = a.labels ∙ b.labels; spans = a.spans ∙ b.spans; mode = a.mode ∙ b.mode }
