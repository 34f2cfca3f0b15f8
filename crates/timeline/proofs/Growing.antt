-- A timeline with one entry more: when `added_at` grows it and when it refuses, and what counts afterwards.
use Prim.Native.Nat.{ℕ, zero, suc, ◌+◌, ◌<◌, ◌≤◌}
use mathlib.Core.Path.{◌≡◌, refl, ap, ◌∙◌}
use mathlib.Core.List.{List, [], ◌∷◌, ◌++◌, foldl}
use native.Mathlib.Nat.{not-suc-le-zero, le_of_suc-le-suc}
use native.Mathlib.Numerals.{add-one}
use borrow.Author.Tests.{le-leb, lt-leb, le-ltb, lt-ltb}
use lib.ListN.{length, take, get_or, set}
use lib.Seq.{take-suc-set}
use lib.Ieee.{Float}
use Rattle.refusal.specs.Refusal.{accepted, timeline_full, label_too_long}
use Rattle.steps.specs.declared.Entry.{Entry}
use Rattle.steps.specs.Times.{max_entries, later, base_of}
use Rattle.label.specs.Label.{max_label, label_of}
use Rattle.track.specs.declared.track.Track.{Track}
use Rattle.track.specs.Tracks.{live, track_base}
use Rattle.timeline.specs.declared.timeline.Timeline.{Timeline}
use Rattle.timeline.specs.Placements.{live_labels, grown_track, grown}
use Rattle.timeline.specs.Calls.{silent, added_at}

-- below the length, what an index past the end would read does not matter
pub get_d_any : {A : Type 0} (l : List A) (i : ℕ) (d e : A) → i < length l → get_or l i d ≡ get_or l i e
get_d_any [] i d e h = absurd (not-suc-le-zero h)
get_d_any (x ∷ l) zero d e h = refl
get_d_any (x ∷ l) (suc i) d e h = get_d_any l i d e (le_of_suc-le-suc h)

-- the first n + 1 of a list whose element n was set
pub take-grown : {A : Type 0} (l : List A) (n : ℕ) (x : A) → n < length l → take (n + 1) (set l n x) ≡ take n l ++ (x ∷ [])
take-grown l n x h = rw (add-one, take-suc-set l n x h)

-- a fold over one element more
pub fold-last : {A B : Type 0} (f : B → A → B) (b : B) (l : List A) (x : A) → foldl f b (l ++ (x ∷ [])) ≡ f (foldl f b l) x
fold-last f b [] x = refl
fold-last f b (y ∷ l) x = fold-last f (f b y) l x

module _ (k : Track) (e : Entry) where
  -- the entries that count are those from before, and the new one
  pub live-grown : k.count < length k.entries → live (grown_track k e) ≡ live k ++ (e ∷ [])
  live-grown h = take-grown k.entries k.count e h

  -- the base is the later of what it was and the new entry's end
  pub base-grown : k.count < length k.entries → track_base (grown_track k e) ≡ later (track_base k) e
  unfolding base_of
  base-grown h = ap base_of (live-grown h) ∙ fold-last later _ (live k) e

module _ (t : Timeline) (name : List ℕ) (start duration : Float) where
  -- likewise the labels
  pub labels-grown : t.track.count < length t.labels → live_labels (grown t name start duration) ≡ live_labels t ++ (label_of name ∷ [])
  labels-grown h = take-grown t.labels t.track.count (label_of name) h

  -- 1, whatever the label
  pub full : max_entries ≤ t.track.count → added_at t name start duration ≡ silent timeline_full t
  unfolding added_at
  full h = rw (le-leb max_entries t.track.count h)

  -- 2, where there is room
  pub too_long : t.track.count < max_entries → max_label < length name → added_at t name start duration ≡ silent label_too_long t
  unfolding added_at
  too_long h l = rw (lt-leb max_entries t.track.count h, lt-ltb max_label (length name) l)

  -- accepted
  pub grows : t.track.count < max_entries → length name ≤ max_label → added_at t name start duration ≡ silent accepted (grown t name start duration)
  unfolding added_at
  grows h l = rw (lt-leb max_entries t.track.count h, le-ltb max_label (length name) l)
