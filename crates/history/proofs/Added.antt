-- The calls that add an entry: refused, and nothing is changed; or accepted, and there is one entry more.
use mathlib.Core.Path.{◌≡◌, refl, sym, ap, ap₂, ◌∙◌}
use mathlib.Core.Bool.{Bool, true, false, cond, false≢true}
use mathlib.Core.List.{List, [], ◌∷◌, ◌++◌, map, map-append}
use Prim.Native.Nat.{ℕ, ◌+◌, ◌<◌, ◌≤◌}
use native.Mathlib.Numerals.{add-one}
use lib.Dec.{eqb, leb, ltb}
use lib.ListN.{length, take, set}
use lib.Seq.{take-suc-set}
use lib.Ieee.{Float}
use borrow.Author.Tests.{ltb-false, leb-false, lt-leb, le-ltb}
use Rattle.refusal.specs.Refusal.{accepted, timeline_full, label_too_long}
use Rattle.steps.specs.Times.{max_entries}
use Rattle.label.specs.Label.{max_label, text, label_of}
use Rattle.timeline.specs.declared.timeline.Timeline.{Timeline}
use Rattle.timeline.specs.Placements.{new_entry, grown}
use Rattle.timeline.specs.Calls.{Out, silent, added_at}
use Rattle.history.specs.Entries.{Span, span_of, spans, texts, SameEntries}

-- ---- one entry more
map-grown : {A B : Type 0} (f : A → B) (xs : List A) (n : ℕ) (x : A) → n < length xs → map f (take (n + 1) (set xs n x)) ≡ map f (take n xs) ++ (f x ∷ [])
map-grown f xs n x h = rw (add-one, take-suc-set xs n x h, map-append)

abbrev pub new_span : Float → Float → Span
new_span start duration = span_of (new_entry start duration)

module _ (t : Timeline) (name : List ℕ) (start duration : Float) where
  pub grown-spans : t.track.count < length t.track.entries → spans (grown t name start duration) ≡ spans t ++ (new_span start duration ∷ [])
  grown-spans h = map-grown span_of t.track.entries t.track.count (new_entry start duration) h

  pub grown-texts : t.track.count < length t.labels → texts (grown t name start duration) ≡ texts t ++ (text (label_of name) ∷ [])
  grown-texts h = map-grown text t.labels t.track.count (label_of name) h

-- the same entry more, on timelines of the same entries that have room
pub grown-same : (t u : Timeline) (name : List ℕ) (start start' duration : Float)
    → t.track.count < length t.track.entries → t.track.count < length t.labels → u.track.count < length u.track.entries → u.track.count < length u.labels
    → SameEntries t u → start ≡ start' → SameEntries (grown t name start duration) (grown u name start' duration)
grown-same t u name start start' duration he hl he' hl' s e =
    record {
      labels = grown-texts t name start duration hl ∙ ap (λ (xs : List (List ℕ)). xs ++ (text (label_of name) ∷ [])) s.labels ∙ sym (grown-texts u name start' duration hl');
      spans =
          grown-spans t name start duration he ∙ ap₂ (λ (xs : List Span) (x : Float). xs ++ (new_span x duration ∷ [])) s.spans e
          ∙ sym (grown-spans u name start' duration he');
      mode = s.mode;
    }

-- ---- by the refusals
module _ (t : Timeline) (name : List ℕ) (start duration : Float) where
  pub added-by : (P : Out → Type 0) → ((n : ℕ) → eqb n accepted ≡ false → P (silent n t))
      → (t.track.count < max_entries → length name ≤ max_label → P (silent accepted (grown t name start duration))) → P (added_at t name start duration)
  unfolding added_at
  added-by P refused taken = go (leb max_entries t.track.count) (ltb max_label (length name)) refl refl
    where
      go : (full long : Bool) → leb max_entries t.track.count ≡ full → ltb max_label (length name) ≡ long
          → P (cond full (silent timeline_full t) (cond long (silent label_too_long t) (silent accepted (grown t name start duration))))
      go true long p q = refused timeline_full refl
      go false true p q = refused label_too_long refl
      go false false p q = taken (leb-false max_entries t.track.count p) (ltb-false max_label (length name) q)

  pub added_is : t.track.count < max_entries → length name ≤ max_label → added_at t name start duration ≡ silent accepted (grown t name start duration)
  unfolding added_at
  added_is h k = rw (lt-leb max_entries t.track.count h, le-ltb max_label (length name) k)

  pub added-room : eqb (added_at t name start duration).refusal accepted ≡ true → (t.track.count < max_entries) × (length name ≤ max_label)
  added-room =
      added-by (λ (o : Out). eqb o.refusal accepted ≡ true → (t.track.count < max_entries) × (length name ≤ max_label))
      (λ n p q. absurd (false≢true (sym p ∙ q))) (λ h k q. (h, k))
