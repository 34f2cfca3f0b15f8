-- What the steps of a call leave of a track: its marks are those of the steps, and everything else of its entries stays.
use mathlib.Core.Path.{◌≡◌, refl, ap, ◌∙◌}
use mathlib.Core.Bool.{Bool}
use mathlib.Core.List.{List, [], ◌∷◌, map}
use native.Mathlib.Omega.{arith}
use lib.ListN.{length, length-take}
use Rattle.steps.specs.declared.Entry.{Entry}
use Rattle.steps.specs.declared.Stepped.{Stepped}
use Rattle.clock.specs.declared.Clock.{Clock}
use Rattle.track.specs.declared.track.Track.{Track}
use Rattle.track.specs.Tracks.{live, marks, done_of, moved}
use Rattle.track.proofs.Marks.{length-marks, marks-within, length_over, take-over, over-own}
use Rattle.history.specs.Entries.{Span, span_of}

-- ---- entries with the marks that their steps leave
marks-spans : (es : List Entry) (ss : List Stepped) → length ss ≡ length es → map span_of (marks es (done_of ss)) ≡ map span_of es
marks-spans [] ss e = refl
marks-spans (x ∷ es) [] e = absurd (omega arith)
marks-spans (x ∷ es) (s ∷ ss) e = ap (λ (l : List Span). span_of x ∷ l) (marks-spans es ss (omega arith))

marks-done : (es : List Entry) (ss : List Stepped) → length ss ≡ length es → map (λ (e : Entry). e.done) (marks es (done_of ss)) ≡ map (λ (s : Stepped). s.done) ss
marks-done [] [] e = refl
marks-done [] (s ∷ ss) e = absurd (omega arith)
marks-done (x ∷ es) [] e = absurd (omega arith)
marks-done (x ∷ es) (s ∷ ss) e = ap (λ (l : List Bool). s.done ∷ l) (marks-done es ss (omega arith))

module _ (k : Track) (c : Clock) (ss : List Stepped) (each : length ss ≡ length (live k)) where
  moved-live : live (moved k c ss) ≡ marks (live k) (done_of ss)
  moved-live = take-over (marks (live k) (done_of ss)) k.entries k.count (marks-within (live k) ss) ∙ over-own (live k) ss each

  pub moved-long : length (moved k c ss).entries ≡ length k.entries
  moved-long = length_over (marks (live k) (done_of ss)) k.entries (omega (arith, length-marks (live k) ss each, length-take k.count k.entries))

  pub moved-spans : map span_of (live (moved k c ss)) ≡ map span_of (live k)
  moved-spans = ap (map span_of) moved-live ∙ marks-spans (live k) ss each

  pub moved-done : map (λ (e : Entry). e.done) (live (moved k c ss)) ≡ map (λ (s : Stepped). s.done) ss
  moved-done = ap (map (λ (e : Entry). e.done)) moved-live ∙ marks-done (live k) ss each
