-- Calls made in place leave and answer what the same calls do by value.
use Prim.Native.Nat.{min}
use mathlib.Core.Path.{◌≡◌, refl, sym, ap, ◌∙◌, subst}
use mathlib.Core.Bool.{true}
use mathlib.Core.List.{List, [], ◌∷◌, map}
use native.Mathlib.Omega.{arith}
use lib.Dec.{eqb}
use lib.ListN.{length, take}
use lib.Seq.{take_all, take-length}
use Rattle.refusal.specs.Refusal.{accepted}
use Rattle.steps.specs.declared.Entry.{Entry}
use Rattle.steps.specs.Slices.{over}
use Rattle.steps.specs.Times.{max_entries}
use Rattle.track.specs.declared.track.Track.{Track}
use Rattle.track.specs.Tracks.{live, with_only}
use Rattle.track.specs.Columns.{trimmed, laid_over}
use Rattle.track.specs.Calls.{TrackCall, SeekAbs, TrackOut, track_step}
use Rattle.track.proofs.Marks.{over-over, over-part, over-all}
use Rattle.track.proofs.Trimmed.{whole, part}
use Rattle.timeline.specs.declared.timeline.Timeline.{Timeline}
use Rattle.timeline.specs.Calls.{On, Out, with_track, on_track, step, after}
use Rattle.history.specs.Invariant.{Invariant}
use Rattle.history.specs.Claim.{Sought}
use Rattle.history.specs.InPlace.{track_after, in_columns, by_value, gathered, gathered_out, in_place, StandsWhole, PlayedInPlace}
use Rattle.history.proofs.Kept.{step_kept, after_kept}
use Rattle.history.proofs.Built.{count_live}
use Rattle.history.proofs.Claim.{seeks}

-- ---- what stands in the columns
-- before the first call
pub stands : (t : Timeline) → StandsWhole t
unfolding track_after
stands t head starts durations marks s d m l =
    let room = min (length starts.entry.now) (min (length durations.entry.now) (length marks.entry.now)) in
    l.track ∙ ap (with_only t.track) (take_all room (live t.track) (omega (arith, s, d, m)))

-- after them
columns : (t : Timeline) (calls : List TrackCall) → in_columns t calls ≡ trimmed (by_value t calls).track
unfolding track_after after step
columns t [] = refl
columns t (call ∷ calls) = ap (λ (k : Track). track_after k calls) (part t.track call) ∙ columns (step t (On call)).timeline calls

-- ---- what is gathered
-- the timeline u is t, but for its live entries, its clock and its mode
record Laid (t u : Timeline) : Type 0 where
  count : u.track.count ≡ t.track.count
  entries : over (live u.track) t.track.entries ≡ u.track.entries
  labels : u.labels ≡ t.labels

step-laid : (t : Timeline) (call : TrackCall) → Laid t (step t (On call)).timeline
unfolding step
step-laid t call =
    let k = t.track in
    record {
      count = ap (λ (o : TrackOut). o.track.count) (whole k call);
      entries = ap (λ (q : Track). over q.entries k.entries) (sym (part k call)) ∙ sym (ap (λ (o : TrackOut). o.track.entries) (whole k call));
      labels = refl;
    }

laid_trans : (t u v : Timeline) → Invariant u → Invariant v → Laid t u → Laid u v → Laid t v
laid_trans t u v inv inv' a b =
    let es = live u.track in
    let fs = live v.track in
    let same : length fs ≡ length es = count_live v inv' ∙ b.count ∙ sym (count_live u inv) in
    record {
      count = b.count ∙ a.count;
      entries =
          ap (λ (l : List Entry). over l t.track.entries) (sym (over-all fs es same))
          ∙ over-over fs es t.track.entries (omega (arith, same))
          ∙ ap (over fs) a.entries ∙ b.entries;
      labels = b.labels ∙ a.labels;
    }

after-laid : (t : Timeline) (calls : List TrackCall) → Invariant t → Laid t (by_value t calls)
unfolding after
after-laid t [] inv = record { count = refl; entries = over-part t.track.count t.track.entries; labels = refl }
after-laid t (call ∷ calls) inv =
    let u = (step t (On call)).timeline in
    let inv' = step_kept t inv (On call) in
    laid_trans t u (by_value u calls) inv' (after_kept u (map On calls) inv') (step-laid t call) (after-laid u calls inv')

-- gathering its live entries over t gives u
laid_back : (t u : Timeline) → Invariant u → Laid t u → gathered t (trimmed u.track) ≡ u
unfolding laid_over
laid_back t u inv l =
    let es = live u.track in
    let n = count_live u inv in
    let own : take max_entries (live (trimmed u.track)) ≡ es = ap (take max_entries) (take-length es) ∙ take_all max_entries es (omega (arith, n, inv.count)) in
    rw (own, l.entries, n, ← l.labels)

-- ---- one call more
module _ (t : Timeline) (calls : List TrackCall) (inv : Invariant t) where
  abbrev u : Timeline
  u = by_value t calls

  sound : Invariant u
  sound = after_kept t (map On calls) inv

  answers : (call : TrackCall) → in_place t calls call ≡ step u (On call)
  unfolding step
  answers call =
      let o = track_step (trimmed u.track) call in
      let v = (step u (On call)).timeline in
      let inv' = step_kept u sound (On call) in
      let left : gathered t o.track ≡ v = ap (gathered t) (part u.track call) ∙ laid_back t v inv' (laid_trans t u v sound inv' (after-laid t calls inv) (step-laid u call)) in
      ap (λ (k : Track). gathered_out t (track_step k call)) (columns t calls)
      ∙ ap (λ (x : Timeline). record { refusal = o.refusal; timeline = x; rows = o.rows; running = o.running; completed = o.completed; listed = o.listed })
      (left ∙ ap (λ (x : TrackOut). with_track u x.track) (whole u.track call))
      ∙ sym (ap (on_track u) (whole u.track call))

  pub played : PlayedInPlace t calls
  played =
      record {
        columns = columns t calls;
        back = ap (gathered t) (columns t calls) ∙ laid_back t u sound (after-laid t calls inv);
        answers = answers;
        seeks = λ secs room a.
            subst (Sought u secs room) (sym (answers (SeekAbs secs room)))
            (seeks u secs room (subst (λ (o : Out). eqb o.refusal accepted ≡ true) (answers (SeekAbs secs room)) a));
      }
