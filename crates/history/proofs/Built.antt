-- A list's own accepted calls that add an entry or set the loop mode make a timeline of the same entries and mode.
use mathlib.Core.Path.{◌≡◌, refl, sym, ap, ◌∙◌}
use mathlib.Core.Bool.{Bool, true, false, ◌&&◌, true≢false, false≢true}
use mathlib.Core.List.{List, [], ◌∷◌, map}
use Prim.Native.Nat.{ℕ, ◌<◌}
use native.Mathlib.Omega.{arith}
use lib.Dec.{eqb}
use lib.ListN.{length, take}
use lib.Seq.{length-take-le}
use lib.Ieee.{Float}
use Rattle.refusal.specs.Refusal.{accepted}
use Rattle.steps.specs.Times.{max_entries}
use Rattle.label.specs.Label.{text}
use Rattle.track.specs.declared.track.Track.{Track}
use Rattle.track.specs.Tracks.{live}
use Rattle.track.specs.Calls.{TrackCall, track_step}
use Rattle.timeline.specs.declared.timeline.Timeline.{Timeline}
use Rattle.timeline.specs.Placements.{named_start, resolve_start}
use Rattle.timeline.specs.Calls.{Call, On, Out, added_at, with_track, step, after}
use Rattle.std.proofs.lemmas.Bool.{and_parts}
use Rattle.history.specs.Entries.{SameEntries}
use Rattle.history.specs.Invariant.{Invariant}
use Rattle.history.specs.Claim.{is_accepted, builds, AllBuild, keep_call, own_build}
use Rattle.history.proofs.Spans.{same_refl, same_trans, lengths, named-starts, starts}
use Rattle.timeline.proofs.Growing.{grows}
use Rattle.history.proofs.Added.{grown-same, added-by, added-room}
use Rattle.history.proofs.Calls.{call_by}
use Rattle.history.proofs.Stays.{Stays, stays}
use Rattle.history.proofs.Kept.{step_kept}

-- ---- a call that is none of these changes no entry but for its mark, and no mode
pub stays_same : (t : Timeline) (k : Track) → Stays t.track k → SameEntries (with_track t k) t
stays_same t k s = record { labels = ap (λ (n : ℕ). map text (take n t.labels)) s.count; spans = s.spans; mode = s.looping }

module _ (t : Timeline) (inv : Invariant t) where
  pub plays-same : (call : TrackCall) → builds (On call) ≡ false → SameEntries (step t (On call)).timeline t
  unfolding step
  plays-same call b = stays_same t (track_step t.track call).track (stays t.track (record { elapsed = inv.elapsed; scale = inv.scale }) call b)

  refused-same : (name : List ℕ) (start duration : Float) → eqb (added_at t name start duration).refusal accepted ≡ false → SameEntries (added_at t name start duration).timeline t
  refused-same name start duration =
      added-by t name start duration (λ (o : Out). eqb o.refusal accepted ≡ false → SameEntries o.timeline t)
      (λ n p q. same_refl) (λ h k q. absurd (true≢false q))

  pub other-same : (call : Call) → (builds call && is_accepted t call) ≡ false → SameEntries (step t call).timeline t
  other-same =
      call_by (λ (call : Call). (builds call && is_accepted t call) ≡ false → SameEntries (step t call).timeline t)
      (λ name at duration b. unfold step in refused-same name (resolve_start t at) duration (unfold step in b))
      (λ name at duration b. unfold step in refused-same name (resolve_start t at) duration (unfold step in b))
      (λ name target duration b. unfold step in refused-same name (named_start t target) duration (unfold step in b))
      (λ mode b. absurd (true≢false (unfold step track_step in b)))
      (λ call p b. plays-same call p)

-- ---- one of these does the same on a timeline of the same entries and mode
pub count_live : (t : Timeline) → Invariant t → length (live t.track) ≡ t.track.count
count_live t inv = length-take-le t.track.count t.track.entries (omega (arith, inv.count, inv.entries))

-- accepted there too, and of the same entries and mode after it
record Mirrored (o o' : Out) : Type 0 where
  taken : eqb o'.refusal accepted ≡ true
  same : SameEntries o.timeline o'.timeline

module _ (t u : Timeline) (inv : Invariant t) (inv' : Invariant u) (s : SameEntries t u) where
  added-mirrored : (name : List ℕ) (start start' duration : Float) → start ≡ start'
      → eqb (added_at t name start duration).refusal accepted ≡ true → Mirrored (added_at t name start duration) (added_at u name start' duration)
  added-mirrored name start start' duration e a =
      let room = added-room t name start duration a in
      let h : t.track.count < max_entries = room.0 in
      let h' : u.track.count < max_entries = omega (arith, count_live t inv, count_live u inv', lengths s) in
      rw (grows t name start duration h room.1, grows u name start' duration h' room.1)
      (record {
        taken = refl;
        same = grown-same t u name start start' duration (omega (arith, inv.entries)) (omega (arith, inv.labels)) (omega (arith, inv'.entries)) (omega (arith, inv'.labels)) s e;
      })

  build-mirrored : (call : Call) → (builds call && is_accepted t call) ≡ true → Mirrored (step t call) (step u call)
  build-mirrored =
      call_by (λ (call : Call). (builds call && is_accepted t call) ≡ true → Mirrored (step t call) (step u call))
      (λ name at duration b. unfold step in added-mirrored name (resolve_start t at) (resolve_start u at) duration (starts s at) (unfold step in b))
      (λ name at duration b. unfold step in added-mirrored name (resolve_start t at) (resolve_start u at) duration (starts s at) (unfold step in b))
      (λ name target duration b. unfold step in added-mirrored name (named_start t target) (named_start u target) duration (named-starts s target) (unfold step in b))
      (λ mode b. unfold step track_step in record { taken = refl; same = record { labels = s.labels; spans = s.spans; mode = refl } })
      (λ call p b. absurd (false≢true (sym p ∙ (and_parts (builds (On call)) (is_accepted t (On call)) b).0)))

-- ---- the whole list
-- the list bs builds on u a timeline of the entries and mode of z
pub record Builds (u z : Timeline) (bs : List Call) : Type 0 where
  pub build : AllBuild u bs
  pub same : SameEntries z (after u bs)

pub own_builds : (t u : Timeline) (calls : List Call) → Invariant t → Invariant u → SameEntries t u → Builds u (after t calls) (own_build t calls)
unfolding own_build after
own_builds t u [] inv inv' s = record { build = tt; same = s }
own_builds t u (call ∷ calls) inv inv' s = go (builds call && is_accepted t call) refl (λ v w z. own_builds (step t call).timeline v calls (step_kept t inv call) w z)
  where
    go : (b : Bool) → (builds call && is_accepted t call) ≡ b
        → ((v : Timeline) → Invariant v → SameEntries (step t call).timeline v → Builds v (after (step t call).timeline calls) (own_build (step t call).timeline calls))
        → Builds u (after (step t call).timeline calls) (keep_call b call (own_build (step t call).timeline calls))
    go true e rest =
        let m = build-mirrored t u inv inv' s call e in
        let r = rest (step u call).timeline (step_kept u inv' call) m.same in
        record { build = ((and_parts (builds call) (is_accepted t call) e).0, m.taken, r.build); same = r.same }
    go false e rest = rest u inv' (same_trans (other-same t inv call e) s)
