-- What a noting call leaves is synchronised.
use mathlib.Core.Path.{◌≡◌, refl, sym, ap, ◌∙◌, subst}
use mathlib.Core.Bool.{Bool, true, false, not, ◌&&◌, true≢false, false≢true}
use mathlib.Core.List.{List}
use Prim.Native.Nat.{ℕ}
use lib.Dec.{eqb}
use lib.Ieee.{Float, lt, eq}
use borrow.Author.Tests.{not-true}
use Rattle.std.proofs.lemmas.Bool.{and_parts}
use Rattle.float32.specs.Helpers.{zero_f}
use Rattle.float32.proofs.Order.{le_of_eq, not-lt_of_le}
use Rattle.refusal.specs.Refusal.{accepted}
use Rattle.tween.specs.LoopMode.{is_once}
use Rattle.track.specs.declared.track.Track.{Track}
use Rattle.clock.specs.Clocks.{is_playing, next_elapsed}
use Rattle.track.specs.Tracks.{track_base, share_of}
use Rattle.track.specs.Updates.{playing}
use Rattle.track.specs.Calls.{Room, TrackOut, TrackCall, Looping, SetTimeScale, Play, Pause, Resume, Reset, Seek, SeekAbs, Update, Preview, sought_to, updated, track_step}
use Rattle.timeline.specs.declared.timeline.Timeline.{Timeline}
use Rattle.timeline.specs.Placements.{empty}
use Rattle.timeline.specs.Calls.{Call, On, step, after}
use Rattle.history.specs.Entries.{SameEntries}
use Rattle.history.specs.Invariant.{Invariant}
use Rattle.history.specs.Claim.{is_accepted, notes, Noted, state_of}
use Rattle.history.proofs.Runs.{next_not_below}
use Rattle.history.proofs.Spans.{bases}
use Rattle.history.proofs.Clocks.{SoundClock}
use Rattle.history.proofs.Kept.{empty-kept, after_kept}
use Rattle.history.proofs.Calls.{call_by}
use Rattle.history.proofs.Built.{plays-same}
use Rattle.history.proofs.Sending.{seek-room, seek_is, update_is}
use Rattle.history.proofs.Synced.{Synced, sought-synced, advanced-synced}

-- ---- an update while Playing, in a mode other than Once
module _ (k : Track) (h : SoundClock k.clock) (z : eq (track_base k) zero_f ≡ false) (once : is_once k.looping ≡ false) where
  updated-synced : is_playing k.clock.state ≡ true → (dt : Float) (rs : List ℕ) → Synced (updated k dt rs).track
  unfolding updated playing
  updated-synced p dt rs = rw (p, z) (advanced-synced k k.clock.elapsed (next_elapsed k.clock dt) rs (next_not_below k.clock dt h.elapsed h.scale) z once)

-- ---- the noting calls
module _ (t : Timeline) (inv : Invariant t) where
  sought-left : (secs : Float) (r : Room) → eqb (sought_to t.track secs r).refusal accepted ≡ true → Synced (sought_to t.track secs r).track
  sought-left secs r a = rw (seek_is t.track secs r (seek-room t.track secs r a)) (sought-synced t.track secs)

  updated-left : (dt : Float) (rs : List ℕ) (list : ℕ) (r : Room) → notes t (On (Update dt rs list r)) ≡ true → eq (track_base t.track) zero_f ≡ false → Synced (step t (On (Update dt rs list r))).timeline.track
  unfolding step track_step
  updated-left dt rs list r n z =
      let a = and_parts (is_accepted t (On (Update dt rs list r))) (is_playing (state_of t) && not (is_once t.track.looping)) n in
      let w = and_parts (is_playing (state_of t)) (not (is_once t.track.looping)) a.1 in
      subst (λ (x : TrackOut). Synced x.track) (sym (update_is t.track dt rs list r a.0))
      (updated-synced t.track (record { elapsed = inv.elapsed; scale = inv.scale }) z (not-true (is_once t.track.looping) w.1) w.0 dt rs)

  -- what a noting call leaves
  left-synced : (call : TrackCall) → notes t (On call) ≡ true → eq (track_base t.track) zero_f ≡ false → Synced (step t (On call)).timeline.track
  left-synced (Looping mode) n z = absurd (false≢true n)
  left-synced (SetTimeScale scale) n z = absurd (false≢true n)
  left-synced (Play r) n z = absurd (false≢true n)
  left-synced Pause n z = absurd (false≢true n)
  left-synced Resume n z = absurd (false≢true n)
  left-synced (Reset r) n z = absurd (false≢true n)
  left-synced (Seek share r) n z = unfold step track_step in sought-left (share_of t.track share) r (unfold step track_step in n)
  left-synced (SeekAbs secs r) n z = unfold step track_step in sought-left secs r (unfold step track_step in n)
  left-synced (Update dt rs list r) n z = updated-left dt rs list r n z
  left-synced (Preview dt r) n z = absurd (false≢true n)

-- the entries and the mode of before, and synchronised
record Left (t u : Timeline) : Type 0 where
  same : SameEntries u t
  synced : eq (track_base t.track) zero_f ≡ false → Synced u.track

noting_left : (t : Timeline) → Invariant t → (call : Call) → notes t call ≡ true → Left t (step t call).timeline
noting_left t inv =
    call_by (λ (call : Call). notes t call ≡ true → Left t (step t call).timeline)
    (λ name at duration n. absurd (false≢true n))
    (λ name at duration n. absurd (false≢true n))
    (λ name target duration n. absurd (false≢true n))
    (λ mode n. absurd (false≢true n))
    (λ call p n. record { same = plays-same t inv call p; synced = left-synced t inv call n })

not-zero : (x : Float) → lt zero_f x ≡ true → eq x zero_f ≡ false
not-zero x h = go (eq x zero_f) refl
  where
    go : (b : Bool) → eq x zero_f ≡ b → b ≡ false
    go true e = absurd (true≢false (sym h ∙ not-lt_of_le x zero_f (le_of_eq x zero_f e)))
    go false e = refl

pub noted_synced : (n : Timeline) → Noted n → Synced n.track
noted_synced n m =
    let t = after empty m.before in
    let l = noting_left t (after_kept empty m.before empty-kept) m.call m.noted in
    let same : track_base n.track ≡ track_base t.track = ap (λ (x : Timeline). track_base x.track) m.left ∙ bases l.same in
    subst (λ (x : Timeline). Synced x.track) (sym m.left) (l.synced (not-zero (track_base t.track) (subst (λ (b : Float). lt zero_f b ≡ true) same m.base)))
