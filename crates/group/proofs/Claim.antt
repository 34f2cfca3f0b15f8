-- The claim of crate history covers what the builders hand out and what the controls leave, and an accepted builder's calls are accepted.
use Prim.Native.Nat.{ℕ, ◌+◌, ◌≤◌}
use mathlib.Core.Path.{◌≡◌, refl, ap, ◌∙◌}
use mathlib.Core.Bool.{Bool, true, false, cond}
use mathlib.Core.List.{List, [], ◌∷◌}
use native.Mathlib.Omega.{arith}
use lib.Dec.{eqb}
use lib.ListN.{length}
use lib.Ieee.{Float}
use Rattle.float32.specs.Helpers.{zero_f, max_f}
use Rattle.refusal.specs.Refusal.{accepted}
use Rattle.steps.specs.Times.{max_entries}
use Rattle.track.specs.Tracks.{empty_track}
use Rattle.track.specs.Calls.{SetTimeScale, Play, Pause, Resume, Reset, Seek, Update}
use Rattle.timeline.specs.declared.timeline.At.{At}
use Rattle.timeline.specs.declared.timeline.At.TheVariants.{Absolute}
use Rattle.timeline.specs.declared.timeline.Timeline.{Timeline}
use Rattle.timeline.specs.Placements.{empty}
use Rattle.timeline.specs.Calls.{Call, Add, AddBoxed, On, Out, step, after}
use Rattle.history.specs.Claim.{AllBuild}
use Rattle.history.specs.Covered.{Covered}
use Rattle.history.proofs.Covered.{coverage}
use Rattle.group.specs.declared.group.AnimationGroup.{AnimationGroup}
use Rattle.group.specs.declared.sequence.Sequence.{Sequence}
use Rattle.group.specs.Items.{item_label, item_calls, built_by}
use Rattle.group.specs.Sequence.{SequenceCall, Sequenced, Then, ThenFor, Gap, new_sequence, cursor_after, then_by, sequence_step, sequence_after}
use Rattle.group.specs.Stagger.{staggered}
use Rattle.group.specs.Group.{parallel_of, sequence_of, stagger_of, reverse_call}
use Rattle.group.specs.Claim.{CoveredGroup, Controlled, Claim}
use Rattle.group.proofs.Items.{item_added}
use Rattle.group.proofs.Patterns.{patterns}

-- ---- sequences
either_covered : (b : Bool) (x y : Sequenced) → Covered x.sequence.inner → Covered y.sequence.inner → Covered (cond b x y).sequence.inner
either_covered true x y p q = p
either_covered false x y p q = q

then_covered : (s : Sequence) (call : Call) (duration : Float) → Covered s.inner → Covered (then_by s (step s.inner call) duration).sequence.inner
unfolding then_by
then_covered s call duration m =
    let o = step s.inner call in
    either_covered (eqb o.refusal accepted)
    (record { refusal = accepted; sequence = record { inner = o.timeline; cursor = cursor_after s.cursor duration } })
    (record { refusal = o.refusal; sequence = s })
    (coverage.calls s.inner call m) m

call_covered : (s : Sequence) (call : SequenceCall) → Covered s.inner → Covered (sequence_step s call).sequence.inner
unfolding sequence_step
call_covered s (Then name duration) m = then_covered s (Add name (Absolute s.cursor) duration) duration m
call_covered s (ThenFor name duration) m = then_covered s (AddBoxed name (Absolute s.cursor) (max_f duration zero_f)) duration m
call_covered s (Gap seconds) m = m

calls_covered : (s : Sequence) (calls : List SequenceCall) → Covered s.inner → Covered (sequence_after s calls).inner
unfolding sequence_after
calls_covered s [] m = m
calls_covered s (call ∷ calls) m = calls_covered (sequence_step s call).sequence calls (call_covered s call m)

sequences : (calls : List SequenceCall) → Covered (sequence_after new_sequence calls).inner
unfolding new_sequence after
sequences calls = calls_covered new_sequence calls (coverage.lists [])

-- ---- controls
controls : (g : AnimationGroup) → CoveredGroup g → Controlled g
controls g c =
    record {
      play = λ room. left (On (Play room));
      pause = left (On Pause);
      resume = left (On Resume);
      reset = λ room. left (On (Reset room));
      seek = λ share room. left (On (Seek share room));
      reverse = λ room. left (reverse_call g.inner room);
      scale = λ x. left (On (SetTimeScale x));
      update = λ dt replies list room. left (On (Update dt replies list room));
    }
  where
    left : (call : Call) → Covered (step g.inner call).timeline
    left call = coverage.calls g.inner call c

-- ---- no call of an accepted builder is refused
accepts : (at : ℕ → At) (ds : List Float) (t : Timeline) (i : ℕ) → t.track.count ≡ i → i + length ds ≤ max_entries → AllBuild t (item_calls at i ds)
unfolding item_calls
accepts at [] t i e h = tt
accepts at (d ∷ ds) t i e h =
    let a = item_added t i (at i) d e (omega arith) in
    let n = ap (λ (o : Out). o.timeline.track.count) a ∙ ap (λ (k : ℕ). k + 1) e in
    (refl, rw a, accepts at ds (step t (Add (item_label i) (at i) d)).timeline (i + 1) n (omega arith))

pub claim : Claim
unfolding staggered parallel_of sequence_of stagger_of built_by empty empty_track
claim =
    record {
      sequences = sequences;
      staggers = λ ds delay. coverage.lists _;
      parallels = λ ds. coverage.lists _;
      group-sequences = λ ds. coverage.lists _;
      group-staggers = λ ds p. coverage.lists _;
      controls = controls;
      accepts = λ at ds h. accepts at ds empty 0 refl (omega arith);
      patterns = patterns;
    }
