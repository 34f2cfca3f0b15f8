-- What is claimed of builders and groups: the claim of crate history covers all that they hand out and all that the controls leave, and an accepted builder's calls are accepted, each one.
use Rattle.std.specs.Prelude.{ℕ, ◌≤◌, ◌≡◌, List, length, Float}
use Rattle.refusal.specs.Refusal.{number_in}
use Rattle.tween.specs.declared.stagger_pattern.StaggerPattern.{StaggerPattern}
use Rattle.tween.specs.StaggerPattern.{delay_of}
use Rattle.steps.specs.Times.{max_entries}
use Rattle.track.specs.Calls.{Room, SetTimeScale, Play, Pause, Resume, Reset, Seek, Update}
use Rattle.timeline.specs.declared.timeline.At.{At}
use Rattle.timeline.specs.Placements.{empty}
use Rattle.timeline.specs.Calls.{On, step}
use Rattle.history.specs.Claim.{AllBuild}
use Rattle.history.specs.Covered.{Covered}
use Rattle.group.specs.declared.group.AnimationGroup.{AnimationGroup}
use Rattle.group.specs.Items.{item_calls}
use Rattle.group.specs.Sequence.{SequenceCall, new_sequence, sequence_after}
use Rattle.group.specs.Stagger.{staggered}
use Rattle.group.specs.Group.{group_of, parallel_of, sequence_of, stagger_of, reverse_call}

-- a list of calls makes the group's timeline
abbrev pub CoveredGroup : AnimationGroup → Type 0
CoveredGroup g = Covered g.inner

-- what each control leaves of the group g is covered; "a group's `reverse` counts as its calls on the panel"
pub record Controlled (g : AnimationGroup) : Type 0 where
  pub play : (room : Room) → CoveredGroup (group_of (step g.inner (On (Play room))).timeline)
  pub pause : CoveredGroup (group_of (step g.inner (On Pause)).timeline)
  pub resume : CoveredGroup (group_of (step g.inner (On Resume)).timeline)
  pub reset : (room : Room) → CoveredGroup (group_of (step g.inner (On (Reset room))).timeline)
  pub seek : (share : Float) (room : Room) → CoveredGroup (group_of (step g.inner (On (Seek share room))).timeline)
  pub reverse : (room : Room) → CoveredGroup (group_of (step g.inner (reverse_call g.inner room)).timeline)
  pub scale : (x : Float) → CoveredGroup (group_of (step g.inner (On (SetTimeScale x))).timeline)
  pub update : (dt : Float) (replies : List ℕ) (list : ℕ) (room : Room)
      → CoveredGroup (group_of (step g.inner (On (Update dt replies list room))).timeline)

-- all of it, which `claimed` carries
pub record Claim : Type 0 where
  -- "Readers and builders hand out what such lists give"
  pub sequences : (calls : List SequenceCall) → Covered (sequence_after new_sequence calls).inner
  pub staggers : (ds : List Float) (delay : Float) → Covered (staggered ds delay).timeline
  pub parallels : (ds : List Float) → Covered (parallel_of ds).timeline
  pub group-sequences : (ds : List Float) → Covered (sequence_of ds).timeline
  pub group-staggers : (ds : List Float) (p : StaggerPattern) → Covered (stagger_of ds p).timeline
  -- each control of a covered group leaves a covered one
  pub controls : (g : AnimationGroup) → CoveredGroup g → Controlled g
  -- up to 256 items, no call of a builder is refused, wherever the items start
  pub accepts : (at : ℕ → At) (ds : List Float) → length ds ≤ max_entries → AllBuild empty (item_calls at 0 ds)
  -- a pattern that refuses one index refuses all
  pub patterns : (p : StaggerPattern) (i : ℕ) → number_in (delay_of p i) ≡ number_in (delay_of p 0)
