-- `AnimationGroup` (group.rs). Definitions only; the controls are the calls of `step` on the group's timeline.
use Rattle.std.specs.Prelude.{ℕ, length, take, Float, Result, Ok, Err}
use mathlib.Core.List.{List, foldl}
use Rattle.std.specs.Float.{binary32}
use Rattle.std.specs.Float.Ieee.{sub}
use Rattle.float32.specs.Helpers.{zero_f, one_f}
use Rattle.refusal.specs.declared.Refusal.{Refusal}
use Rattle.refusal.specs.Refusal.{number_if, number_in, held_or}
use Rattle.tween.specs.declared.stagger_pattern.StaggerPattern.{StaggerPattern}
use Rattle.tween.specs.StaggerPattern.{delay_of}
use Rattle.track.specs.Tracks.{track_base, progress_of}
use Rattle.track.specs.Calls.{Room, Seek}
use Rattle.player.specs.declared.engine.Updated.{Updated}
use Rattle.timeline.specs.declared.introspection.AnimationKind.TheVariants.{Group as GroupKind}
use Rattle.timeline.specs.declared.introspection.AnimationIntrospection.{AnimationIntrospection}
use Rattle.timeline.specs.declared.timeline.At.{At}
use Rattle.timeline.specs.declared.timeline.At.TheVariants.{Absolute, Start}
use Rattle.timeline.specs.declared.timeline.Timeline.{Timeline}
use Rattle.timeline.specs.Calls.{Call, On}
use Rattle.timeline.specs.Introspections.{playback_state, introspection}
use Rattle.group.specs.declared.group.AnimationGroup.{AnimationGroup}
use Rattle.group.specs.declared.item.Built.{Built}
use Rattle.group.specs.Items.{item_calls, too_many, first_refusal, HandedOut, built_by}
use Rattle.group.specs.Sequence.{cursor_after}

-- `from_timeline`
abbrev pub group_of : Timeline → AnimationGroup
group_of t = record { inner = t }

-- ---- builders

-- the answer of a builder, as its timeline gives it
abbrev pub group_handed_out : Built AnimationGroup → HandedOut
group_handed_out b = record { refusal = number_if b.refusal; timeline = b.panel.inner }

-- `parallel`: every item at `At::Start`
abbrev pub at_start : ℕ → At
at_start i = Start

-- what `parallel` builds
unfoldable pub parallel_of : List Float → HandedOut
parallel_of ds = built_by (too_many (length ds)) (item_calls at_start 0 ds)

-- the cursor of a sequence after the first i durations
unfoldable pub cursor_at : List Float → ℕ → Float
cursor_at ds i = foldl cursor_after zero_f (take i ds)

-- `sequence`: item i at the cursor
abbrev pub at_cursor : List Float → ℕ → At
at_cursor ds i = Absolute (cursor_at ds i)

-- what `sequence` builds
unfoldable pub sequence_of : List Float → HandedOut
sequence_of ds = built_by (too_many (length ds)) (item_calls (at_cursor ds) 0 ds)

-- `stagger`: item i at the pattern's delay; "A group's `stagger` gives [13] before 1, and also with no animations"
abbrev pub at_delay : StaggerPattern → ℕ → At
at_delay p i = Absolute (held_or zero_f (delay_of p i))

-- what `stagger` builds
unfoldable pub stagger_of : List Float → StaggerPattern → HandedOut
stagger_of ds p = built_by (first_refusal (number_in (delay_of p 0)) (too_many (length ds))) (item_calls (at_delay p) 0 ds)

-- ---- controls

-- the answer of a call that moves the group, as its timeline gives it
abbrev pub inner_moved : Result AnimationGroup Refusal → Result Timeline Refusal
inner_moved (Ok g) = Ok g.inner
inner_moved (Err r) = Err r

-- the answer of an update of the group, as its timeline gives it
abbrev pub inner_updated : Result (Updated × AnimationGroup) Refusal → Result (Updated × Timeline) Refusal
inner_updated (Ok (u, g)) = Ok (u, g.inner)
inner_updated (Err r) = Err r

-- `reverse`: `self.inner.seek(1.0 - progress)`
abbrev pub reverse_call : Timeline → Room → Call
reverse_call t room = On (Seek (sub binary32 one_f (progress_of t.track)) room)

-- `duration`: the base, not the run
abbrev pub group_duration : AnimationGroup → Float
group_duration g = track_base g.inner.track

-- `introspect`
unfoldable pub group_introspected : AnimationGroup → AnimationIntrospection
group_introspected g =
    introspection GroupKind (progress_of g.inner.track) g.inner.track.clock.elapsed (group_duration g) (playback_state g.inner.track.clock.state)
