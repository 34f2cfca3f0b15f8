-- A panel in longer arrays: it is built by the same calls, as long as the shorter arrays have room.
use Prim.Native.Nat.{ℕ, ◌+◌, ◌-◌, ◌≤◌, ◌<◌}
use mathlib.Core.Path.{◌≡◌, refl, ap, ◌∙◌}
use mathlib.Core.Bool.{Bool, true, false, cond}
use mathlib.Core.List.{List, [], ◌∷◌}
use native.Mathlib.Omega.{arith}
use borrow.Author.Tests.{lt-leb}
use lib.Dec.{leb, ltb}
use lib.Ieee.{Float}
use lib.ListN.{length, get_or, length-take, length-set}
use lib.Seq.{take-append-le}
use Rattle.std.proofs.lemmas.List.{set-append_left, length-replicate, replicate-append-replicate}
use Rattle.float32.specs.Helpers.{from_bits}
use Rattle.refusal.specs.Refusal.{accepted, label_too_long}
use Rattle.steps.specs.Times.{max_entries}
use Rattle.label.specs.Label.{max_label, text, label_of}
use Rattle.track.specs.Tracks.{blank, empty_track, live}
use Rattle.track.specs.Calls.{Looping, SetTimeScale, track_step}
use Rattle.timeline.specs.declared.timeline.At.{At}
use Rattle.timeline.specs.declared.timeline.At.TheVariants.{Absolute as AtSecond, Start as AtStart, End as AtEnd, Label as AtLabel, Offset as AfterEnd}
use Rattle.timeline.specs.declared.timeline.Timeline.{Timeline}
use Rattle.timeline.specs.Placements.{blank_label, empty, live_labels, named_start, resolve_start, new_entry, grown}
use Rattle.timeline.specs.Calls.{Call, Add, AddBoxed, AddAtLabel, On, silent, added_at, step, after}
use Rattle.sheet_rules.specs.declared.record.Placement.{Placement}
use Rattle.sheet_rules.specs.declared.record.Placement.TheVariants.{Absolute, Start, End, Label as Labeled, Offset}
use Rattle.sheet_format.specs.declared.description.Item.{Item}
use Rattle.sheet_format.specs.declared.description.Description.{Description}
use Rattle.sheet_format.specs.Descriptions.{blank_item, items_in}
use Rattle.sheet.specs.Build.{no_item, placed_call, call_at, calls_from, calls_of, built}
use Rattle.sheet.specs.Stored.{old_max_entries, adds, old_empty, old_step, old_after, old_built, more_slots, longer_description, longer_panel}

-- a panel of before, of at most n entries
record Old (t : Timeline) (n : ℕ) : Type 0 where
  few : t.track.count ≤ n
  entries : length t.track.entries ≡ old_max_entries
  labels : length t.labels ≡ old_max_entries

-- where it has room for one more
module _ (t : Timeline) (n : ℕ) (o : Old t n) (room : n < old_max_entries) where
  same_live : live (longer_panel t).track ≡ live t.track
  same_live = take-append-le t.track.count t.track.entries (more_slots blank) (omega (arith, o.few, o.entries))

  same_labels : live_labels (longer_panel t) ≡ live_labels t
  same_labels = take-append-le t.track.count t.labels (more_slots blank_label) (omega (arith, o.few, o.labels))

  -- an entry starts at the same time
  same_named : (target : List ℕ) → named_start (longer_panel t) target ≡ named_start t target
  unfolding named_start
  same_named target = rw (same_live, same_labels)

  same_start : (at : At) → resolve_start (longer_panel t) at ≡ resolve_start t at
  unfolding resolve_start
  same_start (AtSecond seconds) = refl
  same_start AtStart = refl
  same_start AtEnd = rw same_live
  same_start (AtLabel k) = rw (same_live, same_labels)
  same_start (AfterEnd offset) = rw same_live

  -- what an `add` leaves
  record Added (new new' : Timeline) : Type 0 where
    same : new' ≡ longer_panel new
    old : Old new (n + 1)

  module _ (label : List ℕ) (start duration : Float) where
    set_same : grown (longer_panel t) label start duration ≡ longer_panel (grown t label start duration)
    set_same =
        let es = set-append_left t.track.entries (more_slots blank) t.track.count (new_entry start duration) (omega (arith, o.few, o.entries)) in
        let ls = set-append_left t.labels (more_slots blank_label) t.track.count (label_of label) (omega (arith, o.few, o.labels)) in
        rw (es, ls)

    set_old : Old (grown t label start duration) (n + 1)
    set_old =
        record {
          few = omega (arith, o.few);
          entries = length-set t.track.entries t.track.count (new_entry start duration) ∙ o.entries;
          labels = length-set t.labels t.track.count (label_of label) ∙ o.labels;
        }

    either : (long : Bool)
        → Added (cond long (silent label_too_long t) (silent accepted (grown t label start duration))).timeline (cond long (silent label_too_long (longer_panel t)) (silent accepted (grown (longer_panel t) label start duration))).timeline
    either true = record { same = refl; old = record { few = omega (arith, o.few); entries = o.entries; labels = o.labels } }
    either false = record { same = set_same; old = set_old }

    added : (start' : Float) → start' ≡ start → Added (added_at t label start duration).timeline (added_at (longer_panel t) label start' duration).timeline
    unfolding added_at
    added start' e =
        rw (e, lt-leb max_entries t.track.count (omega (arith, o.few))) (either (ltb max_label (length label)))

  not_full : leb old_max_entries t.track.count ≡ false
  not_full = lt-leb old_max_entries t.track.count (omega (arith, o.few))

  added_by : (call : Call) → adds call ≡ true → Added (old_step t call).timeline (step (longer_panel t) call).timeline
  unfolding old_step step
  added_by (Add label at duration) e = rw not_full (added label (resolve_start t at) duration _ (same_start at))
  added_by (AddBoxed label at duration) e = rw not_full (added label (resolve_start t at) duration _ (same_start at))
  added_by (AddAtLabel label target duration) e = rw not_full (added label (named_start t target) duration _ (same_named target))
  added_by (On call) e = cc

either_adds : (b : Bool) (x y : Call) → adds x ≡ true → adds y ≡ true → adds (cond b x y) ≡ true
either_adds true x y e f = e
either_adds false x y e f = f

-- each call that the reader makes of an entry adds it
call_adds : (items : List Item) (at : Placement) (x : Item) → adds (call_at items at x) ≡ true
call_adds items (Absolute seconds) x = refl
call_adds items Start x = refl
call_adds items End x = refl
call_adds items (Labeled k) x = either_adds (ltb k (length items)) (AddAtLabel (text x.label) (text (get_or items k no_item).label) (from_bits x.duration)) (placed_call x) refl refl
call_adds items (Offset seconds) x = refl

-- the panel t of before, and the same in longer arrays
pub record Longer (t u : Timeline) : Type 0 where
  pub same : u ≡ longer_panel t
  pub few : t.track.count ≤ old_max_entries
  pub entries : length t.track.entries ≡ old_max_entries

-- entries that have room
entries_longer : (items xs : List Item) (t : Timeline) (n : ℕ) → Old t n → n + length xs ≤ old_max_entries → Longer (old_after t (calls_from items xs)) (after (longer_panel t) (calls_from items xs))
unfolding calls_from after old_after
entries_longer items [] t n o h = record { same = refl; few = omega (arith, o.few); entries = o.entries }
entries_longer items (x ∷ xs) t n o h =
    let a = added_by t n o (omega arith) (call_at items x.at x) (call_adds items x.at x) in
    let r = entries_longer items xs (old_step t (call_at items x.at x)).timeline (n + 1) a.old (omega arith) in
    record { same = ap (λ (u : Timeline). after u (calls_from items xs)) a.same ∙ r.same; few = r.few; entries = r.entries }

empty_longer : empty ≡ longer_panel old_empty
unfolding empty empty_track old_empty
empty_longer =
    let es = replicate-append-replicate old_max_entries (max_entries - old_max_entries) blank in
    let ls = replicate-append-replicate old_max_entries (max_entries - old_max_entries) blank_label in
    rw (es, ls)

-- what a description with few entries builds
pub built_longer : (d : Description) → d.count ≤ old_max_entries → d.count ≤ length d.items → Longer (old_built d) (built (longer_description d))
unfolding calls_of after old_after old_step step track_step old_empty
built_longer d h l =
    let t = (old_step (old_step old_empty (On (Looping d.looping))).timeline (On (SetTimeScale (from_bits d.time_scale)))).timeline in
    let few = length-take d.count d.items in
    rw (empty_longer, take-append-le d.count d.items (more_slots blank_item) l)
    (entries_longer (items_in d) (items_in d) t 0 (record { few = omega arith; entries = length-replicate old_max_entries blank; labels = length-replicate old_max_entries blank_label }) (omega arith))
