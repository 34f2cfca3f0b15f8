-- A loop that adds items to a sequence: each is accepted, and the cursor is where the durations so far end.
use Prim.Native.Nat.{ℕ, ◌+◌, ◌<◌, ◌≤◌}
use mathlib.Core.Path.{◌≡◌, refl, sym, ap, ◌∙◌}
use mathlib.Core.List.{List}
use native.Mathlib.Numerals.{add-one}
use native.Mathlib.Omega.{arith}
use lib.ListN.{length, take, get_or}
use lib.Seq.{take-suc}
use lib.Ieee.{Float}
use Rattle.refusal.specs.declared.Refusal.{Refusal}
use Rattle.refusal.specs.Refusal.{accepted, number}
use Rattle.refusal.proofs.Numbers.{number-not}
use Rattle.float32.specs.Helpers.{zero_f}
use Rattle.steps.specs.Times.{max_entries}
use Rattle.timeline.specs.declared.timeline.At.TheVariants.{Absolute}
use Rattle.timeline.specs.Calls.{Add, step}
use Rattle.timeline.proofs.Growing.{fold-last}
use Rattle.group.specs.declared.sequence.Sequence.{Sequence}
use Rattle.group.specs.Items.{item_label}
use Rattle.group.specs.Sequence.{Sequenced, Then, new_sequence, cursor_after, then_by, sequence_step}
use Rattle.group.specs.Group.{cursor_at, at_cursor}
use Rattle.group.proofs.Items.{item_added}
use Rattle.group.proofs.Building.{Building, none_added, one_more}

-- the sequence of the first i durations
pub record Sequencing (ds : List Float) (s : Sequence) (i : ℕ) : Type 0 where
  pub building : Building (at_cursor ds) ds s.inner i
  pub cursor : s.cursor ≡ cursor_at ds i

-- `then` of an item: the entry is added and the cursor advanced
then_item : (s : Sequence) (i : ℕ) (d : Float) → s.inner.track.count ≡ i → i < max_entries
    → sequence_step s (Then (item_label i) d)
    ≡ record { refusal = accepted; sequence = record { inner = (step s.inner (Add (item_label i) (Absolute s.cursor) d)).timeline; cursor = cursor_after s.cursor d } }
unfolding sequence_step then_by
then_item s i d e h = rw (item_added s.inner i (Absolute s.cursor) d e h)

module _ (ds : List Float) where
  cursor_more : (i : ℕ) (d : Float) → i < length ds → cursor_at ds (i + 1) ≡ cursor_after (cursor_at ds i) (get_or ds i d)
  unfolding cursor_at
  cursor_more i d h = rw (add-one, take-suc ds i d h) (fold-last cursor_after zero_f (take i ds) (get_or ds i d))

  pub none_sequenced : Sequencing ds new_sequence 0
  unfolding new_sequence cursor_at
  none_sequenced = record { building = none_added (at_cursor ds) ds; cursor = refl }

  module _ (s : Sequence) (i : ℕ) (d : Float) (q : Sequencing ds s i) (h : i < length ds) (room : length ds ≤ max_entries) where
    abbrev pub next : Sequenced
    next = sequence_step s (Then (item_label i) (get_or ds i d))

    pub one_sequenced : Sequencing ds next.sequence (i + 1)
    one_sequenced =
        let k : i < max_entries = omega arith in
        rw (then_item s i (get_or ds i d) q.building.counted k)
        (record {
          building = rw q.cursor (one_more (at_cursor ds) ds s.inner i d q.building h room);
          cursor = rw q.cursor (sym (cursor_more i d h));
        })

    -- no item is refused
    pub none_stopped : (r : Refusal) → number r ≡ next.refusal → ⊥
    none_stopped r e =
        let k : i < max_entries = omega arith in
        number-not r (e ∙ ap (λ (o : Sequenced). o.refusal) (then_item s i (get_or ds i d) q.building.counted k))
