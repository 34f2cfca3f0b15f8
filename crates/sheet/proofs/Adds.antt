-- The calls that add entries, one at a turn.
use Prim.Native.Nat.{ℕ, ◌+◌, ◌≤◌, ◌<◌, min}
use mathlib.Core.Path.{◌≡◌}
use mathlib.Core.List.{List}
use native.Mathlib.Omega.{arith}
use borrow.Author.Tests.{lt-ltb, le-ltb}
use lib.ListN.{length, drop, get_or, drop_of_length-le, take, length-take}
use lib.Seq.{get_or-take}
use Rattle.timeline.specs.declared.timeline.Timeline.{Timeline}
use Rattle.timeline.specs.Calls.{step, after, AddAtLabel}
use Rattle.sheet_format.specs.declared.description.Item.{Item}
use Rattle.sheet_format.proofs.Turns.{item-cons}
use Rattle.sheet.specs.Build.{call_at, calls_from, no_item, placed_call, named_call}
use Rattle.float32.specs.Helpers.{from_bits}
use Rattle.label.specs.Label.{text}
use Rattle.label.specs.declared.Label.{Label}
use Rattle.steps.proofs.Lists.{take_own}
use Rattle.sheet_rules.specs.declared.record.Placement.{Placement}

-- a placement that is known
pub by_kind : (t r : Timeline) (items : List Item) (x : Item) (p q : Placement) → p ≡ q → r ≡ (step t (call_at items q x)).timeline → r ≡ (step t (call_at items p x)).timeline
by_kind t r items x p q e h = rw e h

-- a label's text, by its length
pub text-part : (l : Label) (n : ℕ) → n ≡ length (text l) → take n l.bytes ≡ text l
text-part l n e = rw e (take_own l.len l.bytes)

-- the first n of an array, n cut to its length
pub take-cut : (n m : ℕ) (items : List Item) → m ≡ min n (length items) → take m items ≡ take n items
take-cut n m items e = rw (e, ← length-take n items) (take_own n items)

module _ (n k : ℕ) (items : List Item) (x : Item) (h : n ≤ length items) where
  size : length (take n items) ≡ n
  size = simp length-take (omega arith)

  -- there is no such entry
  pub named_none : n ≤ k → named_call (take n items) k x ≡ placed_call x
  named_none l = rw (size, le-ltb k n l)

  pub named_some : k < n → named_call (take n items) k x ≡ AddAtLabel (text x.label) (text (get_or items k no_item).label) (from_bits x.duration)
  named_some l = rw (size, lt-ltb k n l, get_or-take n items k no_item l)

module _ (i : ℕ) (items xs : List Item) (d : Item) where
  -- a turn makes the next call
  pub calls-more : (t new : Timeline) → i < length xs → new ≡ (step t (call_at items (get_or xs i d).at (get_or xs i d))).timeline
      → after t (calls_from items (drop i xs)) ≡ after new (calls_from items (drop (i + 1) xs))
  unfolding calls_from after
  calls-more t new h e = rw (item-cons i xs d h, e)

-- no call is left
pub calls-end : (i : ℕ) (items xs : List Item) (t : Timeline) → length xs ≤ i → after t (calls_from items (drop i xs)) ≡ t
unfolding calls_from after
calls-end i items xs t h = rw (drop_of_length-le xs h)
