-- No call of an accepted sheet is refused: there is room for its entries, and no label is too long.
use Prim.Native.Nat.{ℕ, ◌+◌, ◌≤◌, ◌<◌}
use mathlib.Core.Path.{◌≡◌, refl, ap, ◌∙◌}
use mathlib.Core.Bool.{Bool, true, false, cond}
use mathlib.Core.List.{List, [], ◌∷◌}
use native.Mathlib.Omega.{arith}
use borrow.Author.Tests.{leb-true, eqb-true}
use lib.Dec.{eqb, leb, ltb}
use lib.Ieee.{Float}
use lib.ListN.{length, drop, get_or, length-take}
use Rattle.float32.specs.Helpers.{from_bits}
use Rattle.refusal.specs.Refusal.{accepted}
use Rattle.steps.specs.Times.{max_entries}
use Rattle.label.specs.Label.{max_label, text}
use Rattle.track.specs.Tracks.{empty_track}
use Rattle.track.specs.Calls.{Looping, SetTimeScale, track_step}
use Rattle.timeline.specs.declared.timeline.Timeline.{Timeline}
use Rattle.timeline.specs.Placements.{empty, resolve_start, named_start}
use Rattle.timeline.specs.Calls.{Call, AddAtLabel, On, Out, added_at, step}
use Rattle.timeline.proofs.Growing.{grows}
use Rattle.sheet_rules.specs.declared.record.Placement.{Placement}
use Rattle.sheet_rules.specs.declared.record.Placement.TheVariants.{Absolute, Start, End, Label as Labeled, Offset}
use Rattle.sheet_format.specs.declared.description.Item.{Item}
use Rattle.sheet_format.specs.declared.description.Description.{Description}
use Rattle.sheet_rules.specs.Rules.{header_size}
use Rattle.sheet_format.specs.Check.{records_at, count_in, check_number}
use Rattle.sheet_format.specs.Descriptions.{items_in, description_in}
use Rattle.sheet_format.specs.Write.{labels_good}
use Rattle.sheet_format.proofs.Accepted.{accepted-sheet}
use Rattle.std.proofs.lemmas.Bool.{and_parts}
use Rattle.sheet.specs.Build.{no_item, at_of, placed_call, call_at, calls_from, calls_of, read_calls}
use Rattle.sheet.specs.Claim.{AllAccepted}
use Rattle.sheet.proofs.Rewrite.{length-itemsFrom, labels-good, items-same}

-- the answer is that of an accepted `add` on n entries
record Taken (n : ℕ) (o : Out) : Type 0 where
  refusal : o.refusal ≡ accepted
  count : o.timeline.track.count ≡ n + 1

-- where there is room, and the label is short
module _ (t : Timeline) (x : Item) (room : t.track.count < max_entries) (short : x.label.len ≤ max_label) where
  fits : length (text x.label) ≤ max_label
  fits = omega (arith, length-take x.label.len x.label.bytes)

  added : (start duration : Float) → Taken t.track.count (added_at t (text x.label) start duration)
  added start duration =
      let g = grows t (text x.label) start duration room fits in
      record { refusal = ap (λ (o : Out). o.refusal) g; count = ap (λ (o : Out). o.timeline.track.count) g }

  placed : Taken t.track.count (step t (placed_call x))
  unfolding step
  placed = added (resolve_start t (at_of x.at)) (from_bits x.duration)

  either : (b : Bool) (name : List ℕ) → Taken t.track.count (step t (cond b (AddAtLabel (text x.label) name (from_bits x.duration)) (placed_call x)))
  unfolding step
  either true name = added (named_start t name) (from_bits x.duration)
  either false name = placed

  called : (items : List Item) (at : Placement) → Taken t.track.count (step t (call_at items at x))
  called items (Absolute seconds) = placed
  called items Start = placed
  called items End = placed
  called items (Labeled k) = either (ltb k (length items)) (text (get_or items k no_item).label)
  called items (Offset seconds) = placed

-- the calls that add entries, from any timeline that has room for them
entries_taken : (items xs : List Item) (t : Timeline) (n : ℕ) → t.track.count ≡ n → n + length xs ≤ max_entries → labels_good xs ≡ true → AllAccepted t (calls_from items xs)
unfolding calls_from labels_good
entries_taken items [] t n e h g = tt
entries_taken items (x ∷ xs) t n e h g =
    let b = and_parts (leb x.label.len max_label) (labels_good xs) g in
    let a = called t x (omega arith) (leb-true x.label.len max_label b.0) items x.at in
    (a.refusal, entries_taken items xs (step t (call_at items x.at x)).timeline (n + 1) (a.count ∙ ap (λ (k : ℕ). k + 1) e) (omega arith) b.1)

-- the calls of a description with few entries
calls_taken : (d : Description) → length (items_in d) ≤ max_entries → labels_good (items_in d) ≡ true → AllAccepted empty (calls_of d)
unfolding calls_of step track_step empty empty_track
calls_taken d h g =
    let t = (step (step empty (On (Looping d.looping))).timeline (On (SetTimeScale (from_bits d.time_scale)))).timeline in
    (refl, (refl, entries_taken (items_in d) (items_in d) t 0 refl (omega arith) g))

where_accepted : (b : Bool) (calls : List Call) → (b ≡ true → AllAccepted empty calls) → AllAccepted empty (cond b calls [])
where_accepted true calls h = h refl
where_accepted false calls h = tt

-- the calls that make what is read from any bytes
pub taken : (s : List ℕ) → AllAccepted empty (read_calls s)
unfolding read_calls
taken s =
    where_accepted (eqb (check_number s) 0) (calls_of (description_in s))
    (λ e.
    let a = accepted-sheet s (eqb-true (check_number s) 0 e) in
    let n = length-itemsFrom s (count_in s) (drop header_size s) (drop (records_at (count_in s)) s) in
    calls_taken (description_in s) (rw (items-same s, n) a.header.few) (rw (items-same s) (labels-good s (count_in s) (drop header_size s) (drop (records_at (count_in s)) s))))
