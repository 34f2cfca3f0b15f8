-- Labels of items, refusals of builders, and an item that is added.
use Prim.Native.Nat.{ℕ, ◌+◌, ◌^◌, ◌<◌, ◌≤◌}
use mathlib.Core.Path.{◌≡◌, refl, sym, ap, ◌∙◌}
use mathlib.Core.Bool.{Bool, true, false, cond}
use mathlib.Core.List.{List, ◌++◌}
use native.Mathlib.Omega.{arith}
use borrow.Author.Tests.{ltb-false, eqb-false}
use lib.Dec.{ltb, lit≤, eqb}
use lib.ListN.{length, take, length-append, length-take}
use lib.Ieee.{Float}
use Rattle.std.specs.Prelude.{Option, Ok, Err}
use Rattle.std.specs.Option.{unwrap_or}
use Rattle.refusal.specs.declared.Refusal.{Refusal}
use Rattle.refusal.specs.Refusal.{accepted, timeline_full, number}
use Rattle.refusal.proofs.Numbers.{refused}
use Rattle.digits.specs.Digits.{decimal, put_at, Put}
use Rattle.digits.proofs.Claim.{decimal-least, decimal-word}
use Rattle.digits.proofs.Room.{put_whole}
use Rattle.digits.proofs.PutAt.{take-putAt}
use Rattle.steps.specs.Times.{max_entries}
use Rattle.label.specs.Label.{max_label}
use Rattle.timeline.specs.declared.timeline.At.{At}
use Rattle.timeline.specs.declared.timeline.Timeline.{Timeline}
use Rattle.timeline.specs.Placements.{empty, resolve_start, grown}
use Rattle.timeline.specs.Calls.{Call, Add, silent, step, after}
use Rattle.timeline.proofs.Growing.{grows}
use Rattle.group.specs.Items.{item_prefix, item_label, too_many, first_refusal, built_by, hands_out}

-- ---- labels

label_length : (i : ℕ) → length (item_label i) ≡ 5 + length (decimal i)
unfolding item_label
label_length i = length-append item_prefix (decimal i)

-- the labels of 256 items are not too long
pub label_fits_lem : (i : ℕ) → i < max_entries → length (item_label i) ≤ max_label
label_fits_lem i h =
    let k : i < 10 ^ 3 = omega arith in
    omega (arith, label_length i, decimal-least i 3 (lit≤ tt) k)

-- the first bytes, n of them after `item_`, are a label
pub record Labeled (i n : ℕ) (bytes : List ℕ) : Type 0 where
  pub text : take (5 + n) bytes ≡ item_label i
  pub within : 5 + n ≤ length bytes
  pub few : n ≤ 20

-- the index put behind `item_`
pub labeled : (i n : ℕ) (old new : List ℕ) (count : Option ℕ) → i < 2 ^ 64 → length old ≡ 25 → take 5 old ≡ item_prefix
    → Put (decimal i) 5 old new count → n ≡ unwrap_or count 0 → Labeled i n new
unfolding item_label
labeled i n old new count h l front p or =
    let few = decimal-word i h in
    let fits : 5 + length (decimal i) ≤ length old = omega arith in
    let whole = put_whole (decimal i) 5 old new count n fits p or in
    let e : n ≡ length (decimal i) = whole.0 in
    let b : new ≡ put_at (decimal i) 5 old = whole.1 in
    let text : take (5 + n) new ≡ item_prefix ++ decimal i = rw (e, b) (take-putAt (decimal i) 5 old fits ∙ ap (λ (x : List ℕ). x ++ decimal i) front) in
    let long : length (take (5 + n) new) ≡ 5 + n = ap length text ∙ length-append item_prefix (decimal i) ∙ ap (λ (x : ℕ). 5 + x) (sym e) in
    record { text = text; within = omega (arith, length-take (5 + n) new); few = omega arith }

-- ---- refusals

-- where there is room, there are at most 256 items
pub room : (n : ℕ) → too_many n ≡ accepted → n ≤ max_entries
unfolding too_many
room n e = go (ltb max_entries n) refl e
  where
    go : (b : Bool) → ltb max_entries n ≡ b → cond b timeline_full accepted ≡ accepted → n ≤ max_entries
    go true p q = omega arith
    go false p q = ltb-false max_entries n p

-- the first of two refusals, where it is one
pub refused_first : (r : Refusal) (n : ℕ) → number r ≡ first_refusal (number r) n
unfolding first_refusal
refused_first r n = rw (refused r)

-- a refused builder
pub refused_as : (r : Refusal) (m : ℕ) (calls : List Call) → number r ≡ m → hands_out (Err r) ≡ built_by m calls
unfolding built_by after
refused_as r m calls e = rw (← e, refused r)

-- an accepted one
pub built_as : (t : Timeline) (m : ℕ) (calls : List Call) → accepted ≡ m → t ≡ after empty calls → hands_out (Ok t) ≡ built_by m calls
unfolding built_by
built_as t m calls e a = rw (← e, a)

-- ---- an item

-- an item with the number of the next entry is accepted
pub item_added : (t : Timeline) (i : ℕ) (at : At) (d : Float) → t.track.count ≡ i → i < max_entries
    → step t (Add (item_label i) at d) ≡ silent accepted (grown t (item_label i) (resolve_start t at) d)
unfolding step
item_added t i at d e h = grows t (item_label i) (resolve_start t at) d (omega arith) (label_fits_lem i h)

-- where the first of two refusals is none, neither is the second
pub second_none : (a b : ℕ) → first_refusal a b ≡ accepted → b ≡ accepted
unfolding first_refusal
second_none a b e = go (eqb a accepted) refl e
  where
    go : (t : Bool) → eqb a accepted ≡ t → cond t b a ≡ accepted → b ≡ accepted
    go true p q = q
    go false p q = absurd (eqb-false a accepted p q)
