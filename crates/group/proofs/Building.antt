-- A loop that adds items one by one: what its calls are still to make is what all of them make.
use Prim.Native.Nat.{ℕ, ◌+◌, ◌<◌, ◌≤◌}
use mathlib.Core.Path.{◌≡◌, refl, ap, ◌∙◌}
use mathlib.Core.List.{List, ◌∷◌}
use native.Mathlib.Numerals.{add-one}
use native.Mathlib.Omega.{arith}
use lib.ListN.{length, drop, get_or, drop_of_length-le}
use lib.Seq.{drop-cons}
use lib.Ieee.{Float}
use Rattle.std.specs.Prelude.{Result, Ok}
use Rattle.refusal.specs.declared.Refusal.{Refusal}
use Rattle.refusal.specs.Refusal.{number}
use Rattle.refusal.proofs.Numbers.{number-not}
use Rattle.steps.specs.Times.{max_entries}
use Rattle.track.specs.Tracks.{empty_track}
use Rattle.timeline.specs.declared.timeline.At.{At}
use Rattle.timeline.specs.declared.timeline.Timeline.{Timeline}
use Rattle.timeline.specs.Placements.{empty}
use Rattle.timeline.specs.Calls.{Add, Out, step, after}
use Rattle.group.specs.Items.{item_label, item_calls, Gives}
use Rattle.group.proofs.Items.{item_added}

-- the first i items are added, and t is the timeline
pub record Building (at : ℕ → At) (ds : List Float) (t : Timeline) (i : ℕ) : Type 0 where
  pub within : i ≤ length ds
  pub counted : t.track.count ≡ i
  pub rest : after t (item_calls at i (drop i ds)) ≡ after empty (item_calls at 0 ds)

module _ (at : ℕ → At) (ds : List Float) where
  pub none_added : Building at ds empty 0
  unfolding empty empty_track
  none_added = record { within = omega arith; counted = refl; rest = refl }

  module _ (t : Timeline) (i : ℕ) (d : Float) (b : Building at ds t i) (h : i < length ds) (room : length ds ≤ max_entries) where
    abbrev pub added : Out
    added = step t (Add (item_label i) (at i) (get_or ds i d))

    pub one_more : Building at ds added.timeline (i + 1)
    unfolding item_calls after
    one_more =
        let next : drop i ds ≡ get_or ds i d ∷ drop (i + 1) ds = rw (add-one i) (drop-cons ds i d h) in
        let k : i < max_entries = omega arith in
        let e = item_added t i (at i) (get_or ds i d) b.counted k in
        record {
          within = omega arith;
          counted = ap (λ (o : Out). o.timeline.track.count) e ∙ ap (λ (n : ℕ). n + 1) b.counted;
          rest = rw next at b.rest;
        }

    -- no item is refused
    pub none_refused : (r : Refusal) → number r ≡ added.refusal → ⊥
    none_refused r e =
        let k : i < max_entries = omega arith in
        number-not r (e ∙ ap (λ (o : Out). o.refusal) (item_added t i (at i) (get_or ds i d) b.counted k))

    -- a turn, where the closure gives the item's place: the item is not refused, and one more is added
    pub record Turn (o : Out) : Type 0 where
      pub none : (r : Refusal) → number r ≡ o.refusal → ⊥
      pub more : Building at ds o.timeline (i + 1)

    pub turn : (post : ℕ → Result At Refusal → Type 0) → Gives post at → (p : At) → post i (Ok p) → (label : List ℕ) → label ≡ item_label i
        → Turn (step t (Add label p (get_or ds i d)))
    turn post gives p asked label text =
        let k : i < max_entries = omega arith in
        let e = gives i (Ok p) k asked in
        let placed : p ≡ at i = cc in
        rw (text, placed) (record { none = none_refused; more = one_more })

  pub all_added : (t : Timeline) (i : ℕ) → Building at ds t i → length ds ≤ i → t ≡ after empty (item_calls at 0 ds)
  unfolding item_calls after
  all_added t i b h = rw (drop_of_length-le ds h) at b.rest
