-- The items of a builder: their labels, the calls that add them, and what the builder hands out. Definitions only.
use Rattle.std.specs.Prelude.{ℕ, ◌+◌, ◌<◌, ◌≡◌, cond, List, [], ◌∷◌, ◌++◌, eqb, ltb, Float, Result, Ok}
use Rattle.refusal.specs.declared.Refusal.{Refusal}
use Rattle.refusal.specs.Refusal.{accepted, timeline_full, number_if, number_in, held_or}
use Rattle.digits.specs.Digits.{decimal}
use Rattle.steps.specs.Times.{max_entries}
use Rattle.timeline.specs.declared.timeline.At.{At}
use Rattle.timeline.specs.declared.timeline.Timeline.{Timeline}
use Rattle.timeline.specs.Placements.{empty}
use Rattle.timeline.specs.Calls.{Call, Add, after}
use Rattle.group.specs.declared.item.Built.{Built}

-- `item_`
abbrev pub item_prefix : List ℕ
item_prefix = 105 ∷ 116 ∷ 101 ∷ 109 ∷ 95 ∷ []

-- "Labels there are `item_` and the decimal index."
unfoldable pub item_label : ℕ → List ℕ
item_label i = item_prefix ++ decimal i

-- one `add` for each duration, the first of them with number i; `at` says where each starts
unfoldable pub item_calls : (ℕ → At) → ℕ → List Float → List Call
item_calls at i [] = []
item_calls at i (d ∷ ds) = Add (item_label i) (at i) d ∷ item_calls at (i + 1) ds

-- 1: an entry past the 256th, for n items
unfoldable pub too_many : ℕ → ℕ
too_many n = cond (ltb max_entries n) timeline_full accepted

-- the first of two refusals that is one
unfoldable pub first_refusal : ℕ → ℕ → ℕ
first_refusal first second = cond (eqb first accepted) second first

-- what a builder hands out: its refusal, and the timeline
pub record HandedOut : Type 0 where
  pub refusal : ℕ
  pub timeline : Timeline

-- what a builder hands out: what its calls make of the empty timeline; where it is refused, it makes none
unfoldable pub built_by : ℕ → List Call → HandedOut
built_by refusal calls = record { refusal = refusal; timeline = after empty (cond (eqb refusal accepted) calls []) }

-- ---- answers

-- the answer of a builder, with its number
abbrev pub handed_out : Built Timeline → HandedOut
handed_out b = record { refusal = number_if b.refusal; timeline = b.panel }

-- the answer r, handed out: "the empty panel" where it is refused
abbrev pub hands_out : Result Timeline Refusal → HandedOut
hands_out r = record { refusal = number_in r; timeline = held_or empty r }

-- asked for the place of any of 256 items, a closure with these results gives what `at` says
abbrev pub Gives : (ℕ → Result At Refusal → Type 0) → (ℕ → At) → Type 0
Gives post at = (i : ℕ) (r : Result At Refusal) → i < max_entries → post i r → r ≡ Ok (at i)
