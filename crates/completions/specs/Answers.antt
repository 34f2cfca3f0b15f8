-- What `between` answers, and what it leaves in the lent list. Definitions only.
use Rattle.std.specs.Prelude.{ℕ, ◌≡◌, Bool, true, false, cond, List, length, leb, Option, Some, None}
use Rattle.steps.specs.Slices.{over}
use Rattle.refusal.specs.Refusal.{accepted, list_too_short}

-- paper 01's number for each answer: "the update's completions .. outnumber the lent list"
abbrev pub refusal_of : Option ℕ → ℕ
refusal_of (Some n) = accepted
refusal_of None = list_too_short

-- "how many entry numbers it wrote to the lent list"
abbrev pub listed_of : Option ℕ → ℕ
listed_of (Some n) = n
listed_of None = 0

-- whether the lent list has room for them all
abbrev pub room_for : List ℕ → List ℕ → Bool
room_for xs old = leb (length xs) (length old)

-- the answer: how many there are, where the list has room for them
abbrev pub counted : Bool → ℕ → Option ℕ
counted true n = Some n
counted false n = None

-- the answer r, and the list as it was lent and as it is left, where the completions are xs
pub record Listed (xs old new : List ℕ) (r : Option ℕ) : Type 0 where
  pub answer : r ≡ counted (room_for xs old) (length xs)
  pub refusal : refusal_of r ≡ cond (room_for xs old) accepted list_too_short
  pub count : listed_of r ≡ cond (room_for xs old) (length xs) 0
  pub list : new ≡ cond (room_for xs old) (over xs old) old
