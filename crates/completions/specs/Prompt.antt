-- Every walk is prompt: broken off after a small number of cycles it loses nothing that a lent list has room for. Definitions only.
use Rattle.std.specs.Prelude.{ℕ, zero, suc, ◌+◌, ◌-◌, ◌≤◌, ◌^◌, ◌≡◌, Bool, true, false, ◌&&◌, List, [], ◌∷◌, map, length, take, ltb, Float, Option}
use Rattle.std.specs.Float.{binary32}
use Rattle.std.specs.Float.Ieee.{lt, le, of_bits}
use Rattle.float32.specs.Helpers.{zero_f}
use Rattle.tween.specs.declared.loop_mode.Loop.{Loop}
use Rattle.tween.specs.declared.loop_mode.Loop.TheVariants.{Forever}
use Rattle.steps.specs.Times.{end_at, base_of}
use Rattle.steps.specs.declared.Entry.{Entry}
use Rattle.completions.specs.declared.Walk.{Walk}
use Rattle.completions.specs.Completions.{cycle_start, in_cycle, next_cycle, breaks_at, stops_at, walk_of, first_cycle, completions_for, empty_at_nan, completions_between}
use Rattle.completions.specs.Answers.{Listed}
use Rattle.completions.specs.Cases.{same_list}

-- the walk of these entries, from prev to next
abbrev pub walk_in : Loop → List Entry → Float → Float → Walk
walk_in mode es prev next = walk_of mode (base_of es) prev next

-- `completions_between`, where the loop is broken off after this many cycles
unfoldable pub completions_within : ℕ → Loop → List Entry → Float → Float → List ℕ
completions_within most mode es prev next = empty_at_nan prev next (completions_for most mode (map end_at es) (base_of es) prev next)

-- as many cycles as a walk for a list of `room` places goes over at most
abbrev pub most_cycles : ℕ → ℕ
most_cycles room = room + 2048

-- every walk is prompt: after so many cycles all is listed, or one more than the list has room for
abbrev pub Prompt : Type 0
Prompt = (mode : Loop) (es : List Entry) (prev next : Float) (room : ℕ)
    → take (room + 1) (completions_within (most_cycles room) mode es prev next) ≡ take (room + 1) (completions_between mode es prev next)

-- the same, of the answer and of what is left in the list
abbrev pub PromptAnswer : Type 0
PromptAnswer = (mode : Loop) (es : List Entry) (prev next : Float) (old new : List ℕ) (r : Option ℕ)
    → Listed (completions_within (most_cycles (length old)) mode es prev next) old new r → Listed (completions_between mode es prev next) old new r

-- ---- the cycles that are gone over

-- 0 where the test passes
abbrev pub zero_if : Bool → ℕ → ℕ
zero_if true n = 0
zero_if false n = n

-- how many the count goes over, with this much room left: until the loop breaks, or up to a cycle that lists more than that
unfoldable pub turns : Walk → List Float → ℕ → ℕ → Bool → ℕ → ℕ
turns w ends room zero stop cycle = 0
turns w ends room (suc fuel) true cycle = 0
turns w ends room (suc fuel) false cycle =
    suc (zero_if (ltb room (length (in_cycle w (cycle_start w cycle) 0 ends)))
    (turns w ends (room - length (in_cycle w (cycle_start w cycle) 0 ends)) fuel (stops_at w (next_cycle cycle)) (next_cycle cycle)))

-- of the walk from its first cycle on
abbrev pub turns_from : Walk → List Float → ℕ → ℕ → ℕ
turns_from w ends room first = turns w ends room (2 ^ 32) (breaks_at w first) first

-- every walk of a step forward goes over so many at most
abbrev pub FewTurns : Type 0
FewTurns = (mode : Loop) (es : List Entry) (prev next : Float) (room : ℕ) → lt prev next ≡ true → le (base_of es) zero_f ≡ false
    → turns_from (walk_in mode es prev next) (map end_at es) room (first_cycle (walk_in mode es prev next)) ≤ most_cycles room

-- how close that is: an entry of 0.11 ms at 0, played Forever, from 135 h and 21 min on for 0.03 s. Its first completion is in the 386th cycle
unfoldable pub slow_walk : ℕ → List ℕ
slow_walk most = completions_within most Forever (record { start = zero_f; duration = of_bits binary32 0x38edeecc; done = false } ∷ []) (of_bits binary32 0x48edebf1) (of_bits binary32 0x48edebf2)

-- so 385 cycles are not enough for a list with no place
unfoldable pub slow_as_said : Bool
slow_as_said = same_list (slow_walk 385) [] && same_list (slow_walk 386) (0 ∷ [])
