-- Worked cases of `completions_between`, as one table that antt computes.
use Rattle.std.specs.Prelude.{ℕ, Bool, true, false, ◌&&◌, List, [], ◌∷◌, eqb, Float}
use Rattle.std.specs.Float.{nan, binary32}
use Rattle.std.specs.Float.Ieee.{of_bits}
use Rattle.float32.specs.Helpers.{zero_f, one_f, infinity_f}
use Rattle.tween.specs.declared.loop_mode.Loop.{Loop}
use Rattle.tween.specs.declared.loop_mode.Loop.TheVariants.{Once, Times, Forever, PingPong, PingPongTimes}
use Rattle.steps.specs.Times.{two_f}
use Rattle.steps.specs.declared.Entry.{Entry}
use Rattle.completions.specs.Completions.{completions_between}

-- the entries, the mode, the step from prev to next, and what it completes
pub record Case : Type 0 where
  pub entries : List Entry
  pub mode : Loop
  pub prev : Float
  pub next : Float
  pub listed : List ℕ

-- the two lists have the same numbers
abbrev pub same_list : List ℕ → List ℕ → Bool
same_list [] [] = true
same_list [] (y ∷ ys) = false
same_list (x ∷ xs) [] = false
same_list (x ∷ xs) (y ∷ ys) = eqb x y && same_list xs ys

-- the definition gives what the case says
unfoldable pub case_holds : Case → Bool
case_holds k = same_list (completions_between k.mode k.entries k.prev k.next) k.listed

-- of every case
unfoldable pub all_hold : List Case → Bool
all_hold [] = true
all_hold (k ∷ ks) = case_holds k && all_hold ks

-- 2.5, 3, 4, 20 and 2 ^ 100
abbrev two_half_f : Float
two_half_f = of_bits binary32 0x40200000

abbrev three_f : Float
three_f = of_bits binary32 0x40400000

abbrev four_f : Float
four_f = of_bits binary32 0x40800000

abbrev twenty_f : Float
twenty_f = of_bits binary32 0x41a00000

abbrev far_f : Float
far_f = of_bits binary32 0x71800000

-- an entry at 0 of this length
abbrev lasting : Float → Entry
lasting duration = record { start = zero_f; duration = duration; done = false }

-- a case, of its parts
abbrev case : List Entry → Loop → Float → Float → List ℕ → Case
case es mode prev next xs = record { entries = es; mode = mode; prev = prev; next = next; listed = xs }

-- one entry of 1 s
abbrev second : List Entry
second = lasting one_f ∷ []

-- paper 01: "Entry 0 of length 0 and entry 1 of 2 s, both at 0"
abbrev pair : List Entry
pair = lasting zero_f ∷ lasting two_f ∷ []

-- the later end first
abbrev turned : List Entry
turned = lasting two_f ∷ lasting one_f ∷ []

-- the cases, with their sentences where paper 01 has one
unfoldable pub table : List Case
table =
    -- "`Times(2)`: play, update 1 completes none; update 1.5 then gives 1, 0"
    case pair (Times 2) zero_f one_f []
    ∷ case pair (Times 2) one_f two_half_f (1 ∷ 0 ∷ [])
    -- "Sorting a call's completions by time; Rust goes by cycle, then entry."
    ∷ case turned (Times 2) zero_f four_f (0 ∷ 1 ∷ 0 ∷ 1 ∷ [])
    -- prev is not in the step, next is
    ∷ case second Forever one_f two_f (0 ∷ [])
    -- the last cycle: of Once, of `Times(0)`, and of three passes there and back
    ∷ case second Once zero_f twenty_f (0 ∷ [])
    ∷ case second (Times 0) zero_f twenty_f (0 ∷ [])
    ∷ case second (PingPongTimes 3) zero_f twenty_f (0 ∷ 0 ∷ [])
    ∷ case second PingPong zero_f twenty_f (0 ∷ 0 ∷ 0 ∷ 0 ∷ 0 ∷ 0 ∷ 0 ∷ 0 ∷ 0 ∷ 0 ∷ [])
    -- "when previous or next elapsed is NaN"
    ∷ case second Forever nan one_f []
    ∷ case second Forever zero_f nan []
    -- a cycle number above u32::MAX; a cycle that starts at 0 times infinity; no entries; a step back
    ∷ case second Forever far_f infinity_f []
    ∷ case (lasting infinity_f ∷ []) Forever zero_f three_f []
    ∷ case [] Forever zero_f one_f []
    ∷ case second Forever three_f one_f []
    ∷ []
