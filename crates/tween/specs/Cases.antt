-- The stagger patterns among the panels at the edges that paper 01 marks *, as one table.
use Rattle.std.specs.Prelude.{ℕ, Bool, true, false, ◌&&◌, List, [], ◌∷◌, eqb, Float, Result, Ok, Err}
use Rattle.std.specs.Float.{binary32}
use Rattle.std.specs.Float.Ieee.{of_bits, to_bits}
use Rattle.float32.specs.Helpers.{one_f}
use Rattle.refusal.specs.declared.Refusal.{Refusal}
use Rattle.tween.specs.declared.stagger_pattern.GridOrigin.TheVariants.{Center}
use Rattle.tween.specs.declared.stagger_pattern.StaggerPattern.{StaggerPattern}
use Rattle.tween.specs.declared.stagger_pattern.StaggerPattern.TheVariants.{Grid, Random, EdgesIn}
use Rattle.tween.specs.StaggerPattern.{delay_of}

-- a pattern, an index, and the bits of the delay
pub data Case : Type 0 where
  case : StaggerPattern → ℕ → ℕ → Case

-- the answer is accepted and has these bits
unfoldable pub gives : Result Float Refusal → ℕ → Bool
gives (Ok delay) bits = eqb (to_bits binary32 delay) bits
gives (Err r) bits = false

-- the definition gives them
unfoldable pub case_holds : Case → Bool
case_holds (case pattern index bits) = gives (delay_of pattern index) bits

-- of every case
unfoldable pub all_hold : List Case → Bool
all_hold [] = true
all_hold (c ∷ cs) = case_holds c && all_hold cs

-- the cases, in the order of the paper; a step is 1 second, so that the delay is the distance
unfoldable pub table : List Case
table =
    case (Grid 4 3 Center one_f) 0 0x4000_0000
    ∷ case (Grid 4 3 Center one_f) 5 0
    ∷ case (EdgesIn 0 one_f) 0 0
    ∷ case (EdgesIn 5 one_f) 3 0x3f80_0000
    ∷ case (Random 0 (of_bits binary32 0x3f00_0000) (of_bits binary32 0x4000_0000)) 0 0x3f00_0000
    ∷ []
