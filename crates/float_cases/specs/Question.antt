-- What the program answers. Definitions only.
use Rattle.std.specs.Prelude.{ℕ, Bool, cond, List, [], ◌∷◌, get_or, slice_index, Float, Option, Some, None, Result, Ok, Err}
use Rattle.std.specs.Float.Ieee.{is_nan}
use Rattle.float32.specs.Helpers.{max_f, min_f, clamp_f, finite_f, from_u32, to_u32, infinity_f, from_bits, to_bits}
use Rattle.case_io.specs.Bits.{zeroless}
use Rattle.refusal.specs.declared.Refusal.{Refusal}
use Rattle.refusal.specs.Refusal.{accepted}
use Rattle.refusal.specs.Refusal.{number as refusal_number}
use Rattle.tween.specs.StaggerPattern.{origin_of, delay_of}
use Rattle.tween.specs.declared.stagger_pattern.GridOrigin.{GridOrigin}
use Rattle.tween.specs.declared.stagger_pattern.StaggerPattern.{StaggerPattern}
use Rattle.tween.specs.declared.stagger_pattern.StaggerPattern.TheVariants.{Grid, Random, CenterOut, EdgesIn}

-- ---- answers: a number or a float's bits, or a refusal; none to a question that there is not

abbrev pub Answer : Type 0
Answer = Option (Result ℕ Refusal)

-- a number
abbrev pub number : ℕ → Answer
number n = Some (Ok n)

-- true is 1, false is 0
abbrev pub truth : Bool → Answer
truth b = number (cond b 1 0)

-- the bits of a float, the sign of a zero included
abbrev pub exact : Float → Answer
exact x = number (to_bits x)

-- the bits of what may be refused
abbrev pub zeroless_in : Result Float Refusal → Result ℕ Refusal
zeroless_in (Ok x) = Ok (zeroless x)
zeroless_in (Err r) = Err r

-- the delay of a pattern, or why it is refused
abbrev pub delayed : StaggerPattern → ℕ → Result ℕ Refusal
delayed pattern index = zeroless_in (delay_of pattern index)

-- the delay in a grid from an origin, where there is one
abbrev pub gridded : ℕ → ℕ → Option GridOrigin → Float → ℕ → Answer
gridded cols rows None step index = None
gridded cols rows (Some origin) step index = Some (delayed (Grid cols rows origin step) index)

-- the answers to all questions on the same operands, in the order of the questions' numbers
abbrev pub answers : ℕ → ℕ → ℕ → ℕ → ℕ → List Answer
answers a b c d e =
    number (zeroless (max_f (from_bits a) (from_bits b)))
    ∷ number (zeroless (min_f (from_bits a) (from_bits b)))
    ∷ exact (clamp_f (from_bits a) (from_bits b) (from_bits c))
    ∷ truth (is_nan (from_bits a))
    ∷ truth (finite_f (from_bits a))
    ∷ exact (from_u32 a)
    ∷ number (to_u32 (from_bits a))
    ∷ exact infinity_f
    ∷ gridded a b (origin_of c) (from_bits d) e
    ∷ Some (delayed (Random a (from_bits b) (from_bits c)) d)
    ∷ Some (delayed (CenterOut a (from_bits b)) c)
    ∷ Some (delayed (EdgesIn a (from_bits b)) c)
    ∷ []

-- the answer to question `op` on five operands
unfoldable pub answer_of : ℕ → List ℕ → Answer
answer_of op xs = get_or (answers (slice_index xs 0) (slice_index xs 1) (slice_index xs 2) (slice_index xs 3) (slice_index xs 4)) op None

-- the two numbers of an answer's line: its refusal, 255 where there is no such question, and what is answered, 0 where that is refused
abbrev pub numbered : Answer → ℕ × ℕ
numbered (Some (Ok n)) = (accepted, n)
numbered (Some (Err r)) = (refusal_number r, 0)
numbered None = (255, 0)
