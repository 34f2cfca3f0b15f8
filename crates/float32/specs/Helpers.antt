-- The float helpers of paper 01, part 1, over the kit's IEEE 754 values (lib.Ieee). Definitions only.
-- The suffix F says that a name is about floats, where the plain one is about numbers.
use Rattle.std.specs.Prelude.{ℕ, Bool, true, false, not, ◌||◌, cond, eqb, pos, Float}
use Rattle.std.specs.Float.Ieee as Ieee
use Rattle.std.specs.Float.{nan, inf, fin, binary32}
use Rattle.std.specs.Float.Ieee.{lt, is_nan, of_bits, of_int, to_unsigned}

-- 0.0 and 1.0, as the compiler writes the literals
abbrev pub zero_f : Float
zero_f = of_bits binary32 0

abbrev pub one_f : Float
one_f = of_bits binary32 0x3f800000

-- `f32::INFINITY`
abbrev pub infinity_f : Float
infinity_f = inf false

-- `f32::max`: a NaN operand gives the other one; operands that compare equal give the first
unfoldable pub max_f : Float → Float → Float
max_f a b = cond (is_nan a) b (cond (lt a b) b a)

-- `f32::min`, likewise
unfoldable pub min_f : Float → Float → Float
min_f a b = cond (is_nan a) b (cond (lt b a) b a)

-- `f32::clamp`: its two tests, both false at a NaN, which is kept
unfoldable pub clamp_f : Float → Float → Float → Float
clamp_f x lo hi = cond (lt x lo) lo (cond (lt hi x) hi x)

-- `f32::is_finite`: neither a NaN nor an infinity
abbrev pub finite_f : Float → Bool
finite_f nan = false
finite_f (inf s) = false
finite_f (fin s m e) = true

-- `n as f32` of a u32: rounded to nearest, a tie to the even one
abbrev pub from_u32 : ℕ → Float
from_u32 n = of_int binary32 (pos n)

-- `x as u32`: cut toward zero, 0 for a NaN and below 0, 4,294,967,295 above the range
abbrev pub to_u32 : Float → ℕ
to_u32 x = to_unsigned 32 x

-- `f32::from_bits`: every NaN pattern is the NaN
abbrev pub from_bits : ℕ → Float
from_bits n = of_bits binary32 n

-- `f32::to_bits`: "NaN as 7fc00000"
abbrev pub to_bits : Float → ℕ
to_bits x = Ieee.to_bits binary32 x

-- no NaN, and not below zero: -0.0 and an infinity are in
abbrev pub nonneg_f : Float → Bool
nonneg_f nan = false
nonneg_f (inf s) = not s
nonneg_f (fin s m e) = not s || eqb m 0
