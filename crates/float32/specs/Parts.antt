-- The parts of a binary32 pattern, as numbers. Definitions only.
use Rattle.std.specs.Prelude.{ℕ, ◌+◌, ◌-◌, ◌*◌, ◌/◌, ◌%◌, ◌^◌, cond, eqb, ltb}
use Rattle.std.specs.Float.{binary32}
use Rattle.std.specs.Float.Ieee.{hid, top}

-- the exponent's field
abbrev pub field_of : ℕ → ℕ
field_of n = n % top binary32 / hid binary32

-- the digits: the leading one, which the pattern leaves out, and those that it has; with a field of 0 there is no leading one
abbrev pub digits_in : ℕ → ℕ
digits_in n = cond (eqb (field_of n) 0) (n % hid binary32) (hid binary32 + n % hid binary32)

-- a finite value is its digits times 2 ^ scale of the smallest values, 2 ^ -149: a field of 0 counts as 1
abbrev pub scale_of : ℕ → ℕ
scale_of n = field_of n - 1

-- the pattern of 2 ^ p of the smallest values
abbrev pub unit_pattern : ℕ → ℕ
unit_pattern p = cond (ltb p 23) (2 ^ p) ((p - 22) * hid binary32)
