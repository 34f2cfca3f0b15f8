-- How a float is printed.
use Rattle.std.specs.Prelude.{ℕ, cond, Float}
use Rattle.std.specs.Float.Ieee.{eq}
use Rattle.float32.specs.Helpers.{zero_f, to_bits}

-- the bits where "zeros of either sign agree"
abbrev pub zeroless : Float → ℕ
zeroless x = cond (eq x zero_f) 0 (to_bits x)
