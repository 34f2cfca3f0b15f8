-- The worked cases, computed.
use lib.Dec.{T}
use lib.Ieee.{of_bits, add, mul, div, lt, le, eq, of_int, to_unsigned, is_nan}
use Rattle.float32.specs.Helpers.{max_f}
use Rattle.steps.specs.Times.{base_of}
use Rattle.completions.specs.Completions.{cycle_start, completes, in_cycle, breaks_at, stops_at, cycles, completions_in, completions_between}
use Rattle.completions.specs.Cases.{case_holds, all_hold, table}
use Rattle.completions.specs.Prompt.{completions_within, slow_walk, slow_as_said}

pub holds : T (all_hold table)
unfolding table all_hold case_holds completions_between completions_in cycles stops_at breaks_at in_cycle completes cycle_start base_of max_f of_bits add mul div lt le eq of_int to_unsigned is_nan
holds = tt

pub slow : T slow_as_said
unfolding slow_as_said slow_walk completions_within cycles stops_at breaks_at in_cycle completes cycle_start base_of max_f of_bits add mul div lt le eq of_int to_unsigned is_nan
slow = tt
