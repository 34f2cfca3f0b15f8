-- The worked cases, computed.
use lib.Dec.{T}
use lib.Ieee.{of_bits, to_bits, add, sub, lt, le, eq, is_nan}
use Rattle.float32.specs.Helpers.{max_f, min_f}
use Rattle.steps.specs.Rows.{reset_step, ticked}
use Rattle.steps.specs.Cases.{gives, case_holds, all_hold, table}

pub holds : T (all_hold table)
unfolding table all_hold case_holds gives ticked reset_step max_f min_f of_bits to_bits add sub lt le eq is_nan
holds = tt
