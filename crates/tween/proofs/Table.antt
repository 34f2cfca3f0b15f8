-- The stagger cases of paper 01 hold, all by one computed test.
use lib.Dec.{T}
use lib.Ieee.{add, sub, mul, div, of_int, of_bits, to_bits, is_nan, lt}
use Rattle.float32.specs.Helpers.{max_f}
use Rattle.tween.specs.StaggerPattern.{distance_delay, grid_delay, xor, hash, random_delay, edges_in}
use Rattle.tween.specs.Cases.{gives, case_holds, all_hold, table}

pub holds : T (all_hold table)
unfolding gives case_holds all_hold table distance_delay grid_delay xor hash random_delay edges_in max_f add sub mul div of_int of_bits to_bits is_nan lt
holds = tt
