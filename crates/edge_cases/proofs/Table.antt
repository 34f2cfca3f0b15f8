-- The panels at the edges hold, all by one computed test.
use lib.Dec.{T}
use lib.Ieee.{add, sub, mul, div, rem, neg, of_int, of_bits, to_bits, to_unsigned, is_nan, lt, le, eq}
use Rattle.float32.specs.Helpers.{max_f, min_f, clamp_f}
use Rattle.tween.specs.StaggerPattern.{distance_delay, grid_delay, xor, hash, random_delay, edges_in}
use Rattle.tween.specs.Cases.{case_holds}
use Rattle.tween.specs.Cases as tween
use Rattle.steps.specs.Times.{base_of, times_run, run_of, times_local, ping_pong, local_time}
use Rattle.steps.specs.Rows.{untouched, reset_step, synced, ticked, reset_first}
use Rattle.completions.specs.Completions.{cycle_start, completes, in_cycle, breaks_at, stops_at, cycles, completions_in, completions_between}
use Rattle.label.specs.Label.{same_text, first_from, first_like}
use Rattle.clock.specs.Clocks.{with_state, scaled, cleared, started, play_state, played, play_rule, paused, resumed, seek_to, share_in, seek_state, sought, next_elapsed, reach_of, advanced_clock}
use Rattle.track.specs.Tracks.{empty_track, progress_in}
use Rattle.track.specs.Updates.{above_one, ticks, newly_done, advanced, playing}
use Rattle.track.specs.Calls.{sent, sought_to, advanced_to, rested, updated, updated_with, track_step}
use Rattle.timeline.specs.Placements.{empty, named_start, resolve_start}
use Rattle.timeline.specs.Calls.{added_at, step}
use Rattle.edge_cases.specs.Edges.{answer, same_numbers, gives, edge_holds, all_hold, panels, edges}

pub holds : T (all_hold edges)
unfolding edges panels all_hold edge_holds gives same_numbers answer step added_at empty named_start resolve_start track_step updated_with updated rested advanced_to sought_to play_rule sent next_elapsed reach_of above_one ticks newly_done advanced playing advanced_clock empty_track progress_in share_in with_state scaled cleared started play_state played paused resumed seek_to seek_state sought same_text first_from first_like cycle_start completes in_cycle breaks_at stops_at cycles completions_in completions_between untouched reset_step synced ticked reset_first base_of times_run run_of times_local ping_pong local_time tween.gives case_holds tween.table distance_delay grid_delay xor hash random_delay edges_in max_f min_f clamp_f add sub mul div rem neg of_int of_bits to_bits to_unsigned is_nan lt le eq
holds = tt
