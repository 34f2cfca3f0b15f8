-- The worked example, computed.
use mathlib.Core.Path.{◌≡◌, refl}
use lib.Ieee.{add, sub, mul, div, rem, neg, of_int, of_bits, to_bits, to_unsigned, is_nan, lt, le, eq}
use Rattle.float32.specs.Helpers.{max_f, min_f, clamp_f}
use Rattle.tween.specs.LoopMode.{loop_of}
use Rattle.digits.specs.Digits.{code_of, digits, decimal_places_from, decimal_places, decimal}
use Rattle.steps.specs.Times.{base_of, times_run, run_of, times_local, ping_pong, local_time}
use Rattle.steps.specs.Rows.{untouched, reset_step, synced, ticked, reset_first}
use Rattle.label.specs.Label.{same_text, first_from, first_like}
use Rattle.clock.specs.Clocks as clocks
use Rattle.track.specs.Tracks.{empty_track, progress_in}
use Rattle.track.specs.Updates.{above_one, ticks, newly_done, advanced, playing}
use Rattle.clock.specs.Clocks.{play_rule, share_in, next_elapsed, advanced_clock}
use Rattle.track.specs.Calls.{sent, sought_to, advanced_to, rested, updated, updated_with, track_step}
use Rattle.timeline.specs.Placements.{empty, named_start, resolve_start}
use Rattle.timeline.specs.Calls.{added_at, step, after}
use Rattle.words.specs.Words.{word}
use Rattle.words.specs.Pairs.{pairs_in_turn}
use Rattle.sheet_format.specs.Check.{header_number, record_number, records_number, check_number}
use Rattle.sheet_format.specs.Descriptions.{empty_description, placement_of, items_from, description_in}
use Rattle.sheet.specs.Build.{calls_from, calls_of, reading_of}
use Rattle.script.specs.Scripts.{outcome_in}
use Rattle.call_log.specs.Lines.{shown, shown_all}
use Rattle.call_log.specs.Logs.{is_cut, sheet_number, outcome_at, call_line, after_calls, numbers_from, log_of, log_bytes}
use Rattle.log_history.specs.Claim.{NanShown, example_input, example_log}

pub nan_shown : NanShown
unfolding shown code_of digits decimal_places_from decimal_places decimal to_bits
nan_shown = refl

pub worked : log_bytes example_input ≡ example_log
unfolding example_input example_log log_of numbers_from after_calls call_line outcome_at outcome_in sheet_number is_cut shown_all shown reading_of calls_of calls_from description_in items_from placement_of loop_of empty_description check_number records_number record_number pairs_in_turn header_number word step after added_at empty named_start resolve_start track_step updated_with updated rested advanced_to sought_to play_rule sent next_elapsed above_one ticks newly_done advanced playing advanced_clock empty_track progress_in share_in clocks.with_state clocks.scaled clocks.cleared clocks.started clocks.play_state clocks.played clocks.paused clocks.resumed clocks.seek_to clocks.seek_state clocks.sought clocks.reach_of same_text first_from first_like untouched reset_step synced ticked reset_first base_of times_run run_of times_local ping_pong local_time code_of digits decimal_places_from decimal_places decimal max_f min_f clamp_f add sub mul div rem neg of_int of_bits to_bits to_unsigned is_nan lt le eq
worked = refl
