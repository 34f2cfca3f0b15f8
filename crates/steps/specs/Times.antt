-- When an entry ends, how long entries play, and where in them a second of play lies. Definitions only.
use Rattle.std.specs.Prelude.{ℕ, cond, Float}
use mathlib.Core.List.{List, foldl}
use Rattle.std.specs.Float.{binary32}
use Rattle.std.specs.Float.Ieee.{add, sub, mul, rem, le, eq, of_bits}
use Rattle.float32.specs.Helpers.{zero_f, infinity_f, max_f, min_f, from_u32}
use Rattle.tween.specs.LoopMode.{passes}
use Rattle.tween.specs.declared.loop_mode.Loop.{Loop}
use Rattle.tween.specs.declared.loop_mode.Loop.TheVariants.{Once, Times, Forever, PingPong, PingPongTimes}
use Rattle.steps.specs.declared.Entry.{Entry}

-- "up to 256 entries"
abbrev pub max_entries : ℕ
max_entries = 256

-- 2.0
abbrev pub two_f : Float
two_f = of_bits binary32 0x40000000

-- `TimelineEntry::end_at`
abbrev pub end_at : Entry → Float
end_at e = add binary32 e.start e.duration

-- the later of the ends so far and the entry's
abbrev pub later : Float → Entry → Float
later acc e = max_f acc (end_at e)

-- the base: `Timeline::duration`, the largest end, 0 when there is no entry
unfoldable pub base_of : List Entry → Float
base_of es = foldl later zero_f es

-- `base * n.max(1) as f32`
unfoldable pub times_run : Float → ℕ → Float
times_run base n = mul binary32 base (from_u32 (passes n))

-- the run of a base that is not 0
abbrev pub run_in : Loop → Float → Float
run_in Once base = base
run_in (Times n) base = times_run base n
run_in Forever base = infinity_f
run_in PingPong base = infinity_f
run_in (PingPongTimes n) base = times_run base n

-- the run: `playback_duration`, "0 when the base is 0"
unfoldable pub run_of : Loop → Float → Float
run_of mode base = cond (eq base zero_f) zero_f (run_in mode base)

-- `elapsed >= total` gives the base, else `elapsed % base`
unfoldable pub times_local : Float → ℕ → Float → Float
times_local base n elapsed = cond (le (times_run base n) elapsed) base (rem binary32 elapsed base)

-- forward and back again, in a cycle of twice the base
unfoldable pub ping_pong : Float → Float → Float
ping_pong base elapsed =
    let period = mul binary32 base two_f in
    let cycle = rem binary32 elapsed period in
    cond (le cycle base) cycle (sub binary32 period cycle)

-- the local time in a base that is not 0
abbrev pub local_in : Loop → Float → Float → Float
local_in Once base elapsed = min_f elapsed base
local_in (Times n) base elapsed = times_local base n elapsed
local_in Forever base elapsed = rem binary32 elapsed base
local_in PingPong base elapsed = ping_pong base elapsed
local_in (PingPongTimes n) base elapsed = ping_pong base elapsed

-- `local_time_for_elapsed`
unfoldable pub local_time : Loop → Float → Float → Float
local_time mode base elapsed = cond (eq base zero_f) zero_f (local_in mode base elapsed)
