-- `entry_completion_labels_between` of timeline.rs, as the list of entry numbers. Definitions only.
use Rattle.std.specs.Prelude.{ℕ, zero, suc, ◌+◌, ◌/◌, ◌%◌, ◌^◌, min, Bool, true, false, ◌&&◌, ◌||◌, List, [], ◌∷◌, ◌++◌, map, eqb, leb, Float, Option, Some, None}
use Rattle.std.specs.Float.Ieee.{is_nan, add, mul, div, lt, le}
use Rattle.std.specs.Float.{binary32}
use Rattle.float32.specs.Helpers.{zero_f, max_f, from_u32, to_u32}
use Rattle.tween.specs.LoopMode.{passes}
use Rattle.tween.specs.declared.loop_mode.Loop.{Loop}
use Rattle.tween.specs.declared.loop_mode.Loop.TheVariants.{Once, Times, Forever, PingPong, PingPongTimes}
use Rattle.steps.specs.Times.{two_f, end_at, base_of}
use Rattle.steps.specs.declared.Entry.{Entry}
use Rattle.completions.specs.declared.Walk.{Walk}

-- ---- one cycle

-- `cycle as f32 * period`
unfoldable pub cycle_start : Walk → ℕ → Float
cycle_start w cycle = mul binary32 (from_u32 cycle) w.period

-- `prev < completion && completion <= next`, for an entry with this end in the cycle that starts at start
unfoldable pub completes : Walk → Float → Float → Bool
completes w start end = lt w.step.prev (add binary32 start end) && le (add binary32 start end) w.step.next

-- the number i in front, where the test passes
abbrev pub keep : Bool → ℕ → List ℕ → List ℕ
keep true i xs = i ∷ xs
keep false i xs = xs

-- `for entry in ..`: which of the ends complete in the cycle, numbered from i on
unfoldable pub in_cycle : Walk → Float → ℕ → List Float → List ℕ
in_cycle w start i [] = []
in_cycle w start i (end ∷ ends) = keep (completes w start end) i (in_cycle w start (suc i) ends)

-- ---- the loop over the cycles

-- `u32::MAX`
abbrev pub last_cycle : ℕ
last_cycle = 4294967295

-- `cycle.saturating_add(1)`
abbrev pub next_cycle : ℕ → ℕ
next_cycle cycle = min (cycle + 1) last_cycle

-- `cycle >= max_cycles`, where there is such a number
abbrev pub reaches : Option ℕ → ℕ → Bool
reaches (Some most) cycle = leb most cycle
reaches None cycle = false

-- the same, or `cycle_start > next`
unfoldable pub breaks_at : Walk → ℕ → Bool
breaks_at w cycle = reaches w.max_cycles cycle || lt w.step.next (cycle_start w cycle)

-- after `saturating_add`: `cycle == u32::MAX`, or one of the breaks above
unfoldable pub stops_at : Walk → ℕ → Bool
stops_at w cycle = eqb cycle last_cycle || breaks_at w cycle

-- `loop`, with fuel. The flag says that it breaks before this cycle: a cycle past the break is not computed
unfoldable pub cycles : Walk → List Float → ℕ → Bool → ℕ → List ℕ
cycles w ends zero stop cycle = []
cycles w ends (suc fuel) true cycle = []
cycles w ends (suc fuel) false cycle =
    in_cycle w (cycle_start w cycle) 0 ends ++ cycles w ends fuel (stops_at w (next_cycle cycle)) (next_cycle cycle)

-- the loop from its first cycle on, which is not asked whether it is `u32::MAX`, broken off after this many cycles
abbrev pub cycles_within : ℕ → Walk → List Float → ℕ → List ℕ
cycles_within most w ends first = cycles w ends most (breaks_at w first) first

-- all of it: there are fewer than 2 ^ 32
abbrev pub cycles_from : Walk → List Float → ℕ → List ℕ
cycles_from = cycles_within (2 ^ 32)

-- ---- the whole walk

-- `(Some(max_cycles), period)`
abbrev pub limited_to : Float → Float → Float → ℕ → Walk
limited_to prev next period most = record { step = record { prev = prev; next = next }; period = period; max_cycles = Some most }

-- `(None, period)`
abbrev pub endlessly : Float → Float → Float → Walk
endlessly prev next period = record { step = record { prev = prev; next = next }; period = period; max_cycles = None }

-- `match self.looping`: forward and back are one cycle of a ping-pong
abbrev pub walk_of : Loop → Float → Float → Float → Walk
walk_of Once base prev next = limited_to prev next base 1
walk_of (Times n) base prev next = limited_to prev next base (passes n)
walk_of Forever base prev next = endlessly prev next base
walk_of PingPong base prev next = endlessly prev next (mul binary32 base two_f)
walk_of (PingPongTimes n) base prev next = limited_to prev next (mul binary32 base two_f) (passes n / 2 + passes n % 2)

-- `(prev / period).max(0.0) as u32`
abbrev pub first_cycle : Walk → ℕ
first_cycle w = to_u32 (max_f (div binary32 w.step.prev w.period) zero_f)

-- `return labels` before there are any, where the test passes
abbrev pub none_if : Bool → List ℕ → List ℕ
none_if true xs = []
none_if false xs = xs

-- `entry_completion_labels_between(prev, next, base)`, for entries with these ends, where the loop is broken off after this many cycles
abbrev pub completions_for : ℕ → Loop → List Float → Float → Float → Float → List ℕ
completions_for most mode ends base prev next =
    let w = walk_of mode base prev next in
    none_if (le next prev || (le base zero_f || le w.period zero_f)) (cycles_within most w ends (first_cycle w))

-- all of it
unfoldable pub completions_in : Loop → List Float → Float → Float → Float → List ℕ
completions_in = completions_for (2 ^ 32)

-- "when previous or next elapsed is NaN .. The list there is empty; say so at once."
abbrev pub empty_at_nan : Float → Float → List ℕ → List ℕ
empty_at_nan prev next xs = none_if (is_nan prev || is_nan next) xs

-- the completions of these entries from prev to next: their numbers, by cycle, then by entry
unfoldable pub completions_between : Loop → List Entry → Float → Float → List ℕ
completions_between mode es prev next = empty_at_nan prev next (completions_in mode (map end_at es) (base_of es) prev next)
