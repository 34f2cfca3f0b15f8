-- `stagger` (stagger.rs). Definitions only.
use Rattle.std.specs.Prelude.{ℕ, List, length, Float}
use Rattle.std.specs.Float.{binary32}
use Rattle.std.specs.Float.Ieee.{mul}
use Rattle.float32.specs.Helpers.{zero_f, max_f, from_u32}
use Rattle.timeline.specs.declared.timeline.At.{At}
use Rattle.timeline.specs.declared.timeline.At.TheVariants.{Absolute}
use Rattle.group.specs.Items.{item_calls, too_many, HandedOut, built_by}

-- `At::Absolute(index as f32 * delay)`, with `delay.max(0.0)`
unfoldable pub at_every : Float → ℕ → At
at_every delay i = Absolute (mul binary32 (from_u32 i) (max_f delay zero_f))

-- what `stagger` hands out
unfoldable pub staggered : List Float → Float → HandedOut
staggered ds delay = built_by (too_many (length ds)) (item_calls (at_every delay) 0 ds)
