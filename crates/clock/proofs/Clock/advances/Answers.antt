-- `!=` is the test that the base is not 0.
use mathlib.Core.Path.{sym, ◌∙◌}
use lib.Ieee.{ne}
use Rattle.clock.specs.Clocks.{advances}
use Rattle.clock.proofs.Clock.advances.Goals as goal

pub returns-then-is_playing : goal.returns-then-is_playing
unfolding advances ne
returns-then-is_playing c = simp (sym c.is_playing.ensures ∙ c.if-is_playing.true)
