-- The number of the mode that was read is the one that stands there, or not.
use mathlib.Core.Path.{sym, ◌∙◌}
use Rattle.sheet_rules.proofs.Said.{loop_taken, loop_refused}
use Rattle.sheet_rules.proofs.Header.loop_mode.Goals as goal

pub returns-then-number-self-clause-number : goal.returns-then-number-self-clause-number
returns-then-number-self-clause-number c = loop_refused _ _ c.in_ok-looping.looping c.in_ok-looping.ensures (λ e. c.if-number-self.true (c.number.ensures ∙ e))

pub returns-clause-number : goal.returns-clause-number
returns-clause-number c = loop_taken _ _ c.in_ok-looping.looping c.in_ok-looping.ensures (sym c.number.ensures ∙ c.if-number-self.false)
