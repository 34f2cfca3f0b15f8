-- A step inside the run, and one behind it.
use mathlib.Core.Path.{sym, ◌∙◌}
use borrow.Author.Rules.{rules}
use Rattle.steps.proofs.Inside.{ticked-inside, ticked-behind}
use Rattle.steps.proofs.Entry.ticked.Goals as goal

pub returns-then-is_inside : goal.returns-then-is_inside
returns-then-is_inside c =
    c.ticked_inside.ensures
    ∙ sym (ticked-inside _ _ _ _ (search rules) (rw c.end-end.ensures at (sym c.is_inside.ensures ∙ c.if-is_inside.true)))

pub returns-then-is_behind : goal.returns-then-is_behind
returns-then-is_behind c =
    c.end_entry.ensures
    ∙ sym (ticked-behind _ _ _ _ c.if-step-self.false (rw c.end-end.ensures at (sym c.is_behind.ensures ∙ c.if-is_behind.true)))
