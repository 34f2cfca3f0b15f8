-- The number that a pass over the list finds, whatever the label.
use mathlib.Core.Path.{◌≡◌, ap, ◌∙◌}
use Rattle.std.proofs.Common.{rules}
use Rattle.std.specs.Prelude.{Option, Result, Err}
use Rattle.refusal.specs.declared.Refusal.{Refusal}
use Rattle.refusal.specs.Refusal.{number_in}
use Rattle.words.specs.declared.Pair.{Pair}
use Rattle.caption.proofs.Turns.{looked_number}
use Rattle.caption.proofs.finder.check_list.Goals as goal

pub returns-in_err-look_up : goal.returns-in_err-look_up
returns-in_err-look_up c =
    let e : c.from_residual.result ≡ Err c.in_err-look_up.field-0.0 = search rules in
    rw e (ap (λ (r : Result (Option Pair) Refusal). number_in r) c.in_err-look_up.ensures ∙ looked_number _ _)

pub returns : goal.returns
returns c = ap (λ (r : Result (Option Pair) Refusal). number_in r) c.in_ok-look_up.ensures ∙ looked_number _ _
