-- `find` is `first_with`: `position` over the labels.
use mathlib.Core.Path.{◌∙◌}
use Rattle.std.proofs.Common.{rules}
use Rattle.std.proofs.lemmas.Iterator.{YieldsList-from_slice}
use Rattle.std.proofs.lemmas.Iterator.Search.{position_from_yields_List}
use Rattle.label.specs.declared.Label.{Label}
use Rattle.label.specs.Label.{text, same_text}
use Rattle.label.proofs.First.{first_position}
use Rattle.label.proofs.find.Goals as goal

pub returns : goal.returns
returns c =
    let target = c.args.target.now in
    position_from_yields_List (λ (l : Label). same_text (text l) target) _ _ _ c.position.ensures.ran (YieldsList-from_slice c.args.labels.now cc) (λ x b q k. search rules) ∙ first_position target c.args.labels.now
