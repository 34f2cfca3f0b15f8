-- `all` over the entries.
use mathlib.Core.Path.{◌∙◌}
use borrow.Author.Rules.{rules}
use Rattle.std.proofs.lemmas.Iterator.{YieldsList-from_slice}
use Rattle.std.proofs.lemmas.Iterator.Search.{all_from_yields_List}
use Rattle.sheet_format.specs.declared.description.Item.{Item}
use Rattle.sheet_rules.specs.Placements.{target_good}
use Rattle.sheet_format.proofs.Turns.{targets-all}
use Rattle.sheet_format.proofs.writing.targets_good.Goals as goal

pub returns : goal.returns
returns c =
    all_from_yields_List (λ (x : Item). target_good c.args.n x.at) _ _ _ c.all.ensures.ran (YieldsList-from_slice c.args.items.now cc) (λ x b q k. search rules) ∙ targets-all c.args.n c.args.items.now
