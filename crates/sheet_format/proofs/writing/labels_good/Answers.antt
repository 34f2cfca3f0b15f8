-- `all` over the entries.
use mathlib.Core.Path.{◌∙◌}
use lib.Dec.{leb}
use borrow.Author.Rules.{rules}
use Rattle.std.proofs.lemmas.Iterator.{YieldsList-from_slice}
use Rattle.std.proofs.lemmas.Iterator.Search.{all_from_yields_List}
use Rattle.label.specs.Label.{max_label}
use Rattle.sheet_format.specs.declared.description.Item.{Item}
use Rattle.sheet_format.proofs.Turns.{labels-all}
use Rattle.sheet_format.proofs.writing.labels_good.Goals as goal

pub returns : goal.returns
returns c =
    all_from_yields_List (λ (x : Item). leb x.label.len max_label) _ _ _ c.all.ensures.ran (YieldsList-from_slice c.args.items.now cc) (λ x b q k. search rules) ∙ labels-all c.args.items.now
