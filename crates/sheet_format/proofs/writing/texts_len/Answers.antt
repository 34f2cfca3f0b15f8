-- The sum over the entries.
use mathlib.Core.Path.{◌≡◌, ◌∙◌}
use borrow.Author.Rules.{rules}
use Rattle.std.specs.Prelude.{sum_by}
use Rattle.sheet_format.specs.Write.{text_length}
use Rattle.sheet_format.proofs.Turns.{texts-sum}
use Rattle.sheet_format.proofs.writing.texts_len.Goals as goal

pub returns : goal.returns
returns c =
    let e : c.sum.result ≡ sum_by text_length c.args.items.now = search rules in
    e ∙ texts-sum c.args.items.now
