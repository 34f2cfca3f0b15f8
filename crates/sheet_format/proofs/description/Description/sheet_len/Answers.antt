-- Where the labels start, and how long they are.
use mathlib.Core.Path.{sym, ◌∙◌}
use native.Mathlib.Omega.{arith}
use Rattle.sheet_format.proofs.Sheets.{size-sheet}
use Rattle.sheet_format.proofs.ReadBack.{texts-short}
use Rattle.sheet_format.proofs.description.Description.sheet_len.Goals as goal

pub overflow_add-result : goal.overflow_add-result
overflow_add-result c =
    let v = c.items-items.ensures.value in
    let short = texts-short _ (sym (rw v at c.labels_good.ensures) ∙ c.if-not-labels_good.false) in
    let texts = rw v at c.texts_len.ensures in
    let len = rw v at c.items-items.ensures.len in
    omega arith

pub returns-clause-len : goal.returns-clause-len
returns-clause-len c =
    let i = c.items-items.ensures in
    size-sheet _ _ _ _ c.if-self-gt-MAX_ENTRIES.false i.value i.len c.labels_at.ensures c.texts_len.ensures
