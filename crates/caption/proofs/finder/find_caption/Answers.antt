-- Each check in turn, and then the match or the label.
use mathlib.Core.Path.{◌≡◌, sym}
use Rattle.std.proofs.Common.{rules}
use Rattle.std.specs.Prelude.{Option, Err}
use Rattle.words.specs.declared.Pair.{Pair}
use Rattle.caption.specs.Captions.{Answer, shown_by}
use Rattle.caption.proofs.Numbers.{sheet-refuses, entry-refuses, list-refuses, shown-by}
use Rattle.caption.proofs.finder.find_caption.Goals as goal

pub returns-in_err-check : goal.returns-in_err-check
returns-in_err-check c =
    let a = c.args in
    let e : c.from_residual.result ≡ Err c.in_err-check.field-0.0 = search rules in
    rw e (sheet-refuses a.list.now a.sheet.now a.entry _ c.in_err-check.ensures)

pub returns-then-entry-count : goal.returns-then-entry-count
returns-then-entry-count c =
    let a = c.args in
    entry-refuses a.list.now a.sheet.now a.entry (sym c.in_ok-check.ensures) (rw (← c.count.ensures) c.if-entry-count.true)

pub returns-in_err-words : goal.returns-in_err-words
returns-in_err-words c =
    let a = c.args in
    let e : c.from_residual-in_err-words.result ≡ Err c.in_err-words.field-0.0 = search rules in
    rw e (list-refuses a.list.now a.sheet.now a.entry _ (sym c.in_ok-check.ensures) _ c.in_err-words.ensures)

-- what the pass found is shown

found : (first m : Option Pair) (own : Pair) (caption : Answer) → first ≡ m → shown_by first own ≡ caption → shown_by m own ≡ caption
found first m own caption e s = rw (← e) s

pub returns-in-Some : goal.returns-in-Some
returns-in-Some c =
    let a = c.args in
    let s = shown-by a.list.now a.sheet.now a.entry _ (sym c.in_ok-check.ensures) _ c.in_ok-words.ensures (rw (← c.count.ensures) c.if-entry-count.false) c.part_at.ensures in
    rw c.of.ensures (found _ _ _ _ c.in-Some.is s)

pub returns-in-None : goal.returns-in-None
returns-in-None c =
    let a = c.args in
    let s = shown-by a.list.now a.sheet.now a.entry _ (sym c.in_ok-check.ensures) _ c.in_ok-words.ensures (rw (← c.count.ensures) c.if-entry-count.false) c.part_at.ensures in
    rw (c.of-in-None.ensures, c.pair_at.ensures) (found _ _ _ _ c.in-None.is s)
