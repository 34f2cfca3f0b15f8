-- `preview` shows the rows over a copy of the marks.
use mathlib.Core.Path.{◌≡◌}
use lib.ListN.{take}
use Rattle.std.proofs.Common.{rules}
use Rattle.player.proofs.Shown.{preview-short, preview-room, preview-shown}
use Rattle.player.proofs.engine.preview.Goals as goal

pub returns-in_err-check : goal.returns-in_err-check
returns-in_err-check c =
    let g = c.args in
    preview-short g.head g.spans g.marks.now g.rows.now g.dt c.entries-n.ensures c.check.ensures c.in_err-check.field-0.0 (search rules) (search rules)

pub show-requires : goal.show-requires
show-requires c =
    let g = c.args in
    let own : c.copy_from_slice.new.self ≡ take c.entries-n.result g.marks.now = search rules in
    preview-room g.head g.spans g.marks.now g.rows.now g.dt c.entries-n.ensures c.check.ensures (search rules) own _

pub returns : goal.returns
returns c =
    let g = c.args in
    let own : c.copy_from_slice.new.self ≡ take c.entries-n.result g.marks.now = search rules in
    preview-shown g.head g.spans g.marks.now g.rows.now g.dt c.entries-n.ensures c.check.ensures (search rules) own _ c.show.ensures
