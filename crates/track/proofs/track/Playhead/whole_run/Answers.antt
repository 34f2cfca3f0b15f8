-- `whole_run` has the mode and the base.
use Rattle.track.proofs.Columns.{counted, based}
use Rattle.track.proofs.track.Playhead.whole_run.Goals as goal

pub returns : goal.returns
returns c =
    let g = c.args in
    let ss = g.spans.starts.now in
    let ds = g.spans.durations.now in
    let ms = g.marks.now in
    (c.run.ensures.0, based g.self ss ds ms _ (counted g.self ss ds ms c.entries.ensures) c.run.ensures.1)
