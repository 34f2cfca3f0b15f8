-- `first` cuts both columns to as many entries as there are of the first n.
use mathlib.Core.Path.{ap, ◌∙◌}
use Prim.Native.Nat.{min}
use native.Mathlib.Omega.{arith}
use lib.ListN.{length-take}
use lib.Ieee.{Float}
use Rattle.completions.proofs.Columns.{all_long, first_same}
use Rattle.completions.proofs.Spans.first.Goals as goal

pub slice_bounds-result-end : goal.slice_bounds-result-end
slice_bounds-result-end c = omega (arith, length-take {A = Float}, all_long)

pub slice_bounds-result-end-2 : goal.slice_bounds-result-end-2
slice_bounds-result-end-2 c = omega (arith, length-take {A = Float}, all_long)

pub returns : goal.returns
returns c =
    let a = c.args in
    first_same a.n c.min-n.result a.self.starts.now a.self.durations.now (c.min-n.ensures ∙ ap (min a.n) c.len.ensures)
