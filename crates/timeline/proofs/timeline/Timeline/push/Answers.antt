-- `push` is `added_at`: 2 where the label is too long, then the entry.
use mathlib.Core.Path.{refl}
use native.Mathlib.Omega.{arith}
use Rattle.timeline.proofs.Growing.{too_long, grows}
use Rattle.timeline.proofs.timeline.Timeline.push.Goals as goal

pub returns-then-label-gt-MAX_LABEL : goal.returns-then-label-gt-MAX_LABEL
returns-then-label-gt-MAX_LABEL c = rw (too_long c.args.self c.args.label.now c.args.start c.args.duration (omega arith) (omega arith)) (record { refusal = refl; timeline = refl })

pub returns : goal.returns
returns c =
    let g = c.args in
    rw (grows g.self g.label.now g.start g.duration (omega arith) (omega arith)) (record { refusal = refl; timeline = c.grown.ensures })
