-- `sheet`, the fields and the LF.
use native.Mathlib.Omega.{arith}
use Rattle.std.proofs.Common.{rules}
use Rattle.float32.specs.Helpers.{to_bits}
use Rattle.call_log.proofs.Writing.{adds_then, adds_as, shown-accepted, accepted_few}
use Rattle.call_log.proofs.lines.accepted.Goals as goal

pub returns : goal.returns
returns c =
    let count = c.entry_count.result in
    let base = to_bits c.duration.result in
    let run = to_bits c.playback_duration.result in
    let zero = rw c.from.ensures at c.number.ensures in
    let all = adds_then (adds_then (adds_then (adds_then (adds_then c.word.ensures zero) c.number-2.ensures) c.bits.ensures) c.bits-2.ensures) c.byte.ensures in
    let line = adds_as (shown-accepted count base run) all in
    let few = accepted_few count base run c.entry_count.type_inv in
    let put = line.whole (omega (arith, few, c.requires)) in
    let w = rw (c.entry_count.ensures, c.duration.ensures, c.playback_duration.ensures) at put in
    search (rules, w, line.slice)
