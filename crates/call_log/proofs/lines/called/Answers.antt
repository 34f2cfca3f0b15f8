-- The number, the fields, the list and the LF.
use native.Mathlib.Omega.{arith}
use Rattle.std.proofs.Common.{rules}
use Rattle.float32.specs.Helpers.{to_bits}
use Rattle.clock.specs.Clocks.{letter_of}
use Rattle.call_log.proofs.Writing.{adds_then, adds_as, shown-called, called_few}
use Rattle.call_log.proofs.lines.called.Goals as goal

pub returns : goal.returns
returns c =
    let a = c.args in
    let letter = letter_of a.clock.state in
    let bits = to_bits a.clock.elapsed in
    let refusal = rw c.from.ensures at c.number.ensures in
    let all = adds_then (adds_then (adds_then (adds_then (adds_then c.decimal.ensures c.letter-2.ensures) c.bits.ensures) refusal) c.list.ensures) c.byte.ensures in
    let line = adds_as (shown-called a.number letter bits a.refusal a.listed.now) (rw c.letter.ensures at all) in
    let few = called_few a.number letter bits a.refusal a.listed.now c.ranges.number.fits c.ranges.refusal.fits (λ i. (c.type_inv.listed i).fits) c.requires.0 in
    let w = line.whole (omega (arith, few, c.requires.1)) in
    let ends = w.ends in
    (search (rules, w, line.slice), omega (arith, ends, few))
