-- The space, then the digits, where they have room.
use mathlib.Core.Path.{refl}
use native.Mathlib.Omega.{arith}
use Rattle.call_log.proofs.Writing.{wrote_put, put_ends, adds_then}
use Rattle.call_log.proofs.fields.Text.bits.Goals as goal

pub overflow_add-self : goal.overflow_add-self
overflow_add-self c = omega (arith, put_ends c.put_hex8.ensures c.unwrap_or.ensures)

pub returns : goal.returns
returns c =
    let digits = rw c.to_bits.ensures at c.put_hex8.ensures in
    adds_then c.byte.ensures (record { slice = refl; whole = λ h. wrote_put digits c.unwrap_or.ensures h })
