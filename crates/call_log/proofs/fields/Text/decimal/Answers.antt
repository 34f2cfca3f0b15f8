-- The digits are put where they have room.
use mathlib.Core.Path.{refl}
use native.Mathlib.Omega.{arith}
use Rattle.call_log.proofs.Writing.{wrote_put, put_ends}
use Rattle.call_log.proofs.fields.Text.decimal.Goals as goal

pub overflow_add-self : goal.overflow_add-self
overflow_add-self c = omega (arith, put_ends c.put_decimal.ensures c.unwrap_or.ensures, c.type_inv.self)

pub returns : goal.returns
returns c = record { slice = refl; whole = λ h. wrote_put c.put_decimal.ensures c.unwrap_or.ensures h }
