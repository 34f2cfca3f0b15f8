-- The loop passes a byte at each turn.
use mathlib.Core.Path.{ap}
use native.Mathlib.Omega.{arith}
use Prim.Native.Nat.{ℕ}
use lib.ListN.{length-take}
use Rattle.escape.proofs.Text.{none_passed, one-passed, all-passed}
use Rattle.escape.proofs.escape.Goals as goal

pub loop-byte-init : goal.loop-byte-init
loop-byte-init c = none_passed _ _ (omega (arith, length-take c.min-used.result c.args.bytes.now))

pub loop-byte-preserved : goal.loop-byte-preserved
loop-byte-preserved c = one-passed _ _ _ _ _ _ _ c.loop-byte.invariant (omega arith) (omega arith) c.put_escaped-len.ensures

pub returns-clause-value : goal.returns-clause-value
returns-clause-value c = rw (← c.min-used.ensures) (ap (λ (n : ℕ). record { used = c.min-used.result; len = n }) (all-passed _ _ _ _ _ c.loop-byte.invariant (omega arith)).0)

pub returns-clause-room_after : goal.returns-clause-room_after
returns-clause-room_after c = rw (← c.min-used.ensures) (all-passed _ _ _ _ _ c.loop-byte.invariant (omega arith)).1
