-- What is left of the places makes of the rest what all of them make of the digits.
use Rattle.std.proofs.Common.{◌≡◌, ◌-◌, ◌*◌, ◌%◌, ◌^◌, ◌<◌}
use Rattle.float32.proofs.parts.Scaled.rest_below.Given as goal

abbrev pub invariant-loop : goal.invariant-loop
invariant-loop l = (l.rest * 2 ^ (l.k - 32 * l.counter) % l.fn.divisor.size.digits ≡ l.fn.self.digits * 2 ^ l.k % l.fn.divisor.size.digits) × (l.rest < l.fn.divisor.size.digits)
