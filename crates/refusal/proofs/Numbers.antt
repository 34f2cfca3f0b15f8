-- The numbers tell a refusal from acceptance, and refusals from one another.
use mathlib.Core.Path.{◌≡◌}
use Rattle.std.specs.Prelude.{◌<◌}
use mathlib.Core.Bool.{false}
use native.Mathlib.Omega.{arith}
use borrow.Author.Tests.{ne_eqb}
use lib.Dec.{eqb}
use Rattle.refusal.specs.declared.Refusal.{Refusal}
use Rattle.refusal.specs.declared.Refusal.TheVariants.{TimelineFull, LabelTooLong, RowsTooShort, BadReplies, ListTooShort, SheetVersion, SheetLength, SheetCount, SheetLoop, SheetPlacement, SheetPair, SheetZero, GridTooLarge, BadCall, RoomTooShort, BadCaption}
use Rattle.refusal.specs.Refusal.{accepted, number}

pub number-above : (r : Refusal) → 0 < number r
number-above TimelineFull = omega arith
number-above LabelTooLong = omega arith
number-above RowsTooShort = omega arith
number-above BadReplies = omega arith
number-above ListTooShort = omega arith
number-above SheetVersion = omega arith
number-above SheetLength = omega arith
number-above SheetCount = omega arith
number-above SheetLoop = omega arith
number-above SheetPlacement = omega arith
number-above SheetPair = omega arith
number-above SheetZero = omega arith
number-above GridTooLarge = omega arith
number-above BadCall = omega arith
number-above RoomTooShort = omega arith
number-above BadCaption = omega arith

-- so it is not that of acceptance
pub number-not : (r : Refusal) → number r ≡ accepted → ⊥
number-not r e = let h = number-above r in omega (arith, e, h)

pub refused : (r : Refusal) → eqb (number r) accepted ≡ false
refused r = ne_eqb (number r) accepted (number-not r)
