-- The digits of any index have room behind `item_`.
use Prim.Native.Nat.{◌^◌, ◌<◌}
use mathlib.Core.Path.{refl}
use native.Mathlib.Omega.{arith}
use Rattle.group.proofs.Items.{labeled}
use Rattle.group.proofs.item.ItemLabel.new.Goals as goal

pub overflow_add-result : goal.overflow_add-result
overflow_add-result c =
    let h : c.args.index < 2 ^ 64 = omega arith in
    omega (arith, (labeled c.args.index _ _ _ _ h refl refl c.put_decimal.ensures c.unwrap_or-count.ensures).few)

pub invariant_of-result : goal.invariant_of-result
invariant_of-result c =
    let h : c.args.index < 2 ^ 64 = omega arith in
    record { fits = omega (arith, (labeled c.args.index _ _ _ _ h refl refl c.put_decimal.ensures c.unwrap_or-count.ensures).few) }

pub returns : goal.returns
returns c =
    let h : c.args.index < 2 ^ 64 = omega arith in
    (labeled c.args.index _ _ _ _ h refl refl c.put_decimal.ensures c.unwrap_or-count.ensures).text
