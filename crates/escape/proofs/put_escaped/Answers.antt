-- A byte as it is, or its four places.
use mathlib.Core.Path.{sym, ◌∙◌}
use native.Mathlib.Omega.{arith}
use Rattle.escape.proofs.Text.{byte_few, put_plain, put_other}
use Rattle.escape.proofs.put_escaped.Goals as goal

pub returns-then-is_plain : goal.returns-then-is_plain
returns-then-is_plain c = put_plain c.args.byte c.args.at _ c.requires (sym c.is_plain.ensures ∙ c.if-is_plain.true)

pub overflow_add-result : goal.overflow_add-result
overflow_add-result c =
    let r = put_other c.args.byte c.args.at _ _ c.args.out.now _ c.requires (sym c.is_plain.ensures ∙ c.if-is_plain.false) c.put_hex2.ensures c.unwrap_or.ensures in
    omega (arith, r.0, byte_few c.args.byte)

pub returns : goal.returns
returns c = put_other c.args.byte c.args.at _ _ _ _ c.requires (sym c.is_plain.ensures ∙ c.if-is_plain.false) c.put_hex2.ensures c.unwrap_or.ensures
