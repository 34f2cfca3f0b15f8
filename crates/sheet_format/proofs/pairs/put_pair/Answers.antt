-- Two words, one after the other.
use Prim.Native.Nat.{◌+◌}
use mathlib.Core.Path.{refl}
use native.Mathlib.Omega.{arith}
use Rattle.sheet_format.proofs.Stores.{put_at_words}
use Rattle.sheet_format.proofs.pairs.put_pair.Goals as goal

pub returns : goal.returns
returns c = put_at_words _ _ _ _ c.args.at (c.args.at + 2) _ _ _ c.to_le_bytes.ensures c.to_le_bytes-2.ensures c.put.ensures c.put-2.ensures refl (omega arith)
