-- Four bytes and two words, one after the other.
use Prim.Native.Nat.{◌/◌, ◌%◌}
use mathlib.Core.List.{[], ◌∷◌}
use mathlib.Core.Path.{◌≡◌, refl}
use native.Mathlib.Omega.{arith}
use Rattle.sheet_format.specs.Write.{header_bytes}
use Rattle.sheet_format.proofs.Stores.{put_at_twelve}
use Rattle.sheet_format.proofs.header.put_header.Goals as goal

pub returns : goal.returns
unfolding header_bytes
returns c =
    let n = c.args.n in
    let high : n / 256 % 256 ≡ n / 256 = omega arith in
    let four = rw (c.to_le_bytes.ensures, high) at c.put.ensures in
    rw (← c.mode.ensures, ← c.number.ensures)
    (put_at_twelve (1 ∷ n % 256 ∷ c.mode.result ∷ n / 256 ∷ []) _ _ _ _ 0 4 8 _ _ _ _ refl c.to_le_bytes-2.ensures c.to_le_bytes-3.ensures four c.put-2.ensures c.put-3.ensures refl refl (omega arith))
