-- Four bytes and two words, one after the other.
use Prim.Native.Nat.{ℕ, ◌+◌}
use mathlib.Core.List.{[], ◌∷◌}
use mathlib.Core.Path.{◌≡◌, refl, ap}
use native.Mathlib.Omega.{arith}
use Rattle.sheet_rules.specs.Placements.{kind_of, target_of, seconds_of}
use Rattle.sheet_format.specs.Write.{record_of}
use Rattle.sheet_format.proofs.Stores.{put_at_twelve}
use Rattle.sheet_format.proofs.records.put_record.Goals as goal

pub returns : goal.returns
unfolding record_of
returns c =
    let a = c.args.at in
    let p = c.args.item.now.at in
    let r = c.parts-kind.result in
    let kind : r.0 ≡ kind_of p = ap (λ (t : ℕ × ℕ × ℕ). t.0) c.parts-kind.ensures in
    let target : r.1 ≡ target_of p = ap (λ (t : ℕ × ℕ × ℕ). t.1) c.parts-kind.ensures in
    let seconds : r.2 ≡ seconds_of p = ap (λ (t : ℕ × ℕ × ℕ). t.2) c.parts-kind.ensures in
    rw (← kind, ← target, ← seconds)
    (put_at_twelve (r.0 ∷ r.1 ∷ 0 ∷ 0 ∷ []) _ _ _ _ a (a + 4) (a + 8) _ _ _ _ refl c.to_le_bytes.ensures c.to_le_bytes-2.ensures c.put.ensures c.put-2.ensures c.put-3.ensures refl refl (omega arith))
