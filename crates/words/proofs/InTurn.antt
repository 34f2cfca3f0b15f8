-- Pairs that are in turn: what each says, and that it lies inside the bytes in which it stands.
use Prim.Native.Nat.{ℕ, zero, suc, ◌+◌, ◌*◌, ◌≤◌, ◌<◌}
use mathlib.Core.Path.{◌≡◌, ap, ◌∙◌}
use mathlib.Core.Bool.{Bool, true, ◌&&◌}
use mathlib.Core.List.{List}
use native.Mathlib.Nat.{not-suc-le-zero, le_of_suc-le-suc}
use native.Mathlib.Omega.{arith}
use borrow.Author.Tests.{eqb-true}
use lib.Dec.{eqb}
use lib.ListN.{drop}
use lib.Seq.{drop-drop}
use Rattle.std.proofs.lemmas.Bool.{and_parts}
use Rattle.refusal.specs.Refusal.{accepted}
use Rattle.refusal.proofs.Checks.{passed_good}
use Rattle.words.specs.Pairs.{pair_size, offset_in, length_in, pairs_in_turn}

-- pair i of those after the first is pair i + 1
pub next : (pairs : List ℕ) (i : ℕ) → drop (pair_size * i) (drop pair_size pairs) ≡ drop (pair_size * suc i) pairs
next pairs i =
    let n : pair_size + pair_size * i ≡ pair_size * suc i = omega arith in
    drop-drop (pair_size * i) pair_size pairs ∙ ap (λ (m : ℕ). drop m pairs) n

module _ (fits : ℕ → Bool) (bad_pair bad_end len : ℕ) where
  -- what the first pair says, and the others
  pub record Front (offset k : ℕ) (pairs : List ℕ) : Type 0 where
    pub starts : offset_in pairs ≡ offset
    pub short : fits (length_in pairs) ≡ true
    pub rest : pairs_in_turn fits (suc bad_pair) (suc bad_end) len (offset + length_in pairs) k (drop pair_size pairs) ≡ accepted

  pub front : (offset k : ℕ) (pairs : List ℕ) → pairs_in_turn fits (suc bad_pair) (suc bad_end) len offset (suc k) pairs ≡ accepted → Front offset k pairs
  unfolding pairs_in_turn
  front offset k pairs e =
      let p = passed_good (eqb (offset_in pairs) offset && fits (length_in pairs)) bad_pair _ e in
      let t = and_parts _ _ p.0 in
      record { starts = eqb-true _ _ t.0; short = t.1; rest = p.1 }

  pub ends : (offset k : ℕ) (pairs : List ℕ) → pairs_in_turn fits (suc bad_pair) (suc bad_end) len offset k pairs ≡ accepted → offset ≤ len
  unfolding pairs_in_turn
  ends offset zero pairs e = omega (arith, eqb-true offset len (passed_good _ bad_end _ e).0)
  ends offset (suc k) pairs e =
      let f = front offset k pairs e in
      omega (arith, ends (offset + length_in pairs) k (drop pair_size pairs) f.rest)

  -- pair i of k ends where the bytes do, or before
  pub inside : (offset k : ℕ) (pairs : List ℕ) → pairs_in_turn fits (suc bad_pair) (suc bad_end) len offset k pairs ≡ accepted → (i : ℕ) → i < k
      → offset_in (drop (pair_size * i) pairs) + length_in (drop (pair_size * i) pairs) ≤ len
  inside offset zero pairs e i h = absurd (not-suc-le-zero h)
  inside offset (suc k) pairs e zero h =
      let f = front offset k pairs e in
      omega (arith, f.starts, ends (offset + length_in pairs) k (drop pair_size pairs) f.rest)
  inside offset (suc k) pairs e (suc i) h =
      let f = front offset k pairs e in
      rw (← next pairs i) (inside (offset + length_in pairs) k (drop pair_size pairs) f.rest i (le_of_suc-le-suc h))

  -- the length of pair i of k fits
  pub fits-at : (offset k : ℕ) (pairs : List ℕ) → pairs_in_turn fits (suc bad_pair) (suc bad_end) len offset k pairs ≡ accepted → (i : ℕ) → i < k → fits (length_in (drop (pair_size * i) pairs)) ≡ true
  fits-at offset zero pairs e i h = absurd (not-suc-le-zero h)
  fits-at offset (suc k) pairs e zero h = (front offset k pairs e).short
  fits-at offset (suc k) pairs e (suc i) h =
      let f = front offset k pairs e in
      rw (← next pairs i) (fits-at (offset + length_in pairs) k (drop pair_size pairs) f.rest i (le_of_suc-le-suc h))
