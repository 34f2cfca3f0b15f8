-- What the checks of a sheet say of its bytes, in turn, once its header is accepted.
use Prim.Native.Nat.{ℕ}
use mathlib.Core.Path.{◌≡◌}
use mathlib.Core.List.{List}
use lib.ListN.{length, drop}
use Rattle.refusal.specs.declared.Refusal.{Refusal}
use Rattle.refusal.specs.Refusal.{accepted, number}
use Rattle.refusal.proofs.Numbers.{refused}
use Rattle.sheet_rules.specs.Rules.{header_size, labels_at}
use Rattle.sheet_format.specs.Check.{records_at, count_in, header_number, pairs_number, records_number, check_number}

-- of a sheet with these bytes and this count
module _ (s bytes : List ℕ) (count : ℕ) (same : bytes ≡ s) (counted : count ≡ count_in bytes) (header : accepted ≡ header_number s) where
  count_same : count ≡ count_in s
  count_same = rw same at counted

  pub pairs_refused : (r : Refusal) → number r ≡ pairs_number (length bytes) (labels_at count) count (drop header_size bytes) → number r ≡ check_number s
  unfolding check_number
  pairs_refused r p =
      let q = rw (same, count_same) at p in
      rw (← header, ← q, refused r)

  pub records_told : (n : ℕ) → accepted ≡ pairs_number (length bytes) (labels_at count) count (drop header_size bytes)
      → n ≡ records_number count count (drop (records_at count) bytes) → n ≡ check_number s
  unfolding check_number
  records_told n p r =
      let q = rw (same, count_same) at p in
      let t = rw (same, count_same) at r in
      rw (← header, ← q) t
