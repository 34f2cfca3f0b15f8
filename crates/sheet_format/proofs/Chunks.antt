-- Pairs and records by chunks: each reads in its chunk as in all the bytes, and the chunks in turn are what is checked.
use Prim.Native.Nat.{ℕ, zero, suc, ◌+◌, ◌-◌, ◌*◌, ◌/◌, ◌≤◌, ◌<◌}
use mathlib.Core.Path.{◌≡◌, refl, sym, ap, ◌∙◌}
use mathlib.Core.Bool.{true, false, cond, not}
use mathlib.Core.List.{List, [], ◌∷◌, ◌++◌}
use native.Mathlib.Nat.{le_of_suc-le-suc}
use native.Mathlib.Omega.{arith}
use lib.Dec.{eqb}
use lib.ListN.{length, take, drop, length-append, length-take, length-drop}
use lib.Seq.{take-append_seam, drop_at}
use Rattle.std.proofs.lemmas.List.{drop-take, get_or-take}
use Rattle.refusal.specs.declared.Refusal.{Refusal}
use Rattle.refusal.specs.Refusal.{accepted, number, sheet_pair, sheet_length}
use Rattle.refusal.proofs.Numbers.{refused}
use Rattle.words.specs.Words.{word}
use Rattle.words.specs.Pairs.{pair_size, length_in, pairs_in_turn}
use Rattle.sheet_rules.specs.Rules.{record_size}
use Rattle.sheet_format.specs.Check.{pair_good, pairs_number, record_number, records_number}

-- ---- a front of the bytes is enough

word_front : (w m : ℕ) (s : List ℕ) → w ≤ m → word w (take m s) ≡ word w s
unfolding word
word_front zero m s h = refl
word_front (suc w) zero s h = absurd (omega arith)
word_front (suc w) (suc m) [] h = refl
word_front (suc w) (suc m) (b ∷ s) h = rw (word_front w m s (le_of_suc-le-suc h))

drop_front : (d m : ℕ) (s : List ℕ) → d ≤ m → drop d (take m s) ≡ take (m - d) (drop d s)
drop_front d m s h =
    let e : m ≡ d + (m - d) = omega arith in
    ap (λ (k : ℕ). drop d (take k s)) e ∙ drop-take d (m - d) s

word_behind : (w d m : ℕ) (s : List ℕ) → d + w ≤ m → word w (drop d (take m s)) ≡ word w (drop d s)
word_behind w d m s h = rw (drop_front d m s (omega arith)) (word_front w (m - d) (drop d s) (omega arith))

module _ (m : ℕ) (s : List ℕ) where
  length_front : pair_size ≤ m → length_in (take m s) ≡ length_in s
  length_front h = word_behind 2 2 m s h

  pair_front : (offset : ℕ) → pair_size ≤ m → pair_good offset (take m s) ≡ pair_good offset s
  pair_front offset h = rw (word_front 2 m s (omega arith), length_front h)

  record_front : (n : ℕ) → record_size ≤ m → record_number n (take m s) ≡ record_number n s
  unfolding record_number
  record_front n h =
      rw (get_or-take m s 0 0 (omega arith), get_or-take m s 1 0 (omega arith), get_or-take m s 2 0 (omega arith), get_or-take m s 3 0 (omega arith), word_behind 4 4 m s (omega arith))

pub pairs_cut : (len offset k m : ℕ) (s : List ℕ) → pair_size * k ≤ m → pairs_number len offset k (take m s) ≡ pairs_number len offset k s
unfolding pairs_in_turn
pairs_cut len offset zero m s h = refl
pairs_cut len offset (suc k) m s h =
    rw (pair_front m s offset (omega arith), length_front m s (omega arith), drop_front 4 m s (omega arith), pairs_cut len (offset + length_in s) k (m - 4) (drop 4 s) (omega arith))

pub records_cut : (n k m : ℕ) (s : List ℕ) → record_size * k ≤ m → records_number n k (take m s) ≡ records_number n k s
unfolding records_number
records_cut n zero m s h = refl
records_cut n (suc k) m s h =
    rw (record_front m s n (omega arith), drop_front 12 m s (omega arith), records_cut n k (m - 12) (drop 12 s) (omega arith))

-- ---- at a chunk x, before more

module _ (rest x more : List ℕ) (e : rest ≡ x ++ more) where
  is_front : (m : ℕ) → length x ≡ m → take m rest ≡ x
  is_front m l = rw (e, ← l) (take-append_seam x more)

  is_rest : (m : ℕ) → length x ≡ m → drop m rest ≡ more
  is_rest m l = rw e (drop_at x more m l)

  module _ (l : length x ≡ pair_size) where
    pub pairs_left : length rest / pair_size ≡ suc (length more / pair_size)
    pairs_left = omega (arith, ap length e, length-append x more)

    pub pair_bad : (len offset : ℕ) → pair_good offset x ≡ false → pairs_number len offset (length rest / pair_size) rest ≡ sheet_pair
    unfolding pairs_in_turn
    pair_bad len offset g =
        let f : pair_good offset rest ≡ false = sym (pair_front 4 rest offset (omega arith)) ∙ rw (is_front 4 l) g in
        rw (pairs_left, f)

    pub pair_passed : (len offset : ℕ) → pair_good offset x ≡ true
        → pairs_number len offset (length rest / pair_size) rest ≡ pairs_number len (offset + length_in x) (length more / pair_size) more
    unfolding pairs_in_turn
    pair_passed len offset g =
        let f : pair_good offset rest ≡ true = sym (pair_front 4 rest offset (omega arith)) ∙ rw (is_front 4 l) g in
        let k : length_in rest ≡ length_in x = sym (length_front 4 rest (omega arith)) ∙ rw (is_front 4 l) in
        rw (pairs_left, f, k, is_rest 4 l)

  module _ (n : ℕ) (l : length x ≡ record_size) where
    records_left : length rest / record_size ≡ suc (length more / record_size)
    records_left = omega (arith, ap length e, length-append x more)

    same_record : record_number n rest ≡ record_number n x
    same_record = sym (record_front 12 rest n (omega arith)) ∙ rw (is_front 12 l)

    pub record_bad : (r : Refusal) → number r ≡ record_number n x → records_number n (length rest / record_size) rest ≡ number r
    unfolding records_number
    record_bad r h = rw (records_left, same_record, ← h, refused r)

    pub record_passed : accepted ≡ record_number n x → records_number n (length rest / record_size) rest ≡ records_number n (length more / record_size) more
    unfolding records_number
    record_passed h = rw (records_left, same_record, ← h, is_rest 12 l)

-- ---- at the start

-- of n records behind the first d bytes
pub records_begin : (n d k : ℕ) (s rest : List ℕ) → rest ≡ take (record_size * n) (drop d s) → d + record_size * n ≤ length s
    → records_number k n (drop d s) ≡ records_number k (length rest / record_size) rest
records_begin n d k s rest e h =
    let l : length (take (record_size * n) (drop d s)) / record_size ≡ n = omega (arith, length-take (record_size * n) (drop d s), length-drop d s) in
    rw (e, l) (sym (records_cut k n (record_size * n) (drop d s) (omega arith)))

pub pairs_begin : (n d len offset : ℕ) (s rest : List ℕ) → rest ≡ take (pair_size * n) (drop d s) → d + pair_size * n ≤ length s
    → pairs_number len offset n (drop d s) ≡ pairs_number len offset (length rest / pair_size) rest
pairs_begin n d len offset s rest e h =
    let l : length (take (pair_size * n) (drop d s)) / pair_size ≡ n = omega (arith, length-take (pair_size * n) (drop d s), length-drop d s) in
    rw (e, l) (sym (pairs_cut len offset n (pair_size * n) (drop d s) (omega arith)))

-- ---- at the end

module _ (rest : List ℕ) where
  pub no_pairs : (len offset : ℕ) → length rest < pair_size → pairs_number len offset (length rest / pair_size) rest ≡ cond (not (eqb offset len)) sheet_length accepted
  unfolding pairs_in_turn
  no_pairs len offset h =
      let e : length rest / pair_size ≡ 0 = omega arith in
      rw e

  pub no_records : (n : ℕ) → length rest < record_size → records_number n (length rest / record_size) rest ≡ accepted
  unfolding records_number
  no_records n h =
      let e : length rest / record_size ≡ 0 = omega arith in
      rw e
