-- Sheets of before: whatever the old checks accept is read and written as it was; and what those checks answer to a longer sheet.
use Prim.Native.Nat.{ℕ, ◌+◌, ◌-◌, ◌≤◌, ◌<◌}
use mathlib.Core.Path.{◌≡◌, refl, ap, ◌∙◌}
use mathlib.Core.Bool.{Bool, true, false, cond}
use mathlib.Core.List.{List, ◌++◌, append_assoc}
use native.Mathlib.Omega.{arith}
use borrow.Author.Tests.{ltb-false, ltb-true, le-ltb, lt-ltb, eqb-true, eq-eqb}
use lib.Dec.{eqb, ltb}
use lib.ListN.{drop, replicate, length-append}
use Rattle.std.proofs.lemmas.List.{replicate-append-replicate}
use Rattle.refusal.specs.Refusal.{sheet_count, sheet_zero, refused_if}
use Rattle.refusal.proofs.Checks.{passed, passed_good, in_turn_lem}
use Rattle.steps.specs.Times.{max_entries}
use Rattle.words.specs.Words.{byte_at}
use Rattle.sheet_rules.specs.Rules.{header_size}
use Rattle.sheet_format.specs.Check.{records_at, count_in, check_number}
use Rattle.sheet_format.specs.Descriptions.{blank_item, description_in}
use Rattle.sheet_format.proofs.Accepted.{Header, Accepted, accepted-sheet}
use Rattle.sheet.specs.Build.{built, reading_of}
use Rattle.sheet.specs.Stored.{old_max_entries, old_count_in, old_header_number, old_check_number, old_items, old_description_in, old_built, old_reading_in, more_slots, longer_description, longer_reading}
use Rattle.sheet.specs.Claim.{MeetsOldReader}
use Rattle.sheet.proofs.Rewrite.{length-itemsFrom}
use Rattle.sheet.proofs.Longer.{Longer, built_longer}

-- ---- what the old checks accept

pub record OldHeader (s : List ℕ) : Type 0 where
  pub count : count_in s ≡ old_count_in s
  pub few : count_in s ≤ old_max_entries
  pub header : Header s

same_count : (s : List ℕ) → byte_at s 3 ≡ 0 → count_in s ≡ old_count_in s
same_count s z = omega arith

old_header : (s : List ℕ) → old_header_number s ≡ 0 → OldHeader s
unfolding old_header_number
old_header s e =
    let a = passed _ 6 _ e in
    let b = passed_good _ 5 _ a.1 in
    let c = passed_good _ 11 _ b.1 in
    let d = passed _ 7 _ c.1 in
    let f = passed_good _ 8 _ d.1 in
    let g = passed _ 6 _ f.1 in
    let n = same_count s (eqb-true _ _ c.0) in
    let few : count_in s ≤ old_max_entries = rw n (ltb-false _ _ d.0) in
    record {
      count = n;
      few = few;
      header = record { long = ltb-false _ _ a.0; version = eqb-true _ _ b.0; few = omega (arith, few); looping = f.0; room = rw n (ltb-false _ _ g.0) };
    }

pub old_accepted : (s : List ℕ) → old_check_number s ≡ 0 → OldHeader s × Accepted s
unfolding old_check_number
old_accepted s e =
    let a = in_turn_lem _ _ e in
    let b = in_turn_lem _ _ a.1 in
    let h = old_header s a.0 in
    (h, record { header = h.header; pairs = rw h.count b.0; records = rw h.count b.1 })

-- ---- and how it is read

-- slots that are blank, and those that arrays have more
slots : {A : Type 0} (n : ℕ) (x : A) → n ≤ old_max_entries → replicate (old_max_entries - n) x ++ more_slots x ≡ replicate (max_entries - n) x
slots n x h =
    let m : (old_max_entries - n) + (max_entries - old_max_entries) ≡ max_entries - n = omega arith in
    replicate-append-replicate (old_max_entries - n) (max_entries - old_max_entries) x ∙ ap (λ (k : ℕ). replicate k x) m

module _ (s : List ℕ) (h : OldHeader s) where
  described : description_in s ≡ longer_description (old_description_in s)
  unfolding description_in old_description_in
  described = rw (h.count, append_assoc, slots (old_count_in s) blank_item (rw h.count at h.few))

  pub built_old : Longer (old_built (old_description_in s)) (built (longer_description (old_description_in s)))
  unfolding old_description_in
  built_old =
      let n = old_count_in s in
      let l = length-itemsFrom s n (drop header_size s) (drop (records_at n) s) in
      built_longer (old_description_in s) (rw h.count at h.few) (omega (arith, l, length-append (old_items s) (replicate (old_max_entries - n) blank_item)))

  pub reads_old : check_number s ≡ 0 → reading_of s ≡ longer_reading (old_reading_in s)
  unfolding reading_of
  reads_old e = rw (e, described, built_old.same)

-- ---- what the old checks answer to a sheet that is accepted now

module _ (s : List ℕ) (a : Accepted s) where
  -- it has no more entries than a panel had
  no_longer : count_in s ≤ old_max_entries → old_check_number s ≡ 0
  unfolding old_check_number old_header_number
  no_longer few =
      let h = a.header in
      let z : byte_at s 3 ≡ 0 = omega (arith, few) in
      let c = same_count s z in
      rw
      (le-ltb _ _ h.long, eq-eqb _ _ h.version, eq-eqb _ _ z, le-ltb old_max_entries (old_count_in s) (rw c at few), h.looping, le-ltb _ _ (rw c at h.room), rw c at a.pairs)
      (rw c at a.records)

  -- it is longer
  longer : (b : Bool) → eqb (byte_at s 3) 0 ≡ b → old_max_entries < count_in s → old_check_number s ≡ cond b sheet_count sheet_zero
  unfolding old_check_number old_header_number
  longer false t l = rw (le-ltb _ _ a.header.long, eq-eqb _ _ a.header.version, t) refl
  longer true t l =
      let c : old_max_entries < old_count_in s = omega (arith, l, eqb-true _ _ t) in
      rw (le-ltb _ _ a.header.long, eq-eqb _ _ a.header.version, t, lt-ltb old_max_entries (old_count_in s) c) refl

pub meets_old_reader : MeetsOldReader
meets_old_reader s e = go (ltb old_max_entries (count_in s)) refl
  where
    go : (b : Bool) → ltb old_max_entries (count_in s) ≡ b → old_check_number s ≡ refused_if b (cond (eqb (byte_at s 3) 0) sheet_count sheet_zero) 0
    go true t = longer s (accepted-sheet s e) (eqb (byte_at s 3) 0) refl (ltb-true _ _ t)
    go false t = no_longer s (accepted-sheet s e) (ltb-false _ _ t)
