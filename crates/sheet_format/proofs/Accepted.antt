-- What holds of a sheet that the checks accept.
use Prim.Native.Nat.{ℕ, ◌≤◌}
use mathlib.Core.Path.{◌≡◌}
use mathlib.Core.Bool.{true}
use mathlib.Core.List.{List}
use borrow.Author.Tests.{leb-true, ltb-false, eqb-true}
use lib.ListN.{length, drop}
use Rattle.steps.specs.Times.{max_entries}
use Rattle.label.specs.Label.{max_label}
use Rattle.words.specs.Words.{byte_at, word}
use Rattle.refusal.proofs.Checks.{passed, passed_good, in_turn_lem}
use Rattle.sheet_rules.specs.Rules.{header_size, labels_at, loop_good}
use Rattle.words.specs.Pairs.{offset_in, length_in}
use Rattle.sheet_format.specs.Check.{records_at, count_in, header_number, pair_good, pairs_number, records_number, check_number}
use Rattle.std.proofs.lemmas.Bool.{and_parts}

pub record Header (s : List ℕ) : Type 0 where
  pub long : header_size ≤ length s
  pub version : byte_at s 0 ≡ 1
  pub few : count_in s ≤ max_entries
  pub looping : loop_good (byte_at s 2) (word 4 (drop 4 s)) ≡ true
  pub room : labels_at (count_in s) ≤ length s

pub header-accepted : (s : List ℕ) → header_number s ≡ 0 → Header s
unfolding header_number
header-accepted s e =
    let a = passed _ 6 _ e in
    let b = passed_good _ 5 _ a.1 in
    let c = passed _ 7 _ b.1 in
    let d = passed_good _ 8 _ c.1 in
    let f = passed _ 6 _ d.1 in
    record {
      long = ltb-false _ _ a.0;
      version = eqb-true _ _ b.0;
      few = ltb-false _ _ c.0;
      looping = d.0;
      room = ltb-false _ _ f.0;
    }

pub record Accepted (s : List ℕ) : Type 0 where
  pub header : Header s
  pub pairs : pairs_number (length s) (labels_at (count_in s)) (count_in s) (drop header_size s) ≡ 0
  pub records : records_number (count_in s) (count_in s) (drop (records_at (count_in s)) s) ≡ 0

pub accepted-sheet : (s : List ℕ) → check_number s ≡ 0 → Accepted s
unfolding check_number
accepted-sheet s e =
    let a = in_turn_lem _ _ e in
    let b = in_turn_lem _ _ a.1 in
    record { header = header-accepted s a.0; pairs = b.0; records = b.1 }

-- a label that starts at the offset, and is no longer than a label can be
pub pair-good : (offset : ℕ) (pairs : List ℕ) → pair_good offset pairs ≡ true → (offset_in pairs ≡ offset) × (length_in pairs ≤ max_label)
pair-good offset pairs g =
    let t = and_parts _ _ g in
    (eqb-true _ _ t.0, leb-true _ _ t.1)
