-- Inputs of before: how long a sheet can be, what the log of before accepted, and what it made of a longer sheet.
use Prim.Native.Nat.{ℕ, zero, suc, ◌+◌, ◌*◌, ◌≤◌}
use mathlib.Core.Path.{◌≡◌, refl, sym, ap, ◌∙◌}
use mathlib.Core.Bool.{Bool, true, false, cond, ◌||◌}
use mathlib.Core.List.{List}
use native.Mathlib.Omega.{arith}
use borrow.Author.Tests.{leb-true, ltb-false, ltb-true, le-ltb, eqb-true}
use lib.Dec.{eqb, ltb}
use lib.ListN.{length, drop, length-take, length-drop}
use Rattle.std.proofs.lemmas.Bool.{or_parts}
use Rattle.refusal.specs.Refusal.{sheet_length, sheet_count, sheet_zero, refused_if}
use Rattle.refusal.proofs.Checks.{passed_good}
use Rattle.label.specs.Label.{max_label}
use Rattle.words.specs.Words.{byte_at, word}
use Rattle.words.specs.Pairs.{pair_size, length_in, pairs_in_turn}
use Rattle.words.proofs.InTurn.{front}
use Rattle.sheet_rules.specs.Rules.{labels_at, label_fits}
use Rattle.sheet_format.specs.Check.{count_in, pairs_number, check_number}
use Rattle.sheet_format.proofs.Accepted.{Accepted, accepted-sheet}
use Rattle.timeline.specs.Placements.{empty}
use Rattle.sheet_format.specs.Descriptions.{empty_description, description_in}
use Rattle.sheet.specs.Build.{built, NumberedReading, reading_of}
use Rattle.sheet.specs.Stored.{old_max_entries, old_check_number, longer_track}
use Rattle.sheet.proofs.Claim.{claim as sheets}
use Rattle.sheet.proofs.Stored.{old_accepted, built_old}
use Rattle.call_log.specs.Logs.{length_size, sheet_in, script_in, track_in, sheet_number, log_of}
use Rattle.call_log.proofs.Opening.{number-whole}
use Rattle.log_history.specs.Stored.{old_max_sheet, old_is_cut, old_sheet_number, old_track_in, old_lines}
use Rattle.log_history.specs.Claim.{TakesAll, KeepsOldLogs, MeetsOldLog}
use Rattle.log_history.proofs.Fronts.{whole, whole_uncut}
use Rattle.log_history.proofs.Before.{longer_lines}

-- ---- the longest sheet

-- pairs in turn name labels that are no longer than a label can be
last_end : (len offset k : ℕ) (pairs : List ℕ) → pairs_number len offset k pairs ≡ 0 → len ≤ offset + max_label * k
unfolding pairs_in_turn
last_end len offset zero pairs e = omega (arith, eqb-true offset len (passed_good _ 6 _ e).0)
last_end len offset (suc k) pairs e =
    let f = front label_fits 10 6 len offset k pairs e in
    omega (arith, leb-true (length_in pairs) max_label f.short, last_end len (offset + length_in pairs) k (drop pair_size pairs) f.rest)

-- 12 bytes, and 40 for each entry
longest : (s : List ℕ) → Accepted s → length s ≤ 12 + 40 * count_in s
longest s a = omega (arith, last_end (length s) (labels_at (count_in s)) (count_in s) _ a.pairs)

pub takes_all : TakesAll
takes_all s e =
    let a = accepted-sheet s e in
    omega (arith, longest s a, a.header.few)

-- ---- what the log of before accepted

-- its log is that of the old panel, in longer arrays
same_log : (input : List ℕ) → sheet_number input ≡ 0 → old_check_number (sheet_in input) ≡ 0 → log_of input ≡ old_lines input
unfolding log_of
same_log input n f =
    let l = built_old (sheet_in input) (old_accepted (sheet_in input) f).0 in
    let t : track_in input ≡ longer_track (old_track_in input) = ap (λ (r : NumberedReading). r.timeline.track) (sheets.stored (sheet_in input) f).reading in
    rw (n, t, longer_lines (old_track_in input) l.few l.entries (script_in input))

pub keeps_old_logs : KeepsOldLogs
unfolding old_sheet_number old_is_cut
keeps_old_logs input e = go (old_is_cut input) refl e
  where
    go : (b : Bool) → old_is_cut input ≡ b → cond b sheet_length (old_check_number (sheet_in input)) ≡ 0 → (sheet_number input ≡ 0) × (log_of input ≡ old_lines input)
    go true c f = absurd (omega arith)
    go false c f =
        let a = or_parts (ltb (length input) length_size) _ c in
        let b = or_parts (ltb old_max_sheet (word length_size input)) _ a.1 in
        let few : word length_size input ≤ old_max_sheet = ltb-false _ _ b.0 in
        let w = whole_uncut input (record { some = ltb-false _ _ a.0; few = omega (arith, few); fits = ltb-false _ _ b.1 }) in
        let n = number-whole input w ∙ ap (λ (r : NumberedReading). r.refusal) (sheets.stored (sheet_in input) f).reading in
        (n, same_log input n f)

-- ---- what it made of an input that is accepted now

read_number : (s : List ℕ) → (reading_of s).refusal ≡ check_number s
unfolding reading_of
read_number s = go (eqb (check_number s) 0) refl
  where
    go : (b : Bool) → eqb (check_number s) 0 ≡ b → (cond {A = NumberedReading} b (record { refusal = 0; described = description_in s; timeline = built (description_in s) }) (record { refusal = check_number s; described = empty_description; timeline = empty })).refusal ≡ check_number s
    go true t = sym (eqb-true (check_number s) 0 t)
    go false t = refl

-- the limit, by the length of an accepted sheet and by its count
by_size : (len : ℕ) (s : List ℕ) → Accepted s → length s ≡ len → (long more : Bool) → ltb old_max_sheet len ≡ long → ltb old_max_entries (count_in s) ≡ more
    → cond (long || false) sheet_length (refused_if more (cond (eqb (byte_at s 3) 0) sheet_count sheet_zero) 0) ≡ refused_if more (cond long sheet_length sheet_count) 0
by_size len s a size true true l m = refl
by_size len s a size true false l m = absurd (omega (arith, size, longest s a, ltb-true _ _ l, ltb-false _ _ m))
by_size len s a size false false l m = refl
by_size len s a size false true l m =
    let z : byte_at s 3 ≡ 0 = omega (arith, size, a.header.room, ltb-false _ _ l) in
    rw z refl

pub meets_old_log : MeetsOldLog
unfolding old_sheet_number old_is_cut
meets_old_log input e =
    let w = whole input e in
    let s = sheet_in input in
    let n : check_number s ≡ 0 = sym (read_number s) ∙ sym (number-whole input (whole_uncut input w)) ∙ e in
    let a = accepted-sheet s n in
    let size : length s ≡ word 2 input = omega (arith, w.fits, length-take (word 2 input) (drop 2 input), length-drop 2 input) in
    rw (le-ltb (length input) 2 w.some, le-ltb (length input) (2 + word 2 input) w.fits, sheets.meets_old_reader s n) (by_size (word 2 input) s a size (ltb old_max_sheet (word 2 input)) (ltb old_max_entries (count_in s)) refl refl)
