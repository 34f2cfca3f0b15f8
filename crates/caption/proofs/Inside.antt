-- The words of a match among the codes of a list lie inside the list.
use Prim.Native.Nat.{ℕ, zero, suc, ◌+◌, ◌*◌, ◌≤◌}
use mathlib.Core.Path.{◌≡◌}
use Rattle.std.specs.Prelude.{Option, Some, None, ⊤}
use Rattle.words.specs.declared.Pair.{Pair}
use mathlib.Core.Bool.{Bool, true, false}
use mathlib.Core.List.{List}
use native.Mathlib.Omega.{arith}
use lib.ListN.{drop}
use lib.Seq.{drop-drop}
use Rattle.refusal.specs.Refusal.{accepted, bad_caption}
use Rattle.label.specs.Label.{same_text}
use Rattle.words.specs.Pairs.{pair_size, offset_in, length_in, pair_in, part_of, pairs_in_turn}
use Rattle.words.proofs.InTurn.{front, ends}
use Rattle.caption.specs.Captions.{code_size, any_length, matched, earlier, first_match}

-- words that were found lie inside
abbrev pub Fits : ℕ → Option Pair → Type 0
Fits len (Some words) = words.offset + words.len ≤ len
Fits len None = ⊤

pub match_inside : (list label : List ℕ) (len offset k : ℕ) (pairs : List ℕ) → pairs_in_turn any_length bad_caption bad_caption len offset (2 * k) pairs ≡ accepted → Fits len (first_match list label k pairs)
unfolding first_match
match_inside list label len offset zero pairs e = tt
match_inside list label len offset (suc k) pairs e =
    let two : 2 * suc k ≡ suc (suc (2 * k)) = omega arith in
    let code = front any_length 15 15 len offset (suc (2 * k)) pairs (rw two at e) in
    let words = front any_length 15 15 len (offset + length_in pairs) (2 * k) (drop pair_size pairs) code.rest in
    let here : offset_in (drop pair_size pairs) + length_in (drop pair_size pairs) ≤ len = omega (arith, words.starts, ends any_length 15 15 len _ (2 * k) _ words.rest) in
    let rest : pairs_in_turn any_length bad_caption bad_caption len (offset + length_in pairs + length_in (drop pair_size pairs)) (2 * k) (drop code_size pairs) ≡ accepted = rw (← drop-drop pair_size pair_size pairs) words.rest in
    chosen (same_text (part_of list pairs) label) here (match_inside list label len (offset + length_in pairs + length_in (drop pair_size pairs)) k (drop code_size pairs) rest)
  where
    chosen : (b : Bool) → offset_in (drop pair_size pairs) + length_in (drop pair_size pairs) ≤ len → Fits len (first_match list label k (drop code_size pairs))
        → Fits len (earlier (matched b (pair_in (drop pair_size pairs))) (first_match list label k (drop code_size pairs)))
    chosen true here later = here
    chosen false here later = later
