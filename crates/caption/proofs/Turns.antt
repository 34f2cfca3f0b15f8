-- A turn of the pass over a list: two pairs in turn, and a match.
use Prim.Native.Nat.{ℕ, zero, suc, ◌+◌, ◌-◌, ◌*◌, ◌≤◌, ◌<◌}
use mathlib.Core.Path.{◌≡◌, refl, sym, ap, ◌∙◌}
use mathlib.Core.Bool.{Bool, true, false, cond, not, ◌&&◌}
use mathlib.Core.List.{List}
use native.Mathlib.Omega.{arith}
use borrow.Author.Tests.{eq-eqb, ne_eqb, eqb-true, eqb-false}
use lib.Dec.{eqb}
use lib.ListN.{length, drop, get_or}
use mir.Syntax.{w8}
use mir.Val.{Fits}
use Rattle.words.proofs.Bytes.{Bytes, bytes_drop, word_small}
use lib.Seq.{drop-drop}
use Rattle.refusal.specs.Refusal.{accepted, bad_caption, number_in}
use Rattle.label.specs.Label.{same_text}
use Rattle.words.specs.declared.Pair.{Pair}
use Rattle.words.specs.Pairs.{pair_size, offset_in, length_in, pair_in, part_by, part_of, pairs_in_turn}
use Rattle.std.specs.Prelude.{is_some, Option, Some, None, Ok, Err}
use Rattle.refusal.specs.declared.Refusal.TheVariants.{BadCaption}
use Rattle.caption.specs.Captions.{codes_in, pairs_in, code_size, text_at, any_length, list_number, no_match, matched, match_in, earlier, first_match, looked_up}

-- ---- the shape

-- what the pairs from here on are refused by
abbrev pub left : List ℕ → ℕ → ℕ → ℕ → ℕ
left list offset k at = pairs_in_turn any_length bad_caption bad_caption (length list) offset k (drop at list)

-- the pairs of a code, as they were read
pub record Read (list : List ℕ) (at : ℕ) (code words : Pair) : Type 0 where
  pub first : code ≡ pair_in (drop at list)
  pub second : words ≡ pair_in (drop (at + pair_size) list)

pub reads : (list : List ℕ) (at : ℕ) (code words : Pair) → code ≡ pair_in (drop at list) → words ≡ pair_in (drop (at + pair_size) list) → Read list at code words
reads list at code words e f = record { first = e; second = f }

-- its numbers are of two bytes
pub small : (list : List ℕ) (at : ℕ) (p : Pair) → ((i : ℕ) → Fits w8 (get_or list i 0)) → p ≡ pair_in (drop at list) → (p.offset < 65536) × (p.len < 65536)
small list at p b e =
    let bytes : Bytes list = λ i. omega (arith, b i) in
    let there = bytes_drop at list bytes in
    rw e (word_small (drop at list) there, word_small (drop 2 (drop at list)) (bytes_drop 2 (drop at list) there))

module _ (list : List ℕ) (n i offset at : ℕ) (code words : Pair) (read : Read list at code words) (h : i < n) where
  two : 2 * (n - i) ≡ suc (suc (2 * (n - (i + 1))))
  two = omega arith

  next : drop pair_size (drop at list) ≡ drop (at + pair_size) list
  next = drop-drop pair_size at list

  starts : offset_in (drop at list) ≡ code.offset
  starts = sym (ap (λ (p : Pair). p.offset) read.first)

  size : length_in (drop at list) ≡ code.len
  size = sym (ap (λ (p : Pair). p.len) read.first)

  starts-words : offset_in (drop (at + pair_size) list) ≡ words.offset
  starts-words = sym (ap (λ (p : Pair). p.offset) read.second)

  size-words : length_in (drop (at + pair_size) list) ≡ words.len
  size-words = sym (ap (λ (p : Pair). p.len) read.second)

  -- the code does not start where the one before ends
  pub code-late : (code.offset ≡ offset → ⊥) → left list offset (2 * (n - i)) at ≡ bad_caption
  unfolding pairs_in_turn
  code-late d = rw (two, starts, ne_eqb code.offset offset d)

  -- the words do not start where the code ends
  pub words-late : code.offset ≡ offset → (words.offset ≡ offset + code.len → ⊥) → left list offset (2 * (n - i)) at ≡ bad_caption
  unfolding pairs_in_turn
  words-late e d = rw (two, starts, size, next, starts-words, eq-eqb code.offset offset e, ne_eqb words.offset (offset + code.len) d)

  -- both are in turn
  pub in_turn_lem : code.offset ≡ offset → words.offset ≡ offset + code.len
      → left list offset (2 * (n - i)) at ≡ left list (words.offset + words.len) (2 * (n - (i + 1))) (at + code_size)
  unfolding pairs_in_turn
  in_turn_lem e f =
      let d : at + pair_size + pair_size ≡ at + code_size = omega arith in
      rw (two, starts, size, next, starts-words, size-words, eq-eqb code.offset offset e, eq-eqb words.offset (offset + code.len) f, drop-drop pair_size (at + pair_size) list, d, f)

-- no pair is left
pub ends : (list : List ℕ) (n i offset at : ℕ) → n ≤ i → offset ≡ length list → left list offset (2 * (n - i)) at ≡ accepted
unfolding pairs_in_turn
ends list n i offset at h e =
    let z : 2 * (n - i) ≡ 0 = omega arith in
    rw (z, eq-eqb offset (length list) e)

pub ends_not : (list : List ℕ) (n i offset at : ℕ) → n ≤ i → (offset ≡ length list → ⊥) → left list offset (2 * (n - i)) at ≡ bad_caption
unfolding pairs_in_turn
ends_not list n i offset at h d =
    let z : 2 * (n - i) ≡ 0 = omega arith in
    rw (z, ne_eqb offset (length list) d)

-- ---- the matches

pub earlier-assoc : (a b c : Option Pair) → earlier a (earlier b c) ≡ earlier (earlier a b) c
earlier-assoc (Some w) b c = refl
earlier-assoc None b c = refl

pub earlier-none : (a : Option Pair) → earlier a no_match ≡ a
earlier-none (Some w) = refl
earlier-none None = refl

-- what a turn does with a code: `none` is whether there is no match so far, `same` whether the code is the label
module _ (first next : Option Pair) (none same : Bool) (words : Pair) (tests : is_some first ≡ not none) where
  pub takes : none ≡ true → same ≡ true → next ≡ Some words → next ≡ earlier first (matched same words)
  takes e f n = empty first (tests ∙ ap not e)
    where
      empty : (m : Option Pair) → is_some m ≡ false → next ≡ earlier m (matched same words)
      empty (Some w) t = cc
      empty None t = rw f n

  pub passes : none ≡ true → same ≡ false → next ≡ first → next ≡ earlier first (matched same words)
  passes e f n = rw (f, earlier-none first) n

  pub keeps : none ≡ false → next ≡ first → next ≡ earlier first (matched same words)
  keeps e n = full first (tests ∙ ap not e) n
    where
      full : (m : Option Pair) → is_some m ≡ true → next ≡ m → next ≡ earlier m (matched same words)
      full (Some w) t q = q
      full None t q = cc

module _ (list label : List ℕ) (n i at : ℕ) where
  pub first_more : i < n → first_match list label (n - i) (drop at list) ≡ earlier (match_in list label (drop at list)) (first_match list label (n - (i + 1)) (drop (at + code_size) list))
  unfolding first_match
  first_more h =
      let t : n - i ≡ suc (n - (i + 1)) = omega arith in
      rw (t, drop-drop code_size at list)

  pub first-end : n ≤ i → first_match list label (n - i) (drop at list) ≡ no_match
  unfolding first_match
  first-end h =
      let t : n - i ≡ 0 = omega arith in
      rw t

-- ---- the pass

-- what holds before code i of n: whether the pairs that are left are in turn, and the first match
pub record Passed (list label : List ℕ) (n i offset : ℕ) (first : Option Pair) : Type 0 where
  pub count : n ≡ codes_in list
  pub shape : list_number list ≡ left list offset (2 * (n - i)) (text_at i)
  pub match : first_match list label n (pairs_in list) ≡ earlier first (first_match list label (n - i) (drop (text_at i) list))

pub begins : (list label : List ℕ) (n : ℕ) → n ≡ codes_in list → Passed list label n 0 (text_at n) None
unfolding list_number
begins list label n e =
    let z : n - 0 ≡ n = omega arith in
    record { count = e; shape = rw (z, e); match = rw z }

module _ (list label : List ℕ) (n i offset : ℕ) (first : Option Pair) (passed : Passed list label n i offset first) where
  refused : list_number list ≡ bad_caption → Err BadCaption ≡ looked_up list label
  unfolding looked_up
  refused e = rw e

  module _ (code words : Pair) (read : Read list (text_at i) code words) (h : i < n) where
    pub bad-code : (code.offset ≡ offset → ⊥) → Err BadCaption ≡ looked_up list label
    bad-code d = refused (passed.shape ∙ code-late list n i offset (text_at i) code words read h d)

    pub bad-words : code.offset ≡ offset → (words.offset ≡ offset + code.len → ⊥) → Err BadCaption ≡ looked_up list label
    bad-words e d = refused (passed.shape ∙ words-late list n i offset (text_at i) code words read h e d)

    pub more : code.offset ≡ offset → words.offset ≡ offset + code.len → (next : Option Pair) → next ≡ earlier first (matched (same_text (part_by list code) label) words)
        → Passed list label n (i + 1) (words.offset + words.len) next
    more e f next p =
        let at = text_at i in
        let step : at + code_size ≡ text_at (i + 1) = omega arith in
        let code_is = ap (λ (p : Pair). matched (same_text (part_by list p) label) words) read.first in
        let words_are = ap (λ (w : Pair). matched (same_text (part_of list (drop at list)) label) w) read.second in
        let here : matched (same_text (part_by list code) label) words ≡ match_in list label (drop at list) = rw (drop-drop pair_size at list) (code_is ∙ words_are) in
        let rest = first_match list label (n - (i + 1)) (drop (at + code_size) list) in
        let now : next ≡ earlier first (match_in list label (drop at list)) = p ∙ ap (λ (x : Option Pair). earlier first x) here in
        let shape = passed.shape ∙ in_turn_lem list n i offset at code words read h e f in
        let match = passed.match ∙ ap (λ (x : Option Pair). earlier first x) (first_more list label n i at h) ∙ earlier-assoc first (match_in list label (drop at list)) rest ∙ ap (λ (x : Option Pair). earlier x rest) (sym now) in
        record { count = passed.count; shape = rw (← step) shape; match = rw (← step) match }

  pub bad-end : n ≤ i → (offset ≡ length list → ⊥) → Err BadCaption ≡ looked_up list label
  bad-end h d = refused (passed.shape ∙ ends_not list n i offset (text_at i) h d)

  pub whole : n ≤ i → offset ≡ length list → Ok first ≡ looked_up list label
  unfolding looked_up
  whole h e =
      let at = text_at i in
      let good = passed.shape ∙ ends list n i offset at h e in
      let found : first_match list label (codes_in list) (pairs_in list) ≡ first = ap (λ (k : ℕ). first_match list label k (pairs_in list)) (sym passed.count) ∙ passed.match ∙ ap (λ (x : Option Pair). earlier first x) (first-end list label n i at h) ∙ earlier-none first in
      rw (good, found)

-- ---- the number of a list: it is refused by nothing but 16

-- a test that refuses by 16, and what is after it, which is accepted or 16
one_number : (b : Bool) (rest : ℕ) → ((rest ≡ accepted → ⊥) → rest ≡ bad_caption) → (cond b bad_caption rest ≡ accepted → ⊥) → cond b bad_caption rest ≡ bad_caption
one_number true rest h d = refl
one_number false rest h d = h d

pub pairs_number_lem : (len offset k : ℕ) (pairs : List ℕ) → (pairs_in_turn any_length bad_caption bad_caption len offset k pairs ≡ accepted → ⊥) → pairs_in_turn any_length bad_caption bad_caption len offset k pairs ≡ bad_caption
unfolding pairs_in_turn
pairs_number_lem len offset zero pairs d = one_number (not (eqb offset len)) accepted (λ h. absurd (h refl)) d
pairs_number_lem len offset (suc k) pairs d =
    one_number (not (eqb (offset_in pairs) offset && true)) _ (λ h. pairs_number_lem len (offset + length_in pairs) k (drop pair_size pairs) h) d

pub list_number_lem : (list : List ℕ) → (list_number list ≡ accepted → ⊥) → list_number list ≡ bad_caption
unfolding list_number
list_number_lem list d = pairs_number_lem _ _ (2 * codes_in list) _ d

-- what a pass answers
pub looked_number : (list label : List ℕ) → number_in (looked_up list label) ≡ list_number list
unfolding looked_up
looked_number list label = chosen (eqb (list_number list) accepted) refl
  where
    chosen : (b : Bool) → eqb (list_number list) accepted ≡ b → number_in (cond b (Ok (first_match list label (codes_in list) (pairs_in list))) (Err BadCaption)) ≡ list_number list
    chosen true e = sym (eqb-true _ _ e)
    chosen false e = sym (list_number_lem list (eqb-false _ _ e))

pub looked_first : (list label : List ℕ) → list_number list ≡ accepted → looked_up list label ≡ Ok (first_match list label (codes_in list) (pairs_in list))
unfolding looked_up
looked_first list label e = rw e
