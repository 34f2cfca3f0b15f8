-- A tick, entry by entry: its steps, and the numbers of the entries newly done. The laws that the loops over a tick cite.
use Prim.Native.Nat.{ℕ, zero, suc, ◌+◌, ◌<◌, ◌≤◌}
use mathlib.Core.Path.{◌≡◌, refl, sym, ap, ◌∙◌}
use mathlib.Core.Bool.{Bool, true, false, not, ◌&&◌}
use mathlib.Core.List.{List, [], ◌∷◌, ◌++◌}
use native.Mathlib.Nat.{not-suc-le-zero, le_of_suc-le-suc}
use native.Mathlib.Numerals.{add-one}
use native.Mathlib.Omega.{arith}
use lib.ListN.{length, get_or, drop, length-append, drop_of_length-le}
use lib.Seq.{drop-cons, sets, length-sets}
use lib.Ieee.{Float}
use Rattle.completions.proofs.Cycle.{store_run, store_all}
use Rattle.completions.specs.Completions.{keep}
use Rattle.steps.specs.Rows.{ticked}
use Rattle.steps.specs.declared.Entry.{Entry}
use Rattle.steps.specs.declared.Stepped.{Stepped}
use Rattle.steps.specs.Slices.{over}
use Rattle.track.specs.Updates.{ticks, newly_done}
use Rattle.track.proofs.Marks.{no_entry, no_step}

-- ---- the steps

module _ (prev next : Float) where
  pub length-ticks : (es : List Entry) (rs : List ℕ) → length (ticks prev next es rs) ≡ length es
  unfolding ticks
  length-ticks [] rs = refl
  length-ticks (e ∷ es) rs = ap suc (length-ticks es (drop 1 rs))

  -- the step of one entry, where there is a reply for it
  pub ticks-at : (es : List Entry) (rs : List ℕ) (i : ℕ) → i < length es → i < length rs → get_or (ticks prev next es rs) i no_step ≡ ticked prev next (get_or es i no_entry) (get_or rs i 0)
  unfolding ticks
  ticks-at [] rs i h k = absurd (not-suc-le-zero h)
  ticks-at (e ∷ es) [] i h k = absurd (not-suc-le-zero k)
  ticks-at (e ∷ es) (r ∷ rs) zero h k = refl
  ticks-at (e ∷ es) (r ∷ rs) (suc i) h k = ticks-at es rs i (le_of_suc-le-suc h) (le_of_suc-le-suc k)

  -- the same, of what a turn of a loop has read and worked out
  pub turn_at : (es : List Entry) (rs : List ℕ) (i : ℕ) → i < length es → i < length rs → (e : Entry) (s : Stepped) → e ≡ get_or es i no_entry → s ≡ ticked prev next e (get_or rs i 0) → s ≡ get_or (ticks prev next es rs) i no_step
  turn_at es rs i h k e s ee e' = rw (e', ee) (sym (ticks-at es rs i h k))

-- ---- the entries newly done

keep-most : (b : Bool) (i n : ℕ) (xs : List ℕ) → length xs ≤ n → length (keep b i xs) ≤ suc n
keep-most true i n xs h = omega arith
keep-most false i n xs h = omega arith

-- they are at most as many as the entries
pub newly_most : (i : ℕ) (es : List Entry) (ss : List Stepped) → length (newly_done i es ss) ≤ length es
unfolding newly_done
newly_most i [] ss = omega arith
newly_most i (e ∷ es) [] = omega arith
newly_most i (e ∷ es) (s ∷ ss) = keep-most (not e.done && s.done) i (length es) (newly_done (suc i) es ss) (newly_most (suc i) es ss)

keep-first : (b : Bool) (i : ℕ) (xs : List ℕ) → keep b i xs ≡ keep b i [] ++ xs
keep-first true i xs = refl
keep-first false i xs = refl

-- those from the entry i on
unfoldable pub rest : List Entry → List Stepped → ℕ → List ℕ
rest es ss i = newly_done i (drop i es) (drop i ss)

module _ (es : List Entry) (ss : List Stepped) where
  pub rest-start : rest es ss 0 ≡ newly_done 0 es ss
  unfolding rest
  rest-start = refl

  pub rest_end : (i : ℕ) → length es ≤ i → rest es ss i ≡ []
  unfolding rest newly_done
  rest_end i h = rw (drop_of_length-le es h)

  -- the entry i itself, if it is newly done, and then the others
  pub rest-turn : length ss ≡ length es → (i : ℕ) (b : Bool) → i < length es → b ≡ (not (get_or es i no_entry).done && (get_or ss i no_step).done) → rest es ss i ≡ keep b i [] ++ rest es ss (i + 1)
  unfolding rest newly_done
  rest-turn l i b h e =
      let k : i < length ss = omega arith in
      rw (e, add-one, drop-cons es i no_entry h, drop-cons ss i no_step k) (keep-first (not (get_or es i no_entry).done && (get_or ss i no_step).done) i (newly_done (suc i) (drop (suc i) es) (drop (suc i) ss)))

-- ---- a loop that lists them

-- after i turns k numbers stand in the list l, which was l₀: the stores made and those still to come are all of them
pub record Listing (es : List Entry) (ss : List Stepped) (l₀ l : List ℕ) (k i : ℕ) : Type 0 where
  pub same : length l ≡ length l₀
  pub fits : length (newly_done 0 es ss) ≤ length l₀
  pub count : k + length (rest es ss i) ≡ length (newly_done 0 es ss)
  pub stores : sets l k (rest es ss i) ≡ sets l₀ 0 (newly_done 0 es ss)

module _ (es : List Entry) (ss : List Stepped) (l₀ : List ℕ) where
  -- before the first turn
  pub none_listed : length (newly_done 0 es ss) ≤ length l₀ → Listing es ss l₀ l₀ 0 0
  none_listed h =
      record { same = refl; fits = h; count = rw (rest-start es ss) (omega arith); stores = rw (rest-start es ss) }

  module _ (each : length ss ≡ length es) (l : List ℕ) (k i : ℕ) (inv : Listing es ss l₀ l k i) (h : i < length es) (b : Bool) (newly : b ≡ (not (get_or es i no_entry).done && (get_or ss i no_step).done)) where
    -- there is room for the entry's number
    pub room-listed : k + length (keep b i []) ≤ length l
    room-listed = omega (arith, simp length-append at (ap length (rest-turn es ss each i b h newly)))

    -- one turn
    pub one-listed : (l' : List ℕ) (k' : ℕ) → l' ≡ sets l k (keep b i []) → k' ≡ k + length (keep b i []) → Listing es ss l₀ l' k' (i + 1)
    one-listed l' k' el ek =
        let turn = rest-turn es ss each i b h newly in
        record {
          same = ap length el ∙ length-sets l k (keep b i []) ∙ inv.same;
          fits = inv.fits;
          count = omega (arith, simp length-append at (ap length turn));
          stores = store_run l k l' k' (keep b i []) (rest es ss (i + 1)) (rest es ss i) el ek turn ∙ inv.stores;
        }

  -- after the last turn
  pub all_listed : (l : List ℕ) (k i : ℕ) → Listing es ss l₀ l k i → length es ≤ i → (k ≡ length (newly_done 0 es ss)) × (l ≡ over (newly_done 0 es ss) l₀)
  all_listed l k i inv h =
      let e = rest_end es ss i h in
      (omega (arith, ap length e), (rw e at inv.stores) ∙ store_all (newly_done 0 es ss) l₀ inv.fits)
