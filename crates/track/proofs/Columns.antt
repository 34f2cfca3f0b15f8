-- Entries that stand in three columns, and the track that they make: the laws that each loop over columns cites.
use Prim.Native.Nat.{ℕ, zero, suc, ◌<◌, ◌≤◌, min}
use mathlib.Core.Path.{◌≡◌, refl, sym, ap, ◌∙◌}
use mathlib.Core.Bool.{Bool, false}
use mathlib.Core.List.{List, [], ◌∷◌, map, foldl}
use native.Mathlib.Nat.{not-suc-le-zero, le_of_suc-le-suc}
use native.Mathlib.Omega.{arith}
use lib.ListN.{length, get_or, take, length-take}
use lib.Seq.{take-length}
use lib.Ieee.{Float, nan}
use Rattle.float32.specs.Helpers.{zero_f, max_f}
use Rattle.tween.specs.declared.loop_mode.Loop.{Loop}
use Rattle.steps.specs.declared.Entry.{Entry}
use Rattle.steps.specs.declared.Stepped.{Stepped}
use Rattle.steps.specs.Slices.{over}
use Rattle.steps.specs.Times.{end_at}
use Rattle.steps.proofs.Lists.{part_at, take_own}
use Rattle.completions.specs.Columns.{most_entries, ends_in}
use Rattle.completions.specs.Completions.{completions_in, completions_between, empty_at_nan}
use Rattle.completions.proofs.Ends.{base_of_ends}
use Rattle.clock.specs.declared.Clock.{Clock}
use Rattle.track.specs.declared.track.Track.{Track}
use Rattle.track.specs.declared.track.Playhead.{Playhead}
use Rattle.track.specs.Tracks.{live, track_base, marks, moved, done_of}
use Rattle.track.specs.Columns.{entry_of, entries_of, first_of, track_of, with_clock_at}
use Rattle.track.proofs.Marks.{no_entry, length-marks, over-own}

-- ---- the entries of columns

pub entries_at : (ss ds : List Float) (ms : List Bool) (i : ℕ) → i < length ss → i < length ds → i < length ms → get_or (entries_of ss ds ms) i no_entry ≡ entry_of (get_or ss i nan) (get_or ds i nan) (get_or ms i false)
entries_at [] ds ms i h k l = absurd (not-suc-le-zero h)
entries_at (s ∷ ss) [] ms i h k l = absurd (not-suc-le-zero k)
entries_at (s ∷ ss) (d ∷ ds) [] i h k l = absurd (not-suc-le-zero l)
entries_at (s ∷ ss) (d ∷ ds) (m ∷ ms) zero h k l = refl
entries_at (s ∷ ss) (d ∷ ds) (m ∷ ms) (suc i) h k l = entries_at ss ds ms i (le_of_suc-le-suc h) (le_of_suc-le-suc k) (le_of_suc-le-suc l)

pub length-entries : (ss ds : List Float) (ms : List Bool) → length (entries_of ss ds ms) ≡ min (length ss) (min (length ds) (length ms))
length-entries [] ds ms = omega arith
length-entries (s ∷ ss) [] ms = omega arith
length-entries (s ∷ ss) (d ∷ ds) [] = omega arith
length-entries (s ∷ ss) (d ∷ ds) (m ∷ ms) = let r = length-entries ss ds ms in omega (arith, r)

-- as many as are asked for, where each column has them
pub length-first : (n : ℕ) (ss ds : List Float) (ms : List Bool) → n ≤ length ss → n ≤ length ds → n ≤ length ms → length (first_of n ss ds ms) ≡ n
length-first n ss ds ms h k l = omega (arith, length-entries ss ds ms, length-take n (entries_of ss ds ms))

-- one of them, as a turn reads it
pub first_at : (n : ℕ) (ss ds : List Float) (ms : List Bool) (i : ℕ) → i < n → n ≤ length ss → n ≤ length ds → n ≤ length ms → get_or (first_of n ss ds ms) i no_entry ≡ entry_of (get_or ss i nan) (get_or ds i nan) (get_or ms i false)
first_at n ss ds ms i h hs hd hm =
    let l = length-first n ss ds ms hs hd hm in
    part_at n (entries_of ss ds ms) i no_entry (omega (arith, l)) ∙ entries_at ss ds ms i (omega arith) (omega arith) (omega arith)

-- with new marks in the column they are the entries with new marks
entries_marked : (n : ℕ) (xs : List Stepped) (ss ds : List Float) (ms : List Bool) → length xs ≡ length (first_of n ss ds ms)
    → first_of n ss ds (over (done_of xs) ms) ≡ marks (first_of n ss ds ms) (done_of xs)
entries_marked zero xs ss ds ms e = refl
entries_marked (suc n) xs [] ds ms e = refl
entries_marked (suc n) xs (s ∷ ss) [] ms e = refl
entries_marked (suc n) [] (s ∷ ss) (d ∷ ds) [] e = refl
entries_marked (suc n) (x ∷ xs) (s ∷ ss) (d ∷ ds) [] e = let f : ⊥ = omega arith in absurd f
entries_marked (suc n) [] (s ∷ ss) (d ∷ ds) (m ∷ ms) e = let f : ⊥ = omega arith in absurd f
entries_marked (suc n) (x ∷ xs) (s ∷ ss) (d ∷ ds) (m ∷ ms) e = ap (λ (es : List Entry). entry_of s d x.done ∷ es) (entries_marked n xs ss ds ms (omega arith))

-- their ends
ends_of : (n : ℕ) (ss ds : List Float) (ms : List Bool) → n ≤ length ms → map end_at (first_of n ss ds ms) ≡ ends_in n ss ds
ends_of zero ss ds ms h = refl
ends_of (suc n) [] ds ms h = refl
ends_of (suc n) (s ∷ ss) [] ms h = refl
ends_of (suc n) (s ∷ ss) (d ∷ ds) [] h = absurd (not-suc-le-zero h)
ends_of (suc n) (s ∷ ss) (d ∷ ds) (m ∷ ms) h = ap (λ (xs : List Float). end_at (entry_of s d m) ∷ xs) (ends_of n ss ds ms (le_of_suc-le-suc h))

-- ---- the track of a playhead and three columns

module _ (h : Playhead) (ss ds : List Float) (ms : List Bool) where
  abbrev k : Track
  k = track_of h ss ds ms

  abbrev most : ℕ
  most = min h.count most_entries

  -- its entries are those of the columns, and they all count
  live-first : live k ≡ first_of most ss ds ms
  unfolding track_of
  live-first = take-length (first_of most ss ds ms)

  -- as many count as the count and the columns allow
  pub counted : {n : ℕ} → n ≡ min most (min (length ss) (min (length ds) (length ms))) → n ≡ length (live k)
  counted e = omega (arith, e, length-entries ss ds ms, length-take most (entries_of ss ds ms), ap length live-first)

  module _ (n : ℕ) (all : n ≡ length (live k)) where
    pub roomy : (n ≤ length ss) × (n ≤ length ds) × (n ≤ length ms) × (n ≤ most_entries)
    roomy =
        let e = length-entries ss ds ms in
        let t = length-take most (entries_of ss ds ms) in
        let l = ap length live-first in
        (omega (arith, all, e, t, l), omega (arith, all, e, t, l), omega (arith, all, e, t, l), omega (arith, all, e, t, l))

    pub own : first_of n ss ds ms ≡ live k
    own = ap (λ (m : ℕ). take m (entries_of ss ds ms)) (all ∙ ap length live-first) ∙ take_own most (entries_of ss ds ms) ∙ sym live-first

    -- the marks are overwritten: the entries are marked
    pub put : (c : Clock) (xs : List Stepped) → length xs ≡ length (live k) → (ms' : List Bool) → ms' ≡ over (done_of xs) ms → track_of (with_clock_at h c) ss ds ms' ≡ moved k c xs
    unfolding track_of
    put c xs l ms' e =
        let es = first_of most ss ds ms in
        let le : length xs ≡ length es = l ∙ ap length live-first in
        let new : first_of most ss ds ms' ≡ marks es (done_of xs) = ap (first_of most ss ds) e ∙ entries_marked most xs ss ds ms le in
        rw (new, length-marks es xs le, take-length es, over-own es xs le)

    ends-own : map end_at (live k) ≡ ends_in n ss ds
    ends-own = ap (map end_at) (sym own) ∙ ends_of n ss ds ms roomy.2

    -- the base
    pub based : {base : Float} → base ≡ foldl max_f zero_f (ends_in n ss ds) → base ≡ track_base k
    based e = e ∙ ap (foldl max_f zero_f) (sym ends-own) ∙ base_of_ends (live k)

    -- the completions
    pub completed : (mode : Loop) (prev next : Float) {base : Float} → base ≡ track_base k → empty_at_nan prev next (completions_in mode (ends_in (min n most_entries) ss ds) base prev next) ≡ completions_between mode (live k) prev next
    unfolding completions_between
    completed mode prev next eb =
        let most-own : min n most_entries ≡ n = omega (arith, roomy.3) in
        rw (eb, most-own, ends-own)
