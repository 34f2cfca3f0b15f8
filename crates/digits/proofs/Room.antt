-- Whether a text has room in a slice, and what is left there either way.
use Prim.Native.Nat.{ℕ, ◌+◌, ◌≤◌, ◌-◌, ◌<◌}
use mathlib.Core.Path.{◌≡◌, refl, ap, ◌∙◌, sym}
use mathlib.Core.List.{List}
use mathlib.Core.Bool.{Bool, true, false}
use native.Mathlib.Omega.{arith}
use borrow.Author.Tests.{le-leb, lt-leb, leb-true, leb-false}
use lib.ListN.{length}
use lib.Dec.{leb}
use Rattle.std.specs.Prelude.{Option, Some, None}
use Rattle.std.specs.Option.{unwrap_or}
use Rattle.digits.specs.Digits.{put_at, written, written_count, Put, fits}

-- the test for room, without a sum that could wrap
pub leb-sub : (w at len : ℕ) → at ≤ len → leb w (len - at) ≡ leb (at + w) len
leb-sub w at len h = go (leb w (len - at)) refl
  where
    go : (t : Bool) → leb w (len - at) ≡ t → t ≡ leb (at + w) len
    go true e = sym (le-leb (at + w) len (omega (arith, leb-true w (len - at) e)))
    go false e = sym (lt-leb (at + w) len (omega (arith, leb-false w (len - at) e)))

-- a text that has room is written whole
pub written-whole : (text : List ℕ) (at : ℕ) (old : List ℕ) → at + length text ≤ length old
    → (written text at old ≡ put_at text at old) × (written_count text at old ≡ Some (length text))
unfolding written written_count
written-whole text at old h = rw (le-leb (at + length text) (length old) h) (refl, refl)

-- so where it has room, what was written is it, and a caller that takes 0 for none counts it
pub put_whole : (text : List ℕ) (at : ℕ) (old new : List ℕ) (count : Option ℕ) (n : ℕ) → at + length text ≤ length old
    → Put text at old new count → n ≡ unwrap_or count 0 → (n ≡ length text) × (new ≡ put_at text at old)
put_whole text at old new count n h p e =
    let whole = written-whole text at old h in
    (e ∙ ap (λ (c : Option ℕ). unwrap_or c 0) (p.counted ∙ whole.1), p.bytes ∙ whole.0)

-- one that has none is not written
pub written_none : (text : List ℕ) (at : ℕ) (old : List ℕ) → length old < at + length text
    → (written text at old ≡ old) × (written_count text at old ≡ None)
unfolding written written_count
written_none text at old h = rw (lt-leb (at + length text) (length old) h) (refl, refl)

-- the contract, met either way, for a text of w bytes
module _ (text : List ℕ) (at : ℕ) (old out : List ℕ) (w : ℕ) (whole : length text ≡ w) where
  pub put : fits w at old ≡ true → out ≡ put_at text at old → Put text at old out (Some w)
  put h e =
      let r = written-whole text at old (rw whole (leb-true (at + w) (length old) h)) in
      record { bytes = e ∙ sym r.0; counted = sym (r.1 ∙ ap Some whole) }

  pub refused : fits w at old ≡ false → out ≡ old → Put text at old out None
  refused h e =
      let r = written_none text at old (rw whole (leb-false (at + w) (length old) h)) in
      record { bytes = e ∙ sym r.0; counted = sym r.1 }
