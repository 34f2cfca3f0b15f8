-- What is answered and left, by whether the list has room.
use mathlib.Core.Path.{◌≡◌, refl, sym, ◌∙◌}
use mathlib.Core.Bool.{true, Bool, false}
use mathlib.Core.List.{List, [], ◌∷◌}
use Prim.Native.Nat.{ℕ, ◌≤◌}
use native.Mathlib.Omega.{arith}
use borrow.Author.Tests.{leb-true}
use lib.ListN.{length}
use lib.Dec.{leb, leb-zero}
use Rattle.std.specs.Prelude.{Some, None}
use Rattle.completions.specs.Answers.{Listed, room_for, counted}
use Rattle.steps.specs.Slices.{over}

no_length : (xs : List ℕ) → length xs ≡ 0 → xs ≡ []
no_length [] h = refl
no_length (x ∷ xs) h = let f : ⊥ = omega arith in absurd f

-- there are none
pub none_listed : (xs old : List ℕ) → xs ≡ [] → Listed xs old old (Some 0)
none_listed xs old e =
    let h : leb 0 (length old) ≡ true = leb-zero (length old) in
    rw e (record { answer = rw h; refusal = rw h; count = rw h; list = rw h })

-- ---- by the answer k of the count

module _ (xs old : List ℕ) where
  within-room : (b : Bool) (k : ℕ) → Some k ≡ counted b (length xs) → (b ≡ true) × (k ≡ length xs)
  within-room true k e = (refl, cc)
  within-room false k e = let z : ◌≡◌ {A = ℕ} 0 1 = cc in let f : ⊥ = omega arith in absurd f

  over-room : (b : Bool) → None ≡ counted b (length xs) → b ≡ false
  over-room true e = let z : ◌≡◌ {A = ℕ} 0 1 = cc in let f : ⊥ = omega arith in absurd f
  over-room false e = refl

  -- there is room
  pub room-counted : (k : ℕ) → Some k ≡ counted (room_for xs old) (length xs) → length xs ≤ length old
  room-counted k e = leb-true (length xs) (length old) (within-room (room_for xs old) k e).0

  -- none are counted
  pub none-counted : (k : ℕ) → Some k ≡ counted (room_for xs old) (length xs) → k ≡ 0 → Listed xs old old (Some 0)
  none-counted k e z = none_listed xs old (no_length xs (sym (within-room (room_for xs old) k e).1 ∙ z))

  -- all are written
  pub all-counted : (k : ℕ) (new : List ℕ) → Some k ≡ counted (room_for xs old) (length xs) → new ≡ over xs old → Listed xs old new (Some k)
  all-counted k new e l =
      let h : room_for xs old ≡ true = (within-room (room_for xs old) k e).0 in
      let n : k ≡ length xs = (within-room (room_for xs old) k e).1 in
      record { answer = e; refusal = rw h; count = rw (h, n); list = rw h l }

  -- they are too many
  pub over-counted : None ≡ counted (room_for xs old) (length xs) → Listed xs old old None
  over-counted e =
      let h : room_for xs old ≡ false = over-room (room_for xs old) e in
      record { answer = e; refusal = rw h; count = rw h; list = rw h }
