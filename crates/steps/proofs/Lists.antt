-- Laws on lists that loops cite, over any element type.
--     unmapped      what owning an array of structs tells is the length of a mapped list: the list's own length
--     fold-..       a loop that folds from the front: the invariant is `foldl f acc (drop i l) ≡ result`
--     front-..      a loop that writes the list xs over the front of old: the invariant is `out ≡ front i xs old`
--     map_at        what a turn stores is the definition's, where xs is a map
use Prim.Native.Nat.{ℕ, zero, suc, ◌+◌, ◌<◌, ◌≤◌}
use mathlib.Core.Path.{◌≡◌, refl, ap, ◌∙◌, sym}
use mathlib.Core.List.{List, [], ◌∷◌, ◌++◌, foldl, map}
use native.Mathlib.Nat.{not-suc-le-zero, le_of_suc-le-suc}
use native.Mathlib.Numerals.{add-one}
use native.Mathlib.Omega.{arith}
use lib.ListN.{length, get_or, set, take, drop, length-take, drop_of_length-le, length-map}
use lib.Seq.{get_or-take, take-length, drop-cons}
use Rattle.std.proofs.lemmas.List.{take_min}

pub unmapped : {X Y : Type 0} (f : X → Y) (l : List X) (n : ℕ) → length (map f l) ≡ n → length l ≡ n
unmapped f l n p = sym (length-map l f) ∙ p

-- an element below a part's length, read from the whole: `get_or-take`, by the bound that callers have
pub part_at : {A : Type 0} (n : ℕ) (l : List A) (i : ℕ) (d : A) → i < length (take n l) → get_or (take n l) i d ≡ get_or l i d
part_at n l i d h =
    let k : i < n = omega (arith, length-take n l) in
    get_or-take n l i d k

module _ {A B : Type 0} (f : B → A → B) where
  -- one turn of a fold over the first n of l
  pub fold_more : (b r z : B) (n : ℕ) (l : List A) (i : ℕ) (d : A) → i < length (take n l) → r ≡ f b (get_or l i d) → foldl f b (drop i (take n l)) ≡ z → foldl f r (drop (i + 1) (take n l)) ≡ z
  fold_more b r z n l i d h e p =
      rw (e, add-one, ← part_at n l i d h) (rw (drop-cons (take n l) i d h) at p)

  -- the end of a fold
  pub fold_end : (b z : B) (l : List A) (i : ℕ) → length l ≤ i → foldl f b (drop i l) ≡ z → b ≡ z
  fold_end b z l i h p = rw (drop_of_length-le l h) at p

module _ {B : Type 0} where
  -- the first i elements of xs over the front of old
  abbrev pub front : ℕ → List B → List B → List B
  front i xs old = take i xs ++ drop i old

  front-suc : (i : ℕ) (xs old : List B) (d : B) → i < length xs → i < length old → set (front i xs old) i (get_or xs i d) ≡ front (suc i) xs old
  front-suc i [] old d h k = absurd (not-suc-le-zero h)
  front-suc i (x ∷ xs) [] d h k = absurd (not-suc-le-zero k)
  front-suc zero (x ∷ xs) (y ∷ old) d h k = refl
  front-suc (suc i) (x ∷ xs) (y ∷ old) d h k = ap (λ (t : List B). x ∷ t) (front-suc i xs old d (le_of_suc-le-suc h) (le_of_suc-le-suc k))

  -- a turn's store, where what is stored is the definition's
  pub front-more : (i : ℕ) (xs old out : List B) (v d : B) → i < length xs → i < length old → v ≡ get_or xs i d → out ≡ front i xs old → set out i v ≡ front (i + 1) xs old
  front-more i xs old out v d h k e o = rw (o, e, add-one) (front-suc i xs old d h k)

  front_same : (i : ℕ) (xs old : List B) → i ≤ length xs → i ≤ length old → length (front i xs old) ≡ length old
  front_same zero xs old h k = refl
  front_same (suc i) [] old h k = absurd (not-suc-le-zero h)
  front_same (suc i) (x ∷ xs) [] h k = absurd (not-suc-le-zero k)
  front_same (suc i) (x ∷ xs) (y ∷ old) h k = ap suc (front_same i xs old (le_of_suc-le-suc h) (le_of_suc-le-suc k))

  -- a store changes no length
  pub front_length : (i : ℕ) (xs old out : List B) → i ≤ length xs → i ≤ length old → out ≡ front i xs old → length out ≡ length old
  front_length i xs old out h k o = ap length o ∙ front_same i xs old h k

  front-next : (i : ℕ) (xs old : List B) (d : B) → i ≤ length xs → i ≤ length old → get_or (front i xs old) i d ≡ get_or old i d
  front-next zero xs old d h k = refl
  front-next (suc i) [] old d h k = absurd (not-suc-le-zero h)
  front-next (suc i) (x ∷ xs) [] d h k = absurd (not-suc-le-zero k)
  front-next (suc i) (x ∷ xs) (y ∷ old) d h k = front-next i xs old d (le_of_suc-le-suc h) (le_of_suc-le-suc k)

  -- what the loop has not reached is as it was
  pub front_at : (i : ℕ) (xs old out : List B) (d : B) → i ≤ length xs → i ≤ length old → out ≡ front i xs old → get_or out i d ≡ get_or old i d
  front_at i xs old out d h k o = rw o (front-next i xs old d h k)

  -- the end: xs over the front of old
  pub front-all : (i : ℕ) (xs old out : List B) → i ≡ length xs → out ≡ front i xs old → out ≡ xs ++ drop (length xs) old
  front-all i xs old out e o = rw (e, take-length) at o

-- an element of a map, whatever an index past the end would read
pub map_at : {A B : Type 0} (g : A → B) (l : List A) (i : ℕ) (d : A) (z : B) → i < length l → get_or (map g l) i z ≡ g (get_or l i d)
map_at g [] i d z h = absurd (not-suc-le-zero h)
map_at g (x ∷ l) zero d z h = refl
map_at g (x ∷ l) (suc i) d z h = map_at g l i d z (le_of_suc-le-suc h)

-- a map of a map
pub map-map : {A B C : Type 0} (g : B → C) (f : A → B) (l : List A) → map g (map f l) ≡ map (λ (x : A). g (f x)) l
map-map g f [] = refl
map-map g f (x ∷ l) = ap (λ (t : List _). g (f x) ∷ t) (map-map g f l)

-- a part, by its own length
pub take_own : {A : Type 0} (n : ℕ) (l : List A) → take (length (take n l)) l ≡ take n l
take_own n l = ap (λ (k : ℕ). take k l) (length-take n l) ∙ take_min n l
