-- A loop that fills an array of m slots from the front.
use Prim.Native.Nat.{ℕ, suc, ◌+◌, ◌-◌, ◌<◌}
use mathlib.Core.Path.{◌≡◌, refl, sym, ap, ◌∙◌}
use mathlib.Core.List.{List, [], ◌∷◌, ◌++◌, append_assoc, append-nil}
use native.Mathlib.Numerals.{add-one}
use native.Mathlib.Omega.{arith}
use lib.ListN.{length, take, drop, set, replicate, length-set, length-replicate, take-append-drop}
use lib.Seq.{take-suc-set, drop-set-lt, drop-drop}

module _ {A : Type 0} (all : List A) (z : A) (m : ℕ) where
  -- i slots are filled, with what comes before the rest
  pub record Filled (i : ℕ) (items rest : List A) : Type 0 where
    pub whole : take i items ++ rest ≡ all
    pub blank : drop i items ≡ replicate (m - i) z
    pub size : length items ≡ m

  pub none_filled : (items : List A) → items ≡ replicate m z → Filled 0 items all
  none_filled items e =
      let s : m - 0 ≡ m = omega arith in
      record { whole = refl; blank = rw (s, e); size = rw (e, length-replicate) }

  pub one-filled : (i : ℕ) (items rest : List A) (v : A) → i < m → Filled i items (v ∷ rest) → Filled (i + 1) (set items i v) rest
  one-filled i items rest v h f =
      let k : i < length items = omega arith in
      let s : m - i ≡ suc (m - (i + 1)) = omega arith in
      let l : i < i + 1 = omega arith in
      let b : drop (i + 1) items ≡ replicate (m - (i + 1)) z = sym (drop-drop 1 i items) ∙ ap (drop 1) f.blank ∙ rw s in
      record {
        whole = rw (add-one, take-suc-set items i v k, append_assoc) f.whole;
        blank = drop-set-lt (i + 1) items i v l ∙ b;
        size = length-set items i v ∙ f.size;
      }

  pub all-filled : (n : ℕ) (items : List A) → Filled n items [] → items ≡ all ++ replicate (m - n) z
  all-filled n items f = rw (← f.whole, append-nil, ← f.blank, take-append-drop)
