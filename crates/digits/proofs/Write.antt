-- A loop that writes a text of digits into a slice, from the last to the first: what is left to do, at each turn.
use Prim.Native.Nat.{ℕ, zero, suc, ◌+◌, ◌-◌, ◌/◌, ◌%◌, ◌≤◌, ◌<◌}
use mathlib.Core.Path.{◌≡◌, sym, ◌∙◌, refl}
use mathlib.Core.List.{List}
use native.Mathlib.Nat.{not-suc-le-zero}
use native.Mathlib.Numerals.{sub-one}
use native.Mathlib.Omega.{arith}
use lib.ListN.{length, set, length-set}
use Rattle.digits.specs.Digits.{code_of, digits, put_at}
use Rattle.digits.proofs.Length.{length_digits}
use Rattle.digits.proofs.PutAt.{put_at_nil, put_at_snoc}

-- after the stores so far, out lacks the first i of the w digits of n in base b, which are those of rest
pub record Left (b n w at : ℕ) (old out : List ℕ) (rest i : ℕ) : Type 0 where
  pub within : i ≤ w
  pub room : at + w ≤ length old
  pub same : length out ≡ length old
  pub left : put_at (digits b i rest) at out ≡ put_at (digits b w n) at old

module _ (b n w at : ℕ) (old : List ℕ) where
  pub all_left : at + w ≤ length old → Left b n w at old old n w
  all_left h = record { within = omega arith; room = h; same = refl; left = refl }

  one_less : (out : List ℕ) (rest j v : ℕ) → Left b n w at old out rest (suc j) → v ≡ code_of (rest % b)
      → Left b n w at old (set out (at + j) v) (rest / b) j
  unfolding digits
  one_less out rest j v l e =
      record {
        within = omega arith;
        room = l.room;
        same = length-set out (at + j) v ∙ l.same;
        left = put_at_snoc (digits b j (rest / b)) at v j out (length_digits b j (rest / b)) (omega arith) ∙ rw e l.left;
      }

  -- a turn
  pub fewer-left : (out : List ℕ) (rest i v : ℕ) → Left b n w at old out rest i → 0 < i → v ≡ code_of (rest % b)
      → Left b n w at old (set out (at + (i - 1)) v) (rest / b) (i - 1)
  fewer-left out rest zero v l h e = absurd (not-suc-le-zero h)
  fewer-left out rest (suc j) v l h e = rw sub-one (one_less out rest j v l e)

  pub none_left : (out : List ℕ) (rest i : ℕ) → Left b n w at old out rest i → i ≤ 0 → out ≡ put_at (digits b w n) at old
  unfolding digits
  none_left out rest zero l h = sym (put_at_nil at out) ∙ l.left
  none_left out rest (suc j) l h = absurd (not-suc-le-zero h)
