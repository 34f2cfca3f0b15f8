-- How long a text of digits is.
use Prim.Native.Nat.{ℕ, zero, suc, ◌+◌, ◌/◌, ◌%◌}
use mathlib.Core.Path.{◌≡◌, refl, ap, ◌∙◌}
use mathlib.Core.List.{List, [], ◌∷◌, ◌++◌}
use native.Mathlib.Numerals.{add-one}
use lib.ListN.{length, length-append}
use Rattle.digits.specs.Digits.{code_of, digits}

pub length-snoc : (xs : List ℕ) (v : ℕ) → length (xs ++ (v ∷ [])) ≡ length xs + 1
length-snoc xs v = length-append xs (v ∷ [])

pub length_digits : (b w n : ℕ) → length (digits b w n) ≡ w
unfolding digits
length_digits b zero n = refl
length_digits b (suc w) n = length-snoc (digits b w (n / b)) (code_of (n % b)) ∙ ap (◌+ 1) (length_digits b w (n / b)) ∙ add-one w
