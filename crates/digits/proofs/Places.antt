-- How many decimal digits a number has.
use Prim.Native.Nat.{ℕ, zero, suc, ◌+◌, ◌*◌, ◌/◌, ◌^◌, ◌≤◌, ◌<◌}
use mathlib.Core.Path.{◌≡◌, refl, ap, ◌∙◌}
use mathlib.Core.Bool.{Bool, true, false}
use native.Mathlib.Nat.{pow-suc, pow-le-pow_right, lt_of_not-le, zero-lt-suc, not-suc-le-zero}
use native.Mathlib.Omega.{arith}
use borrow.Author.Tests.{lt-ltb, le-ltb, ltb-true, ltb-false}
use lib.Dec.{ltb, lit<}
use Rattle.digits.specs.Digits.{decimal_places_from, decimal_places}

-- ---- at any fuel

from_small : (k n : ℕ) → n < 10 → decimal_places_from k (ltb n 10) n ≡ 1
unfolding decimal_places_from
from_small zero n h = refl
from_small (suc k) n h = rw (lt-ltb n 10 h)

from_large : (k n : ℕ) → 10 ≤ n → decimal_places_from (suc k) (ltb n 10) n ≡ suc (decimal_places_from k (ltb (n / 10) 10) (n / 10))
unfolding decimal_places_from
from_large k n h = rw (le-ltb n 10 h)

step : (small : Bool) (j k n : ℕ) → decimal_places_from j (ltb (n / 10) 10) (n / 10) ≡ decimal_places_from k (ltb (n / 10) 10) (n / 10)
    → decimal_places_from (suc j) small n ≡ decimal_places_from (suc k) small n
unfolding decimal_places_from
step true j k n e = refl
step false j k n e = ap suc e

-- fuel past the number changes nothing
enough : (j k n : ℕ) → n ≤ j → n ≤ k → decimal_places_from j (ltb n 10) n ≡ decimal_places_from k (ltb n 10) n
enough zero k n h g = from_small zero n (omega arith) ∙ rw (from_small k n (omega arith))
enough (suc j) zero n h g = from_small (suc j) n (omega arith) ∙ rw (from_small zero n (omega arith))
enough (suc j) (suc k) n h g = step (ltb n 10) j k n (enough j k (n / 10) (omega arith) (omega arith))

-- ---- the number of digits: one below 10, else one more than n / 10 has

pub places_small : (n : ℕ) → n < 10 → decimal_places n ≡ 1
unfolding decimal_places
places_small n h = from_small n n h

pub places_large : (n : ℕ) → 10 ≤ n → decimal_places n ≡ suc (decimal_places (n / 10))
unfolding decimal_places
places_large zero h = absurd (not-suc-le-zero h)
places_large (suc m) h = from_large m (suc m) h ∙ ap suc (enough m (suc m / 10) (suc m / 10) (omega arith) (omega arith))

-- what holds of a number below 10, and of one from 10 on
by_size : (P : ℕ → Type 0) (n : ℕ) → (n < 10 → P n) → (10 ≤ n → P n) → P n
by_size P n small large = go (ltb n 10) refl
  where
    go : (t : Bool) → ltb n 10 ≡ t → P n
    go true e = small (ltb-true n 10 e)
    go false e = large (ltb-false n 10 e)

pub places_pos : (n : ℕ) → 1 ≤ decimal_places n
places_pos n = by_size (λ m. 1 ≤ decimal_places m) n (λ h. omega (arith, places_small n h)) (λ h. omega (arith, places_large n h))

-- n has as many digits as it needs
below_suc : (n k : ℕ) → n / 10 < 10 ^ k → n < 10 ^ suc k
below_suc n k h = rw pow-suc (omega arith)

from_enough : (k n : ℕ) → n ≤ k → n < 10 ^ decimal_places_from k (ltb n 10) n
from_enough zero n h = rw (from_small zero n (omega arith)) (omega arith)
from_enough (suc k) n h =
    let rest = from_enough k (n / 10) (omega arith) in
    by_size (λ m. m < 10 ^ decimal_places_from (suc k) (ltb m 10) m) n
    (λ g. rw (from_small (suc k) n g) (omega arith))
    (λ g. rw (from_large k n g) (below_suc n (decimal_places_from k (ltb (n / 10) 10) (n / 10)) rest))

pub places_enough : (n : ℕ) → n < 10 ^ decimal_places n
unfolding decimal_places
places_enough n = from_enough n n (omega arith)

-- and no more
pub places_least : (n k : ℕ) → 0 < k → n < 10 ^ k → decimal_places n ≤ k
places_least n zero p h = absurd (not-suc-le-zero p)
places_least n (suc zero) p h = omega (arith, places_small n h)
places_least n (suc (suc k)) p h =
    let s = pow-suc 10 (suc k) in
    let rest = places_least (n / 10) (suc k) (zero-lt-suc k) (omega arith) in
    by_size (λ m. decimal_places m ≤ suc (suc k)) n (λ g. omega (arith, places_small n g)) (λ g. omega (arith, places_large n g))

-- by the largest power of 10 that is no larger
pub places_power : (n k : ℕ) → 10 ^ k ≤ n → n < 10 * 10 ^ k → decimal_places n ≡ k + 1
places_power n k h g =
    let enough : k < decimal_places n = lt_of_not-le (λ l. let low : 10 ^ decimal_places n ≤ 10 ^ k = pow-le-pow_right (lit< tt) l in omega (arith, places_enough n)) in
    let least : decimal_places n ≤ suc k = places_least n (suc k) (zero-lt-suc k) (rw pow-suc (omega arith)) in
    omega arith

pub places_zero : (n : ℕ) → n ≡ 0 → decimal_places n ≡ 1
places_zero n e = places_small n (omega arith)

pub ruleset counts = (places_power, places_zero)
