-- The values that are not finite. Assumes nothing.
use mathlib.Core.Path.{◌≡◌, refl, sym, subst, ◌∙◌}
use mathlib.Core.Bool.{true, false, true≢false}
use lib.Ieee.{Float, nan, inf, fin, binary32, rem, is_nan, div, of_bits}
use Rattle.float32.specs.Helpers.{finite_f}
use Rattle.float32.proofs.NanBits.{only_nan}
use Rattle.float32.proofs.remainder.Goals as goal

-- of no finite value
none-finite : (x y : Float) → finite_f x ≡ false → nan ≡ rem binary32 x y
unfolding rem
none-finite nan y h = refl
none-finite (inf s) y h = refl
none-finite (fin s m e) y h = absurd (true≢false h)

-- by a NaN
by-nan : (x : Float) → nan ≡ rem binary32 x nan
unfolding rem
by-nan nan = refl
by-nan (inf s) = refl
by-nan (fin s m e) = refl

-- of a finite value by an infinity
by-infinity : (x y : Float) → finite_f x ≡ true → is_nan y ≡ false → finite_f y ≡ false → x ≡ rem binary32 x y
unfolding rem is_nan
by-infinity nan y h k l = absurd (true≢false (sym h))
by-infinity (inf s) y h k l = absurd (true≢false (sym h))
by-infinity (fin s m e) nan h k l = absurd (true≢false k)
by-infinity (fin s m e) (inf t) h k l = refl
by-infinity (fin s m e) (fin t n d) h k l = absurd (true≢false l)

pub returns-then-not-is_finite : goal.returns-then-not-is_finite
unfolding div of_bits
returns-then-not-is_finite c = none-finite c.args.x c.args.y (sym c.is_finite.ensures ∙ c.if-not-is_finite.true)

pub returns-then-is_nan : goal.returns-then-is_nan
returns-then-is_nan c =
    let e : nan ≡ c.args.y = only_nan c.args.y (sym c.is_nan.ensures.value ∙ c.if-is_nan.true) in
    subst (λ (y : Float). y ≡ rem binary32 c.args.x y) e (by-nan c.args.x)

pub returns-then-not-is_finite-2 : goal.returns-then-not-is_finite-2
returns-then-not-is_finite-2 c =
    by-infinity c.args.x c.args.y (sym c.is_finite.ensures ∙ c.if-not-is_finite.false) (sym c.is_nan.ensures.value ∙ c.if-is_nan.false) (sym c.is_finite-2.ensures ∙ c.if-not-is_finite-2.true)
