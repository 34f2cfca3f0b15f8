-- The ends of entries give their base and their completions.
use mathlib.Core.Path.{◌≡◌}
use mathlib.Core.List.{List, foldl, foldl-map, map}
use lib.Ieee.{Float}
use Rattle.float32.specs.Helpers.{zero_f, max_f}
use Rattle.steps.specs.Times.{end_at, base_of}
use Rattle.steps.specs.declared.Entry.{Entry}
use Rattle.tween.specs.declared.loop_mode.Loop.{Loop}
use Rattle.completions.specs.Completions.{completions_in, empty_at_nan, completions_between}

-- the base is the largest of the ends
pub base_of_ends : (es : List Entry) → foldl max_f zero_f (map end_at es) ≡ base_of es
unfolding base_of
base_of_ends es = foldl-map end_at max_f es zero_f

-- the completions, from the ends and the base as they are worked out
pub between_ends : (mode : Loop) (es : List Entry) (prev next : Float) (ends : List Float) (base : Float) → ends ≡ map end_at es → base ≡ base_of es
    → empty_at_nan prev next (completions_in mode ends base prev next) ≡ completions_between mode es prev next
unfolding completions_between
between_ends mode es prev next ends base e b = rw (e, b)
