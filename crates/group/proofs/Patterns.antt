-- A pattern refuses every index or none.
use Prim.Native.Nat.{ℕ}
use mathlib.Core.Path.{◌≡◌, refl, sym, ◌∙◌}
use mathlib.Core.Bool.{Bool, true, false, cond, ◌||◌}
use mathlib.Core.List.{List}
use lib.Dec.{ltb}
use lib.Ieee.{Float}
use Rattle.std.specs.Prelude.{Result, Ok, Err}
use Rattle.float32.specs.Helpers.{zero_f}
use Rattle.refusal.specs.declared.Refusal.{Refusal}
use Rattle.refusal.specs.declared.Refusal.TheVariants.{GridTooLarge}
use Rattle.refusal.specs.Refusal.{accepted, number_in, held_or}
use Rattle.refusal.proofs.Numbers.{number-not}
use Rattle.tween.specs.declared.stagger_pattern.StaggerPattern.{StaggerPattern}
use Rattle.tween.specs.declared.stagger_pattern.StaggerPattern.TheVariants.{Grid, Random, CenterOut, EdgesIn}
use Rattle.tween.specs.StaggerPattern.{max_side, grid_delay, delay_of}
use Rattle.group.specs.Items.{hands_out}
use Rattle.group.specs.Group.{stagger_of}
use Rattle.group.proofs.Items.{refused_first, refused_as}

either_refusal : (b : Bool) (r : Refusal) (x y : Float) → number_in (cond b (Err r) (Ok x)) ≡ number_in (cond b (Err r) (Ok y))
either_refusal true r x y = refl
either_refusal false r x y = refl

pub patterns : (p : StaggerPattern) (i : ℕ) → number_in (delay_of p i) ≡ number_in (delay_of p 0)
patterns (Grid cols rows origin step) i = either_refusal (ltb max_side cols || ltb max_side rows) GridTooLarge (grid_delay cols rows origin step i) (grid_delay cols rows origin step 0)
patterns (Random seed min_delay max_delay) i = refl
patterns (CenterOut count step) i = refl
patterns (EdgesIn count step) i = refl

-- where it refuses none, each delay is one
pub delays : (p : StaggerPattern) (i : ℕ) → accepted ≡ number_in (delay_of p 0) → delay_of p i ≡ Ok (held_or zero_f (delay_of p i))
delays p i e = go (delay_of p i) (patterns p i ∙ sym e)
  where
    go : (d : Result Float Refusal) → number_in d ≡ accepted → d ≡ Ok (held_or zero_f d)
    go (Ok x) h = refl
    go (Err r) h = absurd (number-not r h)

-- where it refuses the first index, the builder refuses
pub refused_pattern : (ds : List Float) (p : StaggerPattern) (r : Refusal) → Err r ≡ delay_of p 0 → hands_out (Err r) ≡ stagger_of ds p
unfolding stagger_of
refused_pattern ds p r e = rw (← e) (refused_as r _ _ (refused_first r _))
