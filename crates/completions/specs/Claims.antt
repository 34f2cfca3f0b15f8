-- What is claimed of the definitions themselves.
use Rattle.std.specs.Prelude.{ℕ, ◌<◌, ◌≡◌, true, ◌||◌, List, [], ◌∷◌, length, T, Float}
use Rattle.std.specs.Float.Ieee.{is_nan}
use Rattle.tween.specs.declared.loop_mode.Loop.{Loop}
use Rattle.steps.specs.declared.Entry.{Entry}
use Rattle.completions.specs.Completions.{completions_in, completions_between}
use Rattle.completions.specs.Cases.{all_hold, table}
use Rattle.completions.specs.Prompt.{Prompt, PromptAnswer, FewTurns, slow_as_said}

-- every number of the list is below n
abbrev pub AllBelow : ℕ → List ℕ → Type 0
AllBelow n [] = Unit
AllBelow n (x ∷ xs) = (x < n) × AllBelow n xs

-- all of it, which `claimed` carries
pub record Claims : Type 0 where
  -- the worked cases hold
  pub cases : T (all_hold table)
  -- "The list there is empty": at a NaN the Rust, too, lists nothing
  pub nan : (mode : Loop) (ends : List Float) (base prev next : Float) → (is_nan prev || is_nan next) ≡ true → completions_in mode ends base prev next ≡ []
  -- every number listed is that of an entry, so it fits a byte
  pub below : (mode : Loop) (es : List Entry) (prev next : Float) → AllBelow (length es) (completions_between mode es prev next)
  -- no walk goes over many more cycles than the list has places
  pub prompt : Prompt
  pub answer : PromptAnswer
  pub few : FewTurns
  -- some walks go over 385 cycles that list nothing
  pub slow : T slow_as_said
