-- `base` folds the ends by one test each: what is folded so far is not below 0, and so is no NaN.
use mathlib.Core.Path.{◌≡◌, refl, ap, sym, ◌∙◌}
use mathlib.Core.Bool.{true, cond}
use mathlib.Core.List.{List, [], ◌∷◌, ◌++◌, foldl, foldl-append}
use lib.Ieee.{Float, binary32, add, lt}
use borrow.Author.Rules.{rules}
use Rattle.std.proofs.iter.Yields.{fronts}
use Rattle.std.proofs.lemmas.Fn.{fold_over}
use Rattle.std.proofs.lemmas.Iterator.{zips}
use Rattle.float32.specs.Helpers.{zero_f, max_f, nonneg_f}
use Rattle.float32.proofs.MaxMin.{max-is}
use Rattle.float32.proofs.Nonneg.{max-nonneg, nonneg_no_nan, zero_nonneg}
use Rattle.completions.specs.Columns.{ends}
use Rattle.completions.proofs.Columns.{gives_ends}
use Rattle.completions.proofs.base.Goals as goal

-- what is folded of the ends so far
abbrev Folded : List Float → Float → Type 0
Folded ys acc = (nonneg_f acc ≡ true) × (acc ≡ foldl max_f zero_f ys)

-- one end more
folded_more : (ys : List Float) (acc end b : Float) → Folded ys acc → b ≡ cond (lt acc end) end acc → Folded (ys ++ (end ∷ [])) b
folded_more ys acc end b i e =
    let m : b ≡ max_f acc end = e ∙ sym (max-is acc end (nonneg_no_nan acc i.0)) in
    (rw m (max-nonneg acc end i.0), m ∙ ap (λ (x : Float). max_f x end) i.1 ∙ sym (foldl-append max_f zero_f ys (end ∷ [])))

pub returns : goal.returns
returns c =
    (fold_over (zips fronts fronts) (λ p. add binary32 p.0.now p.1.now) _ Folded _
    (λ ys a x b f' i k. (folded_more ys a (add binary32 x.0.now x.1.now) b i (search rules), refl))
    _ (ends c.args.spans) zero_f c.fold.result (gives_ends _ _ (search rules)) (zero_nonneg, refl) c.fold.ensures.ran).1
