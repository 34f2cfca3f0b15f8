-- The fold over the replies is `above_one`.
use mathlib.Core.Path.{◌≡◌, refl, ap, sym, ◌∙◌}
use mathlib.Core.Bool.{Bool, true, false, ◌||◌}
use mathlib.Core.List.{List, [], ◌∷◌, ◌++◌}
use Prim.Native.Nat.{ℕ}
use lib.Dec.{ltb}
use borrow.Author.Rules.{rules}
use Rattle.std.proofs.iter.Yields.{fronts}
use Rattle.std.proofs.lemmas.Fn.{fold_over}
use Rattle.std.proofs.lemmas.Iterator.{YieldsList-from_slice}
use Rattle.track.specs.Updates.{above_one}
use Rattle.track.proofs.checks.above_one.Goals as goal

or_assoc : (a b c : Bool) → ((a || b) || c) ≡ (a || (b || c))
or_assoc true b c = refl
or_assoc false b c = refl

or_false : (a : Bool) → (a || false) ≡ a
or_false true = refl
or_false false = refl

-- one reply more
above_more : (rs : List ℕ) (r : ℕ) → (above_one rs || ltb 1 r) ≡ above_one (rs ++ (r ∷ []))
unfolding above_one
above_more [] r = sym (or_false (ltb 1 r))
above_more (x ∷ rs) r = or_assoc (ltb 1 x) (above_one rs) (ltb 1 r) ∙ ap (λ (b : Bool). ltb 1 x || b) (above_more rs r)

none-above : false ≡ above_one []
unfolding above_one
none-above = refl

pub returns : goal.returns
returns c =
    let rs = c.args.replies.now in
    fold_over fronts (λ r. r.now) _ (λ ys a. a ≡ above_one ys) _
    (λ ys a x b f' i k. ((search rules) ∙ ap (λ (q : Bool). q || ltb 1 x.now) i ∙ above_more ys x.now, refl))
    _ rs false c.fold.result (YieldsList-from_slice rs cc).runs none-above c.fold.ensures.ran
