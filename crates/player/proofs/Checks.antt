-- A check that refuses where a test says so.
use mathlib.Core.Path.{◌≡◌, refl, sym, ap, ◌∙◌}
use mathlib.Core.Bool.{Bool, true, false, false≢true}
use Rattle.std.specs.Prelude.{Result, Ok, Err}
use Rattle.refusal.specs.declared.Refusal.{Refusal}
use Rattle.track.specs.declared.rows.Rows.{Rows}
use Rattle.track.specs.Answers.{refused_where, SameSlices}
use Rattle.player.specs.declared.engine.Player.{Player}
use Rattle.player.specs.Answered.{SameColumns}

abbrev refuses : {A : Type 0} → Result A Refusal → Bool
refuses (Ok x) = false
refuses (Err r) = true

abbrev why : {A : Type 0} → Refusal → Result A Refusal → Refusal
why d (Ok x) = d
why d (Err r) = r

module _ (r : Refusal) {x : Result Unit Refusal} where
  -- it refused: the test held, and that is why
  pub refused : (b : Bool) {e : Refusal} → x ≡ refused_where b r → x ≡ Err e → (b ≡ true) × (e ≡ r)
  refused true {e} ex f = (refl, ap (why r) (sym f ∙ ex))
  refused false {e} ex f = absurd (false≢true (ap refuses (sym ex ∙ f)))

  -- it did not
  pub passed : (b : Bool) {u : Unit} → x ≡ refused_where b r → x ≡ Ok u → b ≡ false
  passed true ex f = absurd (false≢true (ap refuses (sym f ∙ ex)))
  passed false ex f = refl

-- rows that nobody wrote are the same slices
pub same_slices : (r : Rows) → SameSlices r r
same_slices r = record { kinds = refl; amounts = refl; places = refl }

-- nor is a player other that nobody moved
pub same_player : (p : Player) → SameColumns p p
same_player p = record { head = refl; spans = refl; marks = refl; len = refl; spare = refl }
