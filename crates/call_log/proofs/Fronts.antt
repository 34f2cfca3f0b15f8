-- What depends on the front of the bytes alone.
use Prim.Native.Nat.{ℕ, zero, suc, ◌≤◌, ◌<◌, min}
use mathlib.Core.Path.{◌≡◌, refl, sym, ap, ◌∙◌}
use mathlib.Core.Bool.{Bool, true, false}
use mathlib.Core.List.{List, [], ◌∷◌, ◌++◌, append-nil}
use native.Mathlib.Nat.{not-suc-le-zero, le_of_suc-le-suc}
use native.Mathlib.Omega.{arith}
use borrow.Author.Tests.{lt-ltb, le-ltb, ltb-true, ltb-false}
use lib.Dec.{ltb}
use lib.ListN.{length, take, drop, length-take, length-append, drop_of_length-le}
use lib.Seq.{take_at, drop_at, take_all}
use Rattle.track.specs.declared.track.Track.{Track}
use Rattle.words.specs.Words.{word}
use Rattle.call_log.specs.Logs.{call_size, outcome_at}

-- a word is in its first bytes
pub word-take : (w k : ℕ) (s : List ℕ) → w ≤ k → word w (take k s) ≡ word w s
unfolding word
word-take zero k s h = refl
word-take (suc w) zero s h = absurd (not-suc-le-zero h)
word-take (suc w) (suc k) [] h = refl
word-take (suc w) (suc k) (b ∷ s) h = rw (word-take w k s (le_of_suc-le-suc h))

-- a front of at least w bytes is as short as the whole, below w
pub ltb-front : (w k : ℕ) (s : List ℕ) → w ≤ k → ltb (length (take k s)) w ≡ ltb (length s) w
ltb-front w k s h = go (ltb (length s) w) refl
  where
    go : (b : Bool) → ltb (length s) w ≡ b → ltb (length (take k s)) w ≡ b
    go true e = lt-ltb (length (take k s)) w (omega (arith, ltb-true (length s) w e, length-take k s))
    go false e = le-ltb (length (take k s)) w (omega (arith, ltb-false (length s) w e, length-take k s))

-- the call at the front of the script is in its first bytes
pub outcome-front : (t : Track) (rest : List ℕ) (k : ℕ) → call_size ≤ k → outcome_at t (take k rest) ≡ outcome_at t rest
unfolding outcome_at
outcome-front t rest zero h = absurd (not-suc-le-zero h)
outcome-front t [] (suc k) h = refl
outcome-front t (b ∷ s) (suc k) h = rw (ltb-front call_size (suc k) (b ∷ s) h, word-take 4 k s (le_of_suc-le-suc h))

-- ---- a chunk x of a script, before more

-- what is no shorter than a call begins with a call's bytes, and more comes behind them; else nothing more comes
chunk_by : (rest x more : List ℕ) (whole : Bool) → ltb (length rest) call_size ≡ whole → rest ≡ x ++ more → length x ≡ min call_size (length rest) → (take call_size rest ≡ x) × (drop call_size rest ≡ more)
chunk_by rest x more false e same size =
    let five : length x ≡ call_size = omega (arith, ltb-false _ _ e) in
    rw same (take_at x more call_size five, drop_at x more call_size five)
chunk_by rest x more true e same size =
    let short : length rest < call_size = ltb-true _ _ e in
    let all = ap length same ∙ length-append x more in
    let none : more ≡ [] = drop_of_length-le more {i = 0} (omega arith) in
    (take_all call_size rest (omega arith) ∙ same ∙ rw none (append-nil x), drop_of_length-le rest {i = call_size} (omega arith) ∙ sym none)

pub chunk_is : (rest x more : List ℕ) → rest ≡ x ++ more → length x ≡ min call_size (length rest) → (take call_size rest ≡ x) × (drop call_size rest ≡ more)
chunk_is rest x more e l = chunk_by rest x more (ltb (length rest) call_size) refl e l
