-- A step that lies wholly inside an entry's run, or wholly behind it.
use Prim.Native.Nat.{ℕ}
use mathlib.Core.Path.{◌≡◌, refl, sym, ◌∙◌}
use mathlib.Core.Bool.{Bool, true, false, ◌&&◌, ◌||◌, true≢false}
use lib.Dec.{T, eqb}
use lib.Ieee.{Float, binary32, sub, lt, le, eq, fits}
use Rattle.float32.specs.Helpers.{zero_f, one_f}
use Rattle.float32.proofs.Order.{le_of_lt, lt_trans, lt-no_nan, le_of_not_lt, not-lt_of_lt, not-lt_of_le, not_le_of_lt}
use Rattle.float32.proofs.MaxMin.{max-same, min-same, min-other}
use Rattle.steps.specs.declared.Entry.{Entry}
use Rattle.steps.specs.Times.{end_at}
use Rattle.steps.specs.Rows.{row, stepped, seek_row, ticked}
use Rattle.std.proofs.lemmas.Bool.{and_parts}
use Rattle.steps.proofs.Zero.{add-zero_le}

-- an entry that begins before a place and ends after it has a length
has_length : (e : Entry) (x : Float) → T (fits binary32 e.start) → lt e.start x ≡ true → lt x (end_at e) ≡ true → eq e.duration zero_f ≡ false
has_length e x fit begun unended = go (eq e.duration zero_f) (add-zero_le binary32 e.start e.duration fit (lt-no_nan e.start x begun).0)
  where
    go : (instant : Bool) → (instant ≡ true → le (end_at e) e.start ≡ true) → instant ≡ false
    go false ended = refl
    go true ended = absurd (true≢false (sym (lt_trans e.start x (end_at e) begun unended) ∙ not-lt_of_le (end_at e) e.start (ended refl)))

-- the entry is sent an update by the whole step
pub ticked-inside : (prev next : Float) (e : Entry) (reply : ℕ) → T (fits binary32 e.start) → (lt e.start prev && (lt next (end_at e) && lt prev next)) ≡ true → ticked prev next e reply ≡ stepped (row 4 (sub binary32 next prev) zero_f) (eqb reply 0 || e.done)
unfolding ticked
ticked-inside prev next e reply fit inside =
    let begun = and_parts _ _ inside in
    let forward = and_parts _ _ begun.1 in
    let reached : lt e.start next ≡ true = lt_trans e.start prev next begun.0 forward.1 in
    rw (
      not-lt_of_lt e.start next reached,
      not_le_of_lt e.start prev begun.0,
      has_length e next fit reached forward.0,
      max-same prev e.start (le_of_lt e.start prev begun.0),
      min-same next (end_at e) (le_of_lt next (end_at e) forward.0),
      not_le_of_lt next (end_at e) forward.0,
      forward.1,
    )

-- the entry is sought to its end, whether it has a length or not
behind : (prev next : Float) (e : Entry) (reply : ℕ) (instant : Bool) → eq e.duration zero_f ≡ instant → lt next e.start ≡ false → lt e.start prev ≡ true → le (end_at e) prev ≡ true → lt (end_at e) next ≡ true → ticked prev next e reply ≡ stepped (seek_row one_f) true
unfolding ticked
behind prev next e reply true instant started begun ended past =
    rw (
      started,
      not_le_of_lt e.start prev begun,
      instant,
      le_of_not_lt next e.start (lt-no_nan (end_at e) next past).1 (lt-no_nan e.start prev begun).0 started,
    )
behind prev next e reply false instant started begun ended past =
    rw (
      started,
      not_le_of_lt e.start prev begun,
      instant,
      max-same prev e.start (le_of_lt e.start prev begun),
      min-other next (end_at e) past,
      le_of_lt (end_at e) next past,
      not-lt_of_le (end_at e) prev ended,
    )

pub ticked-behind : (prev next : Float) (e : Entry) (reply : ℕ) → lt next e.start ≡ false → (lt e.start prev && (le (end_at e) prev && lt (end_at e) next)) ≡ true → ticked prev next e reply ≡ stepped (seek_row one_f) true
ticked-behind prev next e reply started h =
    let begun = and_parts _ _ h in
    let ended = and_parts _ _ begun.1 in
    behind prev next e reply (eq e.duration zero_f) refl started begun.0 ended.0 ended.1
