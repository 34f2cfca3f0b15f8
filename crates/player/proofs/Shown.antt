-- The preview: it goes over a copy of the marks, and sends the rows of an update.
use Prim.Native.Nat.{ℕ, zero, suc, min, ◌≤◌}
use mathlib.Core.Path.{◌≡◌, refl, sym, ap, subst, ◌∙◌}
use mathlib.Core.Bool.{Bool, true, false, ◌&&◌}
use mathlib.Core.List.{List, [], ◌∷◌, ◌++◌, map, foldl}
use native.Mathlib.Omega.{arith}
use lib.ListN.{length, take}
use lib.Seq.{take-length, length-take-le, take_at}
use lib.Ieee.{Float}
use Rattle.std.specs.Prelude.{Result, Ok, Err}
use Rattle.std.proofs.lemmas.Bool.{and_parts}
use Rattle.float32.specs.Helpers.{zero_f, max_f, min_f}
use Rattle.refusal.specs.declared.Refusal.{Refusal}
use Rattle.refusal.specs.declared.Refusal.TheVariants.{RowsTooShort}
use Rattle.tween.specs.LoopMode.{is_once}
use Rattle.tween.specs.declared.loop_mode.Loop.{Loop}
use Rattle.steps.specs.declared.Entry.{Entry}
use Rattle.steps.specs.declared.Row.{Row}
use Rattle.steps.specs.declared.Rule.{Rule}
use Rattle.steps.specs.declared.Run.{Run}
use Rattle.steps.specs.Rows.{ruled}
use Rattle.completions.specs.Columns.{most_entries, first_ends}
use Rattle.completions.specs.declared.Spans.{Spans}
use Rattle.clock.specs.declared.Reach.{Reach}
use Rattle.clock.specs.Clocks.{advances, advance_rule, next_elapsed, reach_of}
use Rattle.track.specs.declared.rows.Rows.{Rows}
use Rattle.track.specs.declared.track.Track.{Track}
use Rattle.track.specs.declared.track.Playhead.{Playhead}
use Rattle.track.specs.Tracks.{live, track_base, rows_of, Sent}
use Rattle.track.specs.Columns.{entry_of, first_of, entries_in, track_of}
use Rattle.track.specs.Updates.{ticks}
use Rattle.track.specs.Calls.{room_of, short_in, Preview, TrackOut, advanced_to, updated, track_step}
use Rattle.track.specs.Answers.{refused_where, ShowsBy}
use Rattle.track.proofs.Columns.{counted, based, own, roomy}
use Rattle.track.proofs.Replies.{ticks-rows}
use Rattle.track.proofs.Outcomes.{room-left, plays, ticks-on, rows_ruled, shows, shows-none}
use Rattle.player.specs.declared.engine.Player.{Player}
use Rattle.player.specs.Answered.{playing_in, ShowsInPlace}
use Rattle.player.specs.Loops.{Writes, first_in, SentIn}
use Rattle.player.proofs.Checks.{refused, passed, same_slices}

-- ---- a copy of the first n marks

first_part : (n : ℕ) (ss ds : List Float) (ms : List Bool) → first_of n ss ds (take n ms) ≡ first_of n ss ds ms
first_part zero ss ds ms = refl
first_part (suc n) [] ds ms = refl
first_part (suc n) (s ∷ ss) [] ms = refl
first_part (suc n) (s ∷ ss) (d ∷ ds) [] = refl
first_part (suc n) (s ∷ ss) (d ∷ ds) (m ∷ ms) = ap (λ (es : List Entry). entry_of s d m ∷ es) (first_part n ss ds ms)

-- the entries are those of the marks
pub first_same : (n : ℕ) (ss ds : List Float) (ms ms' : List Bool) → take n ms' ≡ take n ms → first_of n ss ds ms' ≡ first_of n ss ds ms
first_same n ss ds ms ms' e = sym (first_part n ss ds ms') ∙ ap (first_of n ss ds) e ∙ first_part n ss ds ms

-- a copy of the first n marks over the front of another list
pub front_copied : (n : ℕ) (ms xs rest : List Bool) → n ≤ length ms → xs ≡ take n ms → take n (xs ++ rest) ≡ take n ms
front_copied n ms xs rest h e = ap (λ (ys : List Bool). take n (ys ++ rest)) e ∙ take_at (take n ms) rest n (length-take-le n ms h)

-- the playhead that plays the first n entries alone
abbrev counted_at : Playhead → ℕ → Playhead
counted_at h n = record { count = n; clock = h.clock; looping = h.looping }

module _ (h : Playhead) (ss ds : List Float) (ms : List Bool) (n : ℕ) (all : n ≡ length (live (track_of h ss ds ms))) (ms' : List Bool) (e : take n ms' ≡ take n ms) where
  abbrev t : Track
  t = track_of h ss ds ms

  -- and so is the track
  pub copied : track_of (counted_at h n) ss ds ms' ≡ t
  unfolding track_of
  copied =
      let es = first_of (min h.count most_entries) ss ds ms in
      let most-own : min n most_entries ≡ n = omega (arith, (roomy h ss ds ms n all).3) in
      let same : first_of (min n most_entries) ss ds ms' ≡ es = ap (λ (m : ℕ). first_of m ss ds ms') most-own ∙ first_same n ss ds ms ms' e ∙ own h ss ds ms n all ∙ take-length es in
      rw same

  -- the rows of the update are shown
  pub shows_same : (dt : Float) {k₀ k : List ℕ} {a₀ a p₀ p : List Float} → short_in n (length k₀) (length a₀) (length p₀) ≡ false → Sent (updated (track_of (counted_at h n) ss ds ms') dt []).rows k₀ k a₀ a p₀ p
      → ShowsBy (track_step t (Preview dt (room_of k₀ a₀ p₀))) 0 k₀ k a₀ a p₀ p
  shows_same dt {k₀} {k} {a₀} {a} {p₀} {p} room s =
      shows t dt k₀ a₀ p₀ all room refl (subst (λ (q : Track). Sent (updated q dt []).rows k₀ k a₀ a p₀ p) copied s)

-- ---- what an update sends

-- rows of the first n entries, by what the update comes to
pub shown : (p : Player) {n : ℕ} → n ≡ length (live (playing_in p)) → (dt : Float) {o : TrackOut} → updated (playing_in p) dt [] ≡ o → (f : List Entry → List Row) → f (live (playing_in p)) ≡ o.rows
    → {r s : Rows} → SentIn (f (first_in n p.spans p.marks.now)) r s → SentIn (updated (playing_in p) dt []).rows r s
shown p {n} all dt eo f ef {r} {s} x =
    subst (λ (rs : List Row). SentIn rs r s) (ap f (own p.head p.spans.starts.now p.spans.durations.now p.marks.now n all) ∙ ef ∙ sym (ap (λ (o : TrackOut). o.rows) eo)) x

-- what both of `show`'s ways know: how the first n entries play, where the update comes to, and whether it goes on, and in Once
module _ (p : Player) {n : ℕ} (all : n ≡ length (live (playing_in p))) {run : Run} (er : (run.mode ≡ p.head.looping) × (run.base ≡ foldl max_f zero_f (first_ends n p.spans))) (dt : Float)
    {next : Float} (en : next ≡ next_elapsed p.head.clock dt) {to : Reach} (et : to ≡ reach_of run.mode run.base next) {on once : Bool} (eon : on ≡ advances p.head.clock run.base) (eo : once ≡ is_once run.mode) where
  abbrev playing : Track
  playing = playing_in p

  base-own : run.base ≡ track_base playing
  base-own = based p.head p.spans.starts.now p.spans.durations.now p.marks.now n all er.1

  reach-own : to ≡ reach_of p.head.looping run.base next
  reach-own = et ∙ ap (λ (m : Loop). reach_of m run.base next) er.0

  once-own : once ≡ is_once p.head.looping
  once-own = eo ∙ ap is_once er.0

  -- by a tick, whatever the replies
  pub shown-ticked : (on && once) ≡ true → {prev : Float} → prev ≡ min_f p.head.clock.elapsed run.base → (rs : List ℕ) → {r s : Rows} → SentIn (rows_of (ticks prev to.elapsed (first_in n p.spans p.marks.now) rs)) r s → SentIn (updated playing dt []).rows r s
  unfolding advanced_to track_of
  shown-ticked both {prev} ep rs x =
      let tests = and_parts on once both in
      let goes : advances p.head.clock run.base ≡ true = sym eon ∙ tests.0 in
      let rows = ticks-rows prev to.elapsed (live playing) rs [] ∙ ap (λ (y : Float). rows_of (ticks y to.elapsed (live playing) [])) ep in
      shown p all dt (plays playing dt [] base-own goes (ticks-on playing dt [] base-own goes en reach-own (sym once-own ∙ tests.1))) (λ (es : List Entry). rows_of (ticks prev to.elapsed es rs)) rows x

  -- by a rule
  pub shown-ruled : (on && once) ≡ false → {rule : Rule} → rule ≡ advance_rule (advances p.head.clock run.base) run.mode run.base to.elapsed → {r s : Rows} → SentIn (rows_of (map (ruled rule) (first_in n p.spans p.marks.now))) r s → SentIn (updated playing dt []).rows r s
  unfolding track_of
  shown-ruled off {rule} el x =
      let not-both : (on && is_once p.head.looping) ≡ false = ap (on &&◌) (sym once-own) ∙ off in
      let rule-own : rule ≡ advance_rule on p.head.looping run.base to.elapsed = rw (eon, ← er.0) el in
      shown p all dt refl (λ (es : List Entry). rows_of (map (ruled rule) es)) (sym (rows_ruled playing dt [] on base-own eon en reach-own not-both rule-own)) x

-- ---- `preview`: how many entries count, and whether the rows are too short for them

module _ (h : Playhead) (spans : Spans) (ms : List Bool) (r : Rows) (dt : Float) {n : ℕ} (en : n ≡ entries_in h.count (length spans.starts.now) (length spans.durations.now) (length ms))
    {y : Result Unit Refusal} (ey : y ≡ refused_where (short_in n (length r.kinds.now) (length r.amounts.now) (length r.places.now)) RowsTooShort) where
  abbrev lent : Track
  lent = track_of h spans.starts.now spans.durations.now ms

  counts : n ≡ length (live lent)
  counts = counted h spans.starts.now spans.durations.now ms en

  -- refused by 3
  pub preview-short : (e : Refusal) → y ≡ Err e → {x : Result Unit Refusal} → x ≡ Err e → ShowsInPlace h spans ms dt x r r
  preview-short e f ex =
      let w = refused RowsTooShort _ ey f in
      (same_slices r, rw (ex, w.1) (shows-none lent dt r.kinds.now r.amounts.now r.places.now counts w.0))

  -- or the update is shown, with the first n marks copied over the front of others
  module _ (fy : y ≡ Ok tt) where
    wide : short_in n (length r.kinds.now) (length r.amounts.now) (length r.places.now) ≡ false
    wide = passed RowsTooShort _ ey fy

    module _ {xs : List Bool} (ex : xs ≡ take n ms) (rest : List Bool) where
      abbrev copy : Track
      copy = track_of (counted_at h n) spans.starts.now spans.durations.now (xs ++ rest)

      same : take n (xs ++ rest) ≡ take n ms
      same = front_copied n ms xs rest (roomy h spans.starts.now spans.durations.now ms n counts).2 ex

      pub preview-room : (n ≡ length (live copy)) × Writes n r
      preview-room =
          (counts ∙ ap (λ (q : Track). length (live q)) (sym (copied h spans.starts.now spans.durations.now ms n counts _ same)), room-left n r.kinds.now r.amounts.now r.places.now wide)

      pub preview-shown : {s : Rows} → SentIn (updated copy dt []).rows r s → ShowsInPlace h spans ms dt (Ok tt) r s
      preview-shown x = (x.0, shows_same h spans.starts.now spans.durations.now ms n counts _ same dt wide x.1)
