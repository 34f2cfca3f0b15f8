-- `update` in place: refused by 3 or 4, at rest, or on one of its courses.
use Prim.Native.Nat.{ℕ, ◌≤◌}
use mathlib.Core.Path.{◌≡◌, refl, ap, ◌∙◌}
use mathlib.Core.Bool.{Bool, true, false}
use mathlib.Core.List.{List, map}
use lib.ListN.{length}
use lib.Ieee.{Float}
use Rattle.std.specs.Prelude.{Result, Ok, Err}
use Rattle.refusal.specs.declared.Refusal.{Refusal}
use Rattle.refusal.specs.declared.Refusal.TheVariants.{RowsTooShort, BadReplies}
use Rattle.tween.specs.LoopMode.{is_once}
use Rattle.steps.specs.declared.Rule.TheVariants.{Keep}
use Rattle.steps.specs.Rows.{ruled}
use Rattle.clock.specs.Clocks.{advances, stayed_clock, next_elapsed}
use Rattle.track.specs.declared.rows.Rows.{Rows}
use Rattle.track.specs.declared.track.Track.{Track}
use Rattle.track.specs.Tracks.{live, track_base}
use Rattle.track.specs.Columns.{entries_in, track_of}
use Rattle.track.specs.Updates.{replies_bad_in}
use Rattle.track.specs.Calls.{short_in, TrackOut, Update, fitted, updated, advanced_to, track_step}
use Rattle.track.specs.Answers.{Answer, refused_where, stayed_in, UpdatesBy}
use Rattle.track.proofs.Outcomes.{room-left, replies-left, rows_short, replies-bad, goes_on, stays, plays, ticks-on, syncs-on, stayed-on}
use Rattle.player.specs.declared.engine.Player.{Player}
use Rattle.player.specs.declared.engine.Updated.{Updated}
use Rattle.player.specs.Answered.{playing_in, room_in, answer_of, answer_in, ticked_to, synced_to, Updates, UpdatesTo, UpdatesInPlace}
use Rattle.player.specs.Loops.{Writes, first_in, SentTo}
use Rattle.player.proofs.Checks.{refused, passed, same_slices, same_player}
use Rattle.player.proofs.Moving.{all_own}
use Rattle.player.proofs.Loops.{Left, applied}
use Rattle.player.proofs.Answers.{once_reach, told}

-- what was checked before: n entries count, and whether the rows are too short for them, and the replies bad
module _ (p : Player) (r : Rows) (dt : Float) (rs l₀ : List ℕ) {n : ℕ} (en : n ≡ entries_in p.head.count (length p.spans.starts.now) (length p.spans.durations.now) (length p.marks.now))
    {y : Result Unit Refusal} (ey : y ≡ refused_where (short_in n (length r.kinds.now) (length r.amounts.now) (length r.places.now)) RowsTooShort) where
  abbrev t : Track
  t = playing_in p

  abbrev short : Bool
  short = short_in n (length r.kinds.now) (length r.amounts.now) (length r.places.now)

  all : n ≡ length (live t)
  all = all_own p en

  -- what is answered, and left of track, list and rows, whatever the columns
  abbrev Leaves : TrackOut → Answer → Track → List ℕ → List ℕ → List Float → List Float → Type 0
  Leaves o x q l kinds amounts places = UpdatesBy o x q l₀ l r.kinds.now kinds r.amounts.now amounts r.places.now places

  -- what the update comes to
  abbrev outcome : TrackOut
  outcome = track_step t (Update dt rs (length l₀) (room_in r))

  -- refused by 3
  pub update-short : (e : Refusal) → y ≡ Err e → {x : Result Updated Refusal} → x ≡ Err e → UpdatesInPlace p dt rs x p l₀ l₀ r r
  update-short e f ex =
      let w = refused RowsTooShort short ey f in
      (same_player p, same_slices r, told (ap answer_in (ex ∙ ap Err w.1)) refl refl (rows_short t dt rs l₀ r.kinds.now r.amounts.now r.places.now all w.0))

  module _ (fy : y ≡ Ok tt) {z : Result Unit Refusal} (ez : z ≡ refused_where (replies_bad_in n rs) BadReplies) where
    wide : short ≡ false
    wide = passed RowsTooShort short ey fy

    -- by 4
    pub update-bad : (e : Refusal) → z ≡ Err e → {x : Result Updated Refusal} → x ≡ Err e → UpdatesInPlace p dt rs x p l₀ l₀ r r
    update-bad e f ex =
        let w = refused BadReplies _ ez f in
        (same_player p, same_slices r, told (ap answer_in (ex ∙ ap Err w.1)) refl refl (replies-bad t dt rs l₀ r.kinds.now r.amounts.now r.places.now all wide w.0))

    module _ (fz : z ≡ Ok tt) where
      -- by neither: there is room
      pub update-room : (n ≡ length (live t)) × Writes n r × (n ≤ length rs)
      update-room =
          (all, room-left n r.kinds.now r.amounts.now r.places.now wide, replies-left n rs (passed BadReplies _ ez fz))

      module _ {o : TrackOut} (eo : updated t dt rs ≡ o) where
        leaves-on : {x : Answer} {q : Track} {l kinds : List ℕ} {amounts places : List Float} → Leaves (fitted (length l₀) t o) x q l kinds amounts places → Leaves outcome x q l kinds amounts places
        leaves-on = goes_on t dt rs l₀ r.kinds.now r.amounts.now r.places.now all wide (passed BadReplies _ ez fz) eo

        update-on : (x : Result Updated Refusal) {q : Player} {l : List ℕ} {s : Rows} → Updates (fitted (length l₀) t o) p x q l₀ l r s → UpdatesInPlace p dt rs x q l₀ l r s
        update-on x u = (u.0, u.1, leaves-on u.2)

      module _ {base : Float} (eb : base ≡ track_base t) where
        -- it does not go on
        pub update-stays : advances p.head.clock base ≡ false → {q : Player} {s : Rows} {u : Updated} → answer_of u ≡ stayed_in p.head.clock → Left p q (stayed_clock p.head.clock)
            → SentTo (map (ruled Keep) (first_in n p.spans p.marks.now)) p.marks.now q.marks.now r s → UpdatesInPlace p dt rs (Ok u) q l₀ l₀ r s
        unfolding track_of
        update-stays off {q} {s} {u} eu left sent =
            let w = applied p all left Keep sent in
            update-on (stays t dt rs eb off) (Ok u) (w.0, w.2.0, told eu refl refl (stayed-on t l₀ r.kinds.now r.amounts.now r.places.now l₀ s.kinds.now s.amounts.now s.places.now refl w.1 w.2.1))

        -- it ticks, or synchronises
        module _ (on : advances p.head.clock base ≡ true) {next : Float} (en' : next ≡ next_elapsed p.head.clock dt) where
          pub leaves-ticks : is_once p.head.looping ≡ true → {x : Answer} {q : Track} {l kinds : List ℕ} {amounts places : List Float}
              → Leaves (fitted (length l₀) t (advanced_to t (ticked_to t base next rs))) x q l kinds amounts places → Leaves outcome x q l kinds amounts places
          unfolding track_of
          leaves-ticks once = leaves-on (plays t dt rs eb on (ticks-on t dt rs eb on en' (once_reach p.head.looping base next once) once))

          pub leaves-syncs : is_once p.head.looping ≡ false → {x : Answer} {q : Track} {l kinds : List ℕ} {amounts places : List Float}
              → Leaves (fitted (length l₀) t (advanced_to t (synced_to t base next))) x q l kinds amounts places → Leaves outcome x q l kinds amounts places
          unfolding track_of
          leaves-syncs loops = leaves-on (plays t dt rs eb on (syncs-on t dt rs eb on en' refl loops refl))

          module _ (x : Result Updated Refusal) {q : Player} {l : List ℕ} {s : Rows} where
            pub update-ticks : is_once p.head.looping ≡ true → UpdatesTo p (ticked_to t base next rs) x q l₀ l r s → UpdatesInPlace p dt rs x q l₀ l r s
            update-ticks once u = (u.0, u.1, leaves-ticks once u.2)

            pub update-syncs : is_once p.head.looping ≡ false → UpdatesTo p (synced_to t base next) x q l₀ l r s → UpdatesInPlace p dt rs x q l₀ l r s
            update-syncs loops u = (u.0, u.1, leaves-syncs loops u.2)
