-- What a call comes to, by its tests: refused, sent by a rule, at rest, or advanced. The laws that the engine cites.
use Prim.Native.Nat.{ℕ, ◌≤◌}
use mathlib.Core.Path.{◌≡◌, refl, sym, ap, subst, ◌∙◌}
use mathlib.Core.Bool.{Bool, true, false, not, cond, ◌&&◌, ◌||◌}
use mathlib.Core.List.{List, [], map}
use native.Mathlib.Omega.{arith}
use borrow.Author.Tests.{not-true, not-false, ltb-false, leb-true, leb-false, lt-ltb, le-ltb}
use lib.Dec.{ltb}
use lib.ListN.{length, take}
use lib.Ieee.{Float, eq}
use Rattle.std.proofs.lemmas.Bool.{or_parts, and_parts}
use Rattle.float32.specs.Helpers.{zero_f, min_f}
use Rattle.refusal.specs.Refusal.{accepted, list_too_short}
use Rattle.tween.specs.LoopMode.{is_once}
use Rattle.steps.specs.declared.Rule.{Rule}
use Rattle.steps.specs.declared.Rule.TheVariants.{Keep, Clear, Sync}
use Rattle.steps.specs.Rows.{ruled}
use Rattle.steps.specs.Slices.{over}
use Rattle.steps.specs.Times.{run_of, local_time}
use Rattle.completions.specs.Completions.{completions_between}
use Rattle.completions.specs.Answers.{room_for, Listed}
use Rattle.std.specs.Prelude.{Some, None}
use Rattle.clock.specs.declared.Clock.{Clock}
use Rattle.clock.specs.declared.Reach.{Reach}
use Rattle.clock.specs.Clocks.{is_playing, cleared, played, play_rule, seek_to, share_in, sought, advances, advance_rule, next_elapsed, reach_of, advanced_clock, stayed_clock}
use Rattle.track.specs.declared.track.Track.{Track}
use Rattle.track.specs.Tracks.{live, track_base, rows_of, moved, Sent}
use Rattle.track.specs.Updates.{above_one, replies_bad_in, ticks, newly_done, Advance, advanced, ended_at, playing}
use Rattle.track.specs.Calls.{Room, room_of, short_in, Play, Reset, Seek, SeekAbs, Update, Preview, TrackOut, sent, sought_to, rested, advanced_to, updated, fitted, updated_with, previewed, track_step}
use Rattle.track.specs.Answers.{Answer, refused_by, reached_from, stayed_in, MovesBy, UpdatesBy, ShowsBy}

-- ---- tests

-- the three slices have room
pub room-left : (n : ℕ) (k : List ℕ) (a p : List Float) → short_in n (length k) (length a) (length p) ≡ false → (n ≤ length k) × (n ≤ length a) × (n ≤ length p)
room-left n k a p e =
    let x = or_parts (ltb (length k) n) (ltb (length a) n || ltb (length p) n) e in
    let y = or_parts (ltb (length a) n) (ltb (length p) n) x.1 in
    (ltb-false (length k) n x.0, ltb-false (length a) n y.0, ltb-false (length p) n y.1)

-- there is a reply for each entry
pub replies-left : (n : ℕ) (rs : List ℕ) → replies_bad_in n rs ≡ false → n ≤ length rs
replies-left n rs e = ltb-false (length rs) n (or_parts (ltb (length rs) n) (above_one (take n rs)) e).0

-- a refused call writes nothing
nothing_sent : (k : List ℕ) (a p : List Float) → Sent [] k k a a p p
nothing_sent k a p = record { kinds = refl; amounts = refl; places = refl }

-- ---- play, reset and the seeks

module _ (t : Track) (c : Clock) (rule : Rule) (k : List ℕ) (a p : List Float) {n : ℕ} (en : n ≡ length (live t)) where
  abbrev room : Room
  room = room_of k a p

  -- refused by 3
  pub moves-short : (o : TrackOut) → sent t c rule room ≡ o → short_in n (length k) (length a) (length p) ≡ true → MovesBy o 3 t k k a a p p
  unfolding sent
  moves-short o eo h =
      subst (λ (x : TrackOut). MovesBy x 3 t k k a a p p) eo
      (rw (rw en at h) (record { refusal = refl; track = refl; rows = nothing_sent k a p }))

  -- every entry has its row and its mark
  pub moves-sent : (o : TrackOut) → sent t c rule room ≡ o → short_in n (length k) (length a) (length p) ≡ false
      → (q : Track) (k' : List ℕ) (a' p' : List Float) → q ≡ moved t c (map (ruled rule) (live t)) → Sent (rows_of (map (ruled rule) (live t))) k k' a a' p p' → MovesBy o 0 q k k' a a' p p'
  unfolding sent
  moves-sent o eo h q k' a' p' em rows =
      subst (λ (x : TrackOut). MovesBy x 0 q k k' a a' p p') eo
      (rw (rw en at h) (record { refusal = refl; track = em; rows = rows }))

-- what each of them sends
module _ (t : Track) (r : Room) {c : Clock} {base : Float} (eb : base ≡ track_base t) where
  pub play-sent : {rule : Rule} → c ≡ played t.clock base → rule ≡ play_rule t.looping t.clock base → sent t c rule r ≡ track_step t (Play r)
  unfolding track_step
  play-sent ec er = rw (ec, er, eb)

  pub abs-sent : (secs : Float) {total elapsed time : Float} → total ≡ run_of t.looping base → elapsed ≡ seek_to total secs → time ≡ local_time t.looping base elapsed → c ≡ sought t.clock total elapsed
      → sent t c (Sync time) r ≡ track_step t (SeekAbs secs r)
  unfolding track_step sought_to
  abs-sent secs er ee et ec = rw (ec, et, ee, er, eb)

  -- a share of the run is a second of it
  pub share-sent : (share : Float) {secs total elapsed time : Float} → total ≡ run_of t.looping base → secs ≡ share_in base total share → elapsed ≡ seek_to total secs → time ≡ local_time t.looping base elapsed → c ≡ sought t.clock total elapsed
      → sent t c (Sync time) r ≡ track_step t (Seek share r)
  unfolding track_step sought_to
  share-sent share er es ee et ec = rw (ec, et, ee, es, er, eb)

pub reset_sent : (t : Track) (r : Room) {c : Clock} → c ≡ cleared t.clock → sent t c Clear r ≡ track_step t (Reset r)
unfolding track_step
reset_sent t r ec = rw ec

-- ---- an update, by the state, the base and the mode

-- what an update comes to that does not go on
abbrev pub stayed : Track → TrackOut
stayed t = cond (is_playing t.clock.state) (advanced_to t (ended_at (live t) t.clock.elapsed)) (rested t)

-- it sends nothing
pub stayed_rows : (t : Track) → rows_of (map (ruled Keep) (live t)) ≡ (stayed t).rows
unfolding advanced_to rested
stayed_rows t = go (is_playing t.clock.state)
  where
    go : (b : Bool) → rows_of (map (ruled Keep) (live t)) ≡ (cond b (advanced_to t (ended_at (live t) t.clock.elapsed)) (rested t)).rows
    go true = refl
    go false = refl

module _ (t : Track) (dt : Float) (rs : List ℕ) where
  module _ {base : Float} (eb : base ≡ track_base t) where
    pub stays : advances t.clock base ≡ false → updated t dt rs ≡ stayed t
    unfolding updated playing advances
    stays h = go (is_playing t.clock.state) refl
      where
        go : (b : Bool) → is_playing t.clock.state ≡ b → cond b (advanced_to t (playing t dt rs)) (rested t) ≡ cond b (advanced_to t (ended_at (live t) t.clock.elapsed)) (rested t)
        go true p =
            let none : eq base zero_f ≡ true = not-false (eq base zero_f) (rw p at h) in
            rw (rw eb at none)
        go false p = refl

    pub plays : advances t.clock base ≡ true → {a : Advance} → playing t dt rs ≡ a → updated t dt rs ≡ advanced_to t a
    unfolding updated advances
    plays h ea = rw ((and_parts (is_playing t.clock.state) (not (eq base zero_f)) h).0, ea)

    module _ {next : Float} {to : Reach} (h : advances t.clock base ≡ true) (en : next ≡ next_elapsed t.clock dt) (et : to ≡ reach_of t.looping base next) where
      -- the base is not 0
      e : eq base zero_f ≡ false
      unfolding advances
      e = not-true (eq base zero_f) (and_parts (is_playing t.clock.state) (not (eq base zero_f)) h).1

      -- Once ticks
      pub ticks-on : is_once t.looping ≡ true → playing t dt rs ≡ record { steps = ticks (min_f t.clock.elapsed base) to.elapsed (live t) rs; listed = newly_done 0 (live t) (ticks (min_f t.clock.elapsed base) to.elapsed (live t) rs); reach = to }
      unfolding playing advanced
      ticks-on o = rw (et, en, eb, rw eb at e, o)

      -- the other modes synchronise
      pub syncs-on : {time : Float} → is_once t.looping ≡ false → time ≡ local_time t.looping base to.elapsed → playing t dt rs ≡ record { steps = map (ruled (Sync time)) (live t); listed = completions_between t.looping (live t) t.clock.elapsed next; reach = to }
      unfolding playing advanced
      syncs-on o es = rw (es, et, en, eb, rw eb at e, o)

-- its rows outside a tick: what the rule sends
pub rows_ruled : (t : Track) (dt : Float) (rs : List ℕ) (on : Bool) {base next : Float} {to : Reach} {rule : Rule} → base ≡ track_base t → on ≡ advances t.clock base → next ≡ next_elapsed t.clock dt → to ≡ reach_of t.looping base next
    → (on && is_once t.looping) ≡ false → rule ≡ advance_rule on t.looping base to.elapsed → (updated t dt rs).rows ≡ rows_of (map (ruled rule) (live t))
unfolding advance_rule advanced_to
rows_ruled t dt rs true eb eo en et off er =
    ap (λ (o : TrackOut). o.rows) (plays t dt rs eb (sym eo) (syncs-on t dt rs eb (sym eo) en et off refl)) ∙ ap (λ (r : Rule). rows_of (map (ruled r) (live t))) (sym er)
rows_ruled t dt rs false eb eo en et off er =
    ap (λ (o : TrackOut). o.rows) (stays t dt rs eb (sym eo)) ∙ sym (stayed_rows t) ∙ ap (λ (r : Rule). rows_of (map (ruled r) (live t))) (sym er)

-- ---- what it answers

module _ (t : Track) (l₀ k₀ : List ℕ) (a₀ p₀ : List Float) where
  -- 5: the completions outnumber the list
  pub outnumbered : (a : Advance) → ltb (length l₀) (length a.listed) ≡ true → UpdatesBy (fitted (length l₀) t (advanced_to t a)) (refused_by 5) t l₀ l₀ k₀ k₀ a₀ a₀ p₀ p₀
  unfolding advanced_to
  outnumbered a h = rw h (record { answer = refl; track = refl; list = refl; rows = nothing_sent k₀ a₀ p₀ })

  module _ (l k : List ℕ) (a p : List Float) where
    -- the steps are sent, and the completions fit
    pub finished : (v : Advance) {q : Track} {n : ℕ} {elapsed : Float} {ended : Bool} → elapsed ≡ v.reach.elapsed → ended ≡ v.reach.ended → ltb (length l₀) (length v.listed) ≡ false
        → n ≡ length v.listed → l ≡ over v.listed l₀ → q ≡ moved t (advanced_clock t.clock elapsed ended) v.steps → Sent (rows_of v.steps) k₀ k a₀ a p₀ p
        → UpdatesBy (fitted (length l₀) t (advanced_to t v)) (reached_from t.clock ended n) q l₀ l k₀ k a₀ a p₀ p
    unfolding advanced_to
    finished v ee ed h en el em rows = rw (h, ed, en) (record { answer = refl; track = rw (ee, ed) at em; list = el; rows = rows })

    -- nothing is sent
    pub stayed-on : {q : Track} {c : Clock} → c ≡ stayed_clock t.clock → q ≡ moved t c (map (ruled Keep) (live t)) → Sent (rows_of (map (ruled Keep) (live t))) k₀ k a₀ a p₀ p
        → UpdatesBy (fitted (length l₀) t (stayed t)) (stayed_in t.clock) q l₀ l₀ k₀ k a₀ a p₀ p
    unfolding advanced_to rested stayed_clock
    stayed-on {q} {c} ec em rows = go (is_playing t.clock.state) refl
      where
        fits : ltb (length l₀) 0 ≡ false
        fits = le-ltb (length l₀) 0 (omega arith)

        go : (b : Bool) → is_playing t.clock.state ≡ b → UpdatesBy (fitted (length l₀) t (stayed t)) (stayed_in t.clock) q l₀ l₀ k₀ k a₀ a p₀ p
        go true p = rw (p, fits) (record { answer = refl; track = rw (ec, p) at em; list = refl; rows = rows })
        go false p = rw (p, fits) (record { answer = refl; track = rw (ec, p) at em; list = refl; rows = rows })

-- ---- the whole update

module _ (t : Track) (dt : Float) (rs l₀ k₀ : List ℕ) (a₀ p₀ : List Float) {n : ℕ} (en : n ≡ length (live t)) where
  abbrev out : TrackOut
  out = track_step t (Update dt rs (length l₀) (room_of k₀ a₀ p₀))

  -- refused by 3
  pub rows_short : short_in n (length k₀) (length a₀) (length p₀) ≡ true → UpdatesBy out (refused_by 3) t l₀ l₀ k₀ k₀ a₀ a₀ p₀ p₀
  unfolding track_step updated_with
  rows_short h = rw (rw en at h) (record { answer = refl; track = refl; list = refl; rows = nothing_sent k₀ a₀ p₀ })

  module _ (s : short_in n (length k₀) (length a₀) (length p₀) ≡ false) where
    -- by 4
    pub replies-bad : replies_bad_in n rs ≡ true → UpdatesBy out (refused_by 4) t l₀ l₀ k₀ k₀ a₀ a₀ p₀ p₀
    unfolding track_step updated_with
    replies-bad h = rw (rw en at s, rw en at h) (record { answer = refl; track = refl; list = refl; rows = nothing_sent k₀ a₀ p₀ })

    -- by neither
    pub goes_on : replies_bad_in n rs ≡ false → {o : TrackOut} → updated t dt rs ≡ o → {x : Answer} {q : Track} {l k : List ℕ} {a p : List Float} → UpdatesBy (fitted (length l₀) t o) x q l₀ l k₀ k a₀ a p₀ p → UpdatesBy out x q l₀ l k₀ k a₀ a p₀ p
    unfolding track_step updated_with
    goes_on h eo u = rw (rw en at s, rw en at h, eo) u

-- ---- the preview

module _ (t : Track) (dt : Float) (k₀ : List ℕ) (a₀ p₀ : List Float) {n : ℕ} (en : n ≡ length (live t)) where
  abbrev shown : TrackOut
  shown = track_step t (Preview dt (room_of k₀ a₀ p₀))

  pub shows-none : short_in n (length k₀) (length a₀) (length p₀) ≡ true → ShowsBy shown 3 k₀ k₀ a₀ a₀ p₀ p₀
  unfolding track_step previewed
  shows-none h = rw (rw en at h) (record { refusal = refl; rows = nothing_sent k₀ a₀ p₀ })

  -- the rows of an update, with any replies
  pub shows : short_in n (length k₀) (length a₀) (length p₀) ≡ false → {o : TrackOut} → updated t dt [] ≡ o → {k : List ℕ} {a p : List Float} → Sent o.rows k₀ k a₀ a p₀ p → ShowsBy shown 0 k₀ k a₀ a p₀ p
  unfolding track_step previewed
  shows h eo rows = rw (rw en at h, eo) (record { refusal = refl; rows = rows })

-- ---- the completions, as the walk answers

module _ (xs old new : List ℕ) where
  pub listed-within : (n : ℕ) → Listed xs old new (Some n) → (ltb (length old) (length xs) ≡ false) × (n ≡ length xs) × (new ≡ over xs old)
  listed-within n w = go (room_for xs old) refl w.refusal w.count w.list
    where
      go : (b : Bool) → room_for xs old ≡ b → accepted ≡ cond b accepted list_too_short → n ≡ cond b (length xs) 0 → new ≡ cond b (over xs old) old → (ltb (length old) (length xs) ≡ false) × (n ≡ length xs) × (new ≡ over xs old)
      go true p e c l = (le-ltb (length old) (length xs) (leb-true (length xs) (length old) p), c, l)
      go false p e c l = let f : ⊥ = omega arith in absurd f

  pub listed-over : Listed xs old new None → (ltb (length old) (length xs) ≡ true) × (new ≡ old)
  listed-over w = go (room_for xs old) refl w.refusal w.list
    where
      go : (b : Bool) → room_for xs old ≡ b → list_too_short ≡ cond b accepted list_too_short → new ≡ cond b (over xs old) old → (ltb (length old) (length xs) ≡ true) × (new ≡ old)
      go true p e l = let f : ⊥ = omega arith in absurd f
      go false p e l = (lt-ltb (length old) (length xs) (leb-false (length xs) (length old) p), l)
