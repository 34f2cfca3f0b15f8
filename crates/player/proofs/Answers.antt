-- `update` in place: what it comes to, of the player.
use Prim.Native.Nat.{ℕ, min}
use mathlib.Core.Path.{◌≡◌, refl, sym, ap, subst, ◌∙◌}
use mathlib.Core.Bool.{Bool, true, false, false≢true}
use mathlib.Core.List.{List, map}
use native.Mathlib.Omega.{arith}
use denote.MutBor.{MutBor}
use lib.Dec.{ltb}
use lib.ListN.{length, take, length-take}
use lib.Ieee.{Float}
use Rattle.std.proofs.lemmas.List.{take_all}
use Rattle.std.specs.Prelude.{Option, Some, None, Result, Ok, Err}
use Rattle.float32.specs.Helpers.{min_f}
use Rattle.refusal.specs.declared.Refusal.{Refusal}
use Rattle.refusal.specs.declared.Refusal.TheVariants.{ListTooShort}
use Rattle.tween.specs.LoopMode.{is_once}
use Rattle.tween.specs.declared.loop_mode.Loop.{Loop}
use Rattle.tween.specs.declared.loop_mode.Loop.TheVariants.{Once, Times, Forever, PingPong, PingPongTimes}
use Rattle.steps.specs.declared.Entry.{Entry}
use Rattle.steps.specs.declared.Rule.TheVariants.{Sync}
use Rattle.steps.specs.declared.Step.{Step}
use Rattle.steps.specs.declared.Stepped.{Stepped}
use Rattle.steps.specs.Rows.{ruled}
use Rattle.steps.specs.Slices.{over}
use Rattle.steps.specs.Times.{local_time}
use Rattle.completions.specs.declared.Spans.{Spans}
use Rattle.completions.specs.Answers.{Listed}
use Rattle.completions.specs.Columns.{most_entries, ends, first_ends, ends_in}
use Rattle.completions.specs.Completions.{completions_in, completions_between, empty_at_nan}
use Rattle.clock.specs.declared.Clock.{Clock}
use Rattle.clock.specs.declared.Reach.{Reach}
use Rattle.clock.specs.Clocks.{within, reach_of, advanced_clock}
use Rattle.track.specs.declared.rows.Rows.{Rows}
use Rattle.track.specs.declared.track.Track.{Track}
use Rattle.track.specs.Tracks.{live, track_base, rows_of, moved}
use Rattle.track.specs.Columns.{track_of, with_clock_at}
use Rattle.track.specs.Updates.{ticks, newly_done, Advance}
use Rattle.track.specs.Calls.{TrackOut, fitted, advanced_to}
use Rattle.track.specs.Answers.{SameSlices, Answer, reached_from, UpdatesBy}
use Rattle.track.proofs.Columns.{own, completed}
use Rattle.track.proofs.Outcomes.{outnumbered, finished, listed-within, listed-over}
use Rattle.track.specs.declared.track.Playhead.{Playhead}
use Rattle.player.specs.declared.engine.Player.{Player}
use Rattle.player.specs.declared.engine.Updated.{Updated}
use Rattle.player.specs.Answered.{playing_in, SameColumns, at_clock, answer_of, answer_in, ticked_to, synced_to, UpdatesTo}
use Rattle.player.specs.Loops.{first_in, ticks_in, done_in, SentIn, SentTo}
use Rattle.player.proofs.Checks.{same_slices, same_player}
use Rattle.player.proofs.Loops.{few, Left, left_own, left_of, applied, ticked-own}

-- in Once the run is the base
pub once_reach : (mode : Loop) (base next : Float) → is_once mode ≡ true → within base next ≡ reach_of mode base next
unfolding reach_of
once_reach Once base next e = refl
once_reach (Times n) base next e = absurd (false≢true e)
once_reach Forever base next e = absurd (false≢true e)
once_reach PingPong base next e = absurd (false≢true e)
once_reach (PingPongTimes n) base next e = absurd (false≢true e)

-- an answer, a track and a list that are those of the outcome
pub told : {o : TrackOut} {x x' : Answer} {t t' : Track} {l₀ l l' k₀ k : List ℕ} {a₀ a p₀ p : List Float} → x ≡ x' → t ≡ t' → l ≡ l' → UpdatesBy o x' t' l₀ l' k₀ k a₀ a p₀ p → UpdatesBy o x t l₀ l k₀ k a₀ a p₀ p
told ex et el u =
    record { answer = ex ∙ u.answer; track = et ∙ u.track; list = el ∙ u.list; rows = u.rows }

module _ (p : Player) where
  abbrev t : Track
  t = playing_in p

  -- the track's clock and mode are the playhead's
  pub clock-own : t.clock ≡ p.head.clock
  unfolding track_of
  clock-own = refl

  pub mode-own : t.looping ≡ p.head.looping
  unfolding track_of
  mode-own = refl

  -- marks that were sent first, and then another clock
  pub left-at : (m : MutBor (List Bool)) (c : Clock) {q : Player} → m.ghost_name ≡ p.marks.ghost_name → q ≡ at_clock (record { head = p.head; spans = p.spans; marks = m }) c → Left p q c
  left-at m c en e =
      record { head = ap (λ (x : Player). x.head) e; spans = ap (λ (x : Player). x.spans) e; marks = ap (λ (x : Player). x.marks.ghost_name) e ∙ en }

  pub sent-at : (m : MutBor (List Bool)) (c : Clock) {q : Player} (ss : List Stepped) {r s : Rows} → q ≡ at_clock (record { head = p.head; spans = p.spans; marks = m }) c → SentTo ss p.marks.now m.now r s → SentTo ss p.marks.now q.marks.now r s
  sent-at m c ss e x = (ap (λ (y : Player). y.marks.now) e ∙ x.0, x.1)

  module _ (v : Advance) {l₀ l : List ℕ} {r : Rows} where
    -- refused by 5: nothing has moved
    pub refused_over : {x : Result Updated Refusal} → x ≡ Err ListTooShort → ltb (length l₀) (length v.listed) ≡ true → l ≡ l₀ → UpdatesTo p v x p l₀ l r r
    refused_over ex f el =
        (same_player p, same_slices r, told (ap answer_in ex) refl el (outnumbered t l₀ r.kinds.now r.amounts.now r.places.now v f))

    -- carried out, by a player of whose spare marks nothing is known
    pub left_carried : {q : Player} {s : Rows} {to : Reach} {n : ℕ} {u : Updated} {c : Clock} → Left p q c → answer_of u ≡ reached_from p.head.clock to.ended n → to ≡ v.reach
        → ltb (length l₀) (length v.listed) ≡ false → n ≡ length v.listed → l ≡ over v.listed l₀ → (playing_in q ≡ moved t (advanced_clock p.head.clock to.elapsed to.ended) v.steps) × SentIn (rows_of v.steps) r s
        → Left p q q.head.clock × SameSlices r s × UpdatesBy (fitted (length l₀) t (advanced_to t v)) (answer_of u) (playing_in q) l₀ l r.kinds.now s.kinds.now r.amounts.now s.amounts.now r.places.now s.places.now
    left_carried {q} {s} {to} {n} {u} left ex et f en el sent =
        let answer = ex ∙ ap (λ (d : Clock). reached_from d to.ended n) (sym clock-own) in
        let track = sent.0 ∙ ap (λ (d : Clock). moved t (advanced_clock d to.elapsed to.ended) v.steps) (sym clock-own) in (
          left_own left,
          sent.1.0,
          told answer track refl (finished t l₀ r.kinds.now r.amounts.now r.places.now l s.kinds.now s.amounts.now s.places.now v (ap (λ (z : Reach). z.elapsed) et) (ap (λ (z : Reach). z.ended) et) f en el refl sent.1.1),
        )

    -- carried out
    pub carried : {q : Player} {s : Rows} {to : Reach} {n : ℕ} {u : Updated} → answer_of u ≡ reached_from p.head.clock to.ended n → to ≡ v.reach
        → ltb (length l₀) (length v.listed) ≡ false → n ≡ length v.listed → l ≡ over v.listed l₀ → SameColumns p q × (playing_in q ≡ moved t (advanced_clock p.head.clock to.elapsed to.ended) v.steps) × SentIn (rows_of v.steps) r s
        → UpdatesTo p v (Ok u) q l₀ l r s
    carried ex et f en el sent =
        let w = left_carried (left_of sent.0) ex et f en el (sent.1, sent.2) in
        (sent.0, w.1, w.2)

  module _ {n : ℕ} (all : n ≡ length (live t)) (base next : Float) where
    -- ---- a tick

    module _ (rs : List ℕ) (step : Step) (to : Reach) where
      abbrev course : List Entry → Advance
      course es = record { steps = ticks step.prev step.next es rs; listed = newly_done 0 es (ticks step.prev step.next es rs); reach = to }

      -- the course of the first n entries is that of the track
      all_own : course (first_in n p.spans p.marks.now) ≡ course (live t)
      all_own = ap course (own p.head p.spans.starts.now p.spans.durations.now p.marks.now n all)

      module _ (ep : step.prev ≡ min_f p.head.clock.elapsed base) (en : step.next ≡ to.elapsed) (et : to ≡ within base next) where
        course-own : course (live t) ≡ ticked_to t base next rs
        course-own = rw (ep, en, et, clock-own)

        pub tick-over : {l₀ : List ℕ} {r : Rows} → ltb (length l₀) (length (done_in n step p.spans p.marks.now rs)) ≡ true → UpdatesTo p (ticked_to t base next rs) (Err ListTooShort) p l₀ l₀ r r
        tick-over {l₀} f = refused_over (ticked_to t base next rs) refl (sym (ap (λ (v : Advance). ltb (length l₀) (length v.listed)) (all_own ∙ course-own)) ∙ f) refl

        pub tick-told : {q : Player} {r s : Rows} {l₀ l : List ℕ} {m : ℕ} {u : Updated} → Left p q (advanced_clock p.head.clock to.elapsed to.ended) → answer_of u ≡ reached_from p.head.clock to.ended m → ltb (length l₀) (length (done_in n step p.spans p.marks.now rs)) ≡ false
            → (m ≡ length (done_in n step p.spans p.marks.now rs)) × (l ≡ over (done_in n step p.spans p.marks.now rs) l₀) → SentTo (ticks_in n step p.spans p.marks.now rs) p.marks.now q.marks.now r s
            → UpdatesTo p (ticked_to t base next rs) (Ok u) q l₀ l r s
        tick-told {q} {r} {s} {l₀} {l} {m} {u} left ex f d sent =
            subst (λ (v : Advance). UpdatesTo p v (Ok u) q l₀ l r s) course-own
            (carried (course (live t)) ex refl (sym (ap (λ (v : Advance). ltb (length l₀) (length v.listed)) all_own) ∙ f) (d.0 ∙ ap (λ (v : Advance). length v.listed) all_own) (d.1 ∙ ap (λ (v : Advance). over v.listed l₀) all_own) (ticked-own p all left step rs sent))

    -- ---- the other modes

    -- the ends that are walked are the track's
    ends-own : (sp : Spans) → ends sp ≡ first_ends n p.spans → first_ends most_entries sp ≡ ends_in (min n most_entries) p.spans.starts.now p.spans.durations.now
    ends-own sp es =
        let most = few p all in
        let most-own : min n most_entries ≡ n = omega (arith, most) in
        ap (take most_entries) es ∙ take_all most_entries (first_ends n p.spans) (omega (arith, most, length-take n (ends p.spans))) ∙ rw most-own

    module _ (mode : Loop) (em : mode ≡ p.head.looping) (eb : base ≡ track_base t) (sp : Spans) (es : ends sp ≡ first_ends n p.spans) {l₀ l : List ℕ} {w : Option ℕ}
        (x : Listed (empty_at_nan p.head.clock.elapsed next (completions_in mode (first_ends most_entries sp) base p.head.clock.elapsed next)) l₀ l w) where
      -- what is listed are its completions
      listed-own : {w' : Option ℕ} → w ≡ w' → Listed (completions_between t.looping (live t) t.clock.elapsed next) l₀ l w'
      listed-own ew =
          let same = completed p.head p.spans.starts.now p.spans.durations.now p.marks.now n all p.head.looping p.head.clock.elapsed next eb in
          rw (mode-own, clock-own, ← ew, ← same, ← ends-own sp es) (rw em at x)

      pub sync-over : {r : Rows} {y : Result Updated Refusal} → w ≡ None → y ≡ Err ListTooShort → UpdatesTo p (synced_to t base next) y p l₀ l r r
      sync-over ew ey =
          let z = listed-over _ l₀ l (listed-own ew) in
          refused_over (synced_to t base next) ey z.0 z.1

      pub sync-told : {to : Reach} {time : Float} {m : ℕ} {q : Player} {r s : Rows} {u : Updated} → w ≡ Some m → to ≡ reach_of mode base next → time ≡ local_time mode base to.elapsed
          → Left p q (advanced_clock p.head.clock to.elapsed to.ended) → answer_of u ≡ reached_from p.head.clock to.ended m → SentTo (map (ruled (Sync time)) (first_in n p.spans p.marks.now)) p.marks.now q.marks.now r s
          → UpdatesTo p (synced_to t base next) (Ok u) q l₀ l r s
      sync-told {to} {time} {m} {q} {r} {s} {u} ew et ei left ex sent =
          let z = listed-within _ l₀ l m (listed-own ew) in
          let same : mode ≡ t.looping = em ∙ sym mode-own in
          let reached : to ≡ reach_of t.looping base next = et ∙ ap (λ (x : Loop). reach_of x base next) same in
          let there : time ≡ local_time t.looping base (reach_of t.looping base next).elapsed = ei ∙ ap (λ (x : Loop). local_time x base to.elapsed) same ∙ ap (λ (z : Reach). local_time t.looping base z.elapsed) reached in
          let put = applied p all left (Sync time) sent in
          carried (synced_to t base next) ex reached z.0 z.1 z.2 (rw there at put)

-- nothing has moved
pub same-track : (h : Playhead) (ss ds : List Float) (ms : List Bool) {c : Clock} → c ≡ h.clock → track_of (with_clock_at h c) ss ds ms ≡ track_of h ss ds ms
same-track h ss ds ms e = ap (λ (d : Clock). track_of (with_clock_at h d) ss ds ms) e
