-- The calls of a script, made in place on what plays.
use Prim.Native.Nat.{ℕ, ◌≤◌}
use mathlib.Core.Path.{◌≡◌, refl, sym, ap, ◌∙◌}
use mathlib.Core.Bool.{Bool, true, false, cond}
use mathlib.Core.List.{List, [], map}
use native.Mathlib.Omega.{arith}
use borrow.Author.Tests.{ne_eqb, ltb-false}
use lib.Dec.{eqb, ltb}
use lib.Ieee.{Float, eq}
use lib.ListN.{length, drop, length-map}
use Rattle.std.proofs.lemmas.Bool.{or_parts}
use Rattle.float32.specs.Helpers.{zero_f, min_f}
use Rattle.tween.specs.LoopMode.{is_once}
use Rattle.steps.specs.declared.Rule.{Rule}
use Rattle.steps.specs.declared.Rule.TheVariants.{Keep, Sync}
use Rattle.steps.specs.declared.Stepped.{Stepped}
use Rattle.steps.specs.Rows.{ruled}
use Rattle.steps.specs.Times.{local_time}
use Rattle.std.specs.Prelude.{Result, Ok, Err}
use Rattle.refusal.specs.declared.Refusal.{Refusal}
use Rattle.refusal.specs.Refusal.{number_in, held_or}
use Rattle.clock.specs.declared.Clock.{Clock}
use Rattle.clock.specs.Clocks.{is_playing, next_elapsed, reach_of}
use Rattle.track.specs.declared.rows.Rows.{Rows}
use Rattle.track.specs.declared.track.Track.{Track}
use Rattle.track.specs.declared.track.Playhead.{Playhead}
use Rattle.track.specs.Tracks.{live, track_base, rows_of}
use Rattle.track.specs.Updates.{Advance, replies_bad, ticks, advanced, ended_at, playing}
use Rattle.track.specs.Calls.{Room, TrackOut, short, refused_if, fitted, updated, updated_with, sent, sought_to, rested, advanced_to, track_silent, track_step, SetTimeScale, Play, Pause, Resume, Reset, Seek, SeekAbs}
use Rattle.track.specs.Answers.{SameSlices, Answer, MovesBy, UpdatesBy}
use Rattle.track.proofs.Ticks.{length-ticks}
use Rattle.player.specs.declared.engine.Player.{Player}
use Rattle.player.specs.declared.engine.Updated.{Updated}
use Rattle.player.specs.Answered.{playing_in, SameColumns, answer_in, Updates}
use Rattle.player.proofs.Checks.{same_slices}
use Rattle.player.proofs.Loops.{Left, left_own, same_columns}
use Rattle.script.specs.Scripts.{outcome_in, MadeBy}

-- what holds on either side of a test
either : {A : Type 0} (P : A → Type 0) (b : Bool) (x y : A) → P x → P y → P (cond b x y)
either P true x y h k = h
either P false x y h k = k

-- a call by a rule lists nothing
pub sent-quiet : (k : Track) (c : Clock) (rule : Rule) (r : Room) → (sent k c rule r).listed ≡ []
unfolding sent
sent-quiet k c rule r = either (λ (o : TrackOut). o.listed ≡ []) (short r k) _ _ refl refl

module _ (t : Track) (r : Room) where
  pub play-quiet : (track_step t (Play r)).listed ≡ []
  unfolding track_step
  play-quiet = sent-quiet _ _ _ _

  pub reset-quiet : (track_step t (Reset r)).listed ≡ []
  unfolding track_step
  reset-quiet = sent-quiet _ _ _ _

  pub seek-quiet : (x : Float) → (track_step t (Seek x r)).listed ≡ []
  unfolding track_step sought_to
  seek-quiet x = sent-quiet _ _ _ _

  pub seek-abs-quiet : (x : Float) → (track_step t (SeekAbs x r)).listed ≡ []
  unfolding track_step sought_to
  seek-abs-quiet x = sent-quiet _ _ _ _

-- the calls that set something
module _ (t : Track) where
  pub pause-set : track_step t Pause ≡ track_silent 0 (track_step t Pause).track
  unfolding track_step
  pause-set = refl

  pub resume-set : track_step t Resume ≡ track_silent 0 (track_step t Resume).track
  unfolding track_step
  resume-set = refl

  pub scale-set : (x : Float) → track_step t (SetTimeScale x) ≡ track_silent 0 (track_step t (SetTimeScale x)).track
  unfolding track_step
  scale-set x = refl

-- ---- the answers, as calls in place leave them

-- `make` answers x where a call that lists nothing answered y: both are refused, or neither
abbrev Likewise : Result ℕ Refusal → Result Unit Refusal → Type 0
Likewise x y = (number_in x ≡ number_in y) × (held_or 0 x ≡ 0)

pub both-refused : {x : Result ℕ Refusal} {y : Result Unit Refusal} (e : Refusal) → x ≡ Err e → y ≡ Err e → Likewise x y
both-refused e ex ey = rw (ex, ey) (refl, refl)

pub both-accepted : {y : Result Unit Refusal} → y ≡ Ok tt → Likewise (Ok 0) y
both-accepted ey = rw ey (refl, refl)

-- and where an update did
abbrev Counts : Result ℕ Refusal → Result Updated Refusal → Type 0
Counts x y = (number_in x ≡ (answer_in y).refusal) × (held_or 0 x ≡ (answer_in y).listed)

pub update-refused : {x : Result ℕ Refusal} {y : Result Updated Refusal} (e : Refusal) → x ≡ Err e → y ≡ Err e → Counts x y
update-refused e ex ey = rw (ex, ey) (refl, refl)

pub update-accepted : {y : Result Updated Refusal} {u : Updated} → y ≡ Ok u → Counts (Ok u.listed) y
update-accepted ey = rw ey (refl, refl)

-- the track of the player with another playhead
abbrev pub playing_at : Player → Playhead → Track
playing_at p h = playing_in (record { head = h; spans = p.spans; marks = p.marks })

-- what was answered and left of track, list and rows, whatever the columns
module _ {o : TrackOut} {x : Result ℕ Refusal} {t : Track} {k₀ k : List ℕ} {a₀ a p₀ p : List Float} where
  -- by a call that moved what plays, and lists nothing
  pub moved-by : (l : List ℕ) (y : Result Unit Refusal) → o.listed ≡ [] → Likewise x y → MovesBy o (number_in y) t k₀ k a₀ a p₀ p → MadeBy o x t l l k₀ k a₀ a p₀ p
  moved-by l y quiet e m =
      record { refusal = e.0 ∙ m.refusal; listed = e.1 ∙ sym (ap length quiet); track = m.track; list = rw quiet; rows = m.rows }

  -- by an update
  pub updated-by : {l₀ l : List ℕ} (y : Result Updated Refusal) → Counts x y → UpdatesBy o (answer_in y) t l₀ l k₀ k a₀ a p₀ p → MadeBy o x t l₀ l k₀ k a₀ a p₀ p
  updated-by y e u =
      record { refusal = e.0 ∙ ap (λ (z : Answer). z.refusal) u.answer; listed = e.1 ∙ ap (λ (z : Answer). z.listed) u.answer; track = u.track; list = u.list; rows = u.rows }

module _ (p : Player) (r : Rows) where
  abbrev Made : TrackOut → Result ℕ Refusal → Player → List ℕ → List ℕ → Rows → Type 0
  Made o x q l₀ l s = SameColumns p q × SameSlices r s × MadeBy o x (playing_in q) l₀ l r.kinds.now s.kinds.now r.amounts.now s.amounts.now r.places.now s.places.now

  -- a call that moved what plays, and lists nothing
  pub made-moved : (l : List ℕ) {o : TrackOut} {x : Result ℕ Refusal} {q : Player} {s : Rows} (y : Result Unit Refusal) → o.listed ≡ [] → Likewise x y
      → SameColumns p q × SameSlices r s × MovesBy o (number_in y) (playing_in q) r.kinds.now s.kinds.now r.amounts.now s.amounts.now r.places.now s.places.now → Made o x q l l s
  made-moved l y quiet e m = (m.0, m.1, moved-by l y quiet e m.2)

  -- an update
  pub made-updated : {l₀ l : List ℕ} {o : TrackOut} {x : Result ℕ Refusal} {q : Player} {s : Rows} (y : Result Updated Refusal) → Counts x y → Updates o p y q l₀ l r s → Made o x q l₀ l s
  made-updated y e u = (u.0, u.1, updated-by y e u.2)

  -- a call that set the clock, or did nothing
  pub left-silent : (l : List ℕ) {k : Track} {x : Result ℕ Refusal} {q : Player} {c : Clock} → Left p q c → held_or 0 x ≡ 0 → playing_in q ≡ k
      → Left p q q.head.clock × SameSlices r r × MadeBy (track_silent (number_in x) k) x (playing_in q) l l r.kinds.now r.kinds.now r.amounts.now r.amounts.now r.places.now r.places.now
  left-silent l left e track =
      (left_own left, same_slices r, record { refusal = refl; listed = e; track = track; list = refl; rows = record { kinds = refl; amounts = refl; places = refl } })

  -- and set no mark
  pub made-silent : (l : List ℕ) {k : Track} {x : Result ℕ Refusal} {q : Player} {c : Clock} → Left p q c → q.marks.now ≡ p.marks.now → held_or 0 x ≡ 0 → playing_in q ≡ k → Made (track_silent (number_in x) k) x q l l r
  made-silent l left own e track =
      let w = left-silent l left e track in
      (same_columns left (ap length own) (ap (drop (length (live (playing_in p)))) own), w.1, w.2)

-- ---- which call a byte makes

module _ (replies : List ℕ) (capacity : ℕ) (r : Room) (t : Track) (byte : ℕ) (x : Float) where
  -- a byte that is no call
  pub outcome-unknown : 8 ≤ byte → outcome_in replies capacity r t byte x ≡ track_silent 14 t
  unfolding outcome_in
  outcome-unknown h =
      rw (ne_eqb byte 0 (λ e. omega arith), ne_eqb byte 1 (λ e. omega arith), ne_eqb byte 2 (λ e. omega arith), ne_eqb byte 3 (λ e. omega arith), ne_eqb byte 4 (λ e. omega arith), ne_eqb byte 5 (λ e. omega arith), ne_eqb byte 6 (λ e. omega arith), ne_eqb byte 7 (λ e. omega arith))

  -- ---- how much is listed

  abbrev Lists : TrackOut → Type 0
  Lists o = length o.listed ≤ capacity

  few-sent : (c : Clock) (rule : Rule) → Lists (sent t c rule r)
  few-sent c rule = omega (arith, ap length (sent-quiet t c rule r))

  -- 5 refuses more
  few-fitted : (b : Bool) (o : TrackOut) → ltb capacity (length o.listed) ≡ b → length (refused_if b 5 t o).listed ≤ capacity
  few-fitted true o e = omega arith
  few-fitted false o e = ltb-false _ _ e

  pub few-listed : Lists (outcome_in replies capacity r t byte x)
  unfolding outcome_in track_step sought_to updated_with
  few-listed =
      either Lists (eqb byte 0) _ _ (few-sent _ _)
      (either Lists (eqb byte 1) _ _ (omega arith)
      (either Lists (eqb byte 2) _ _ (omega arith)
      (either Lists (eqb byte 3) _ _ (few-sent _ _)
      (either Lists (eqb byte 4) _ _ (either Lists (short r t) _ _ (omega arith) (either Lists (replies_bad replies t) _ _ (omega arith) (few-fitted _ (updated t x replies) refl)))
      (either Lists (eqb byte 5) _ _ (few-sent _ _)
      (either Lists (eqb byte 6) _ _ (few-sent _ _)
      (either Lists (eqb byte 7) _ (track_silent 14 t) (omega arith) (omega arith))))))))

-- ---- how many rows are sent

module _ (t : Track) (r : Room) where
  abbrev Few : TrackOut → Type 0
  Few o = length o.rows ≤ r.kinds

  refused-few : (b : Bool) (n : ℕ) (o : TrackOut) → (b ≡ false → Few o) → Few (refused_if b n t o)
  refused-few true n o h = omega arith
  refused-few false n o h = h refl

  -- as many as there are entries, which have room
  entries-few : (ss : List Stepped) → length ss ≡ length (live t) → short r t ≡ false → length (rows_of ss) ≤ r.kinds
  entries-few ss e h =
      let room : ltb r.kinds (length (live t)) ≡ false = (or_parts _ _ h).0 in
      omega (arith, e, length-map ss (λ (s : Stepped). s.row), ltb-false _ _ room)

  ruled-few : (rule : Rule) → short r t ≡ false → length (rows_of (map (ruled rule) (live t))) ≤ r.kinds
  ruled-few rule h = entries-few (map (ruled rule) (live t)) (length-map (live t) (ruled rule)) h

  sent-few : (c : Clock) (rule : Rule) → Few (sent t c rule r)
  unfolding sent
  sent-few c rule = refused-few (short r t) 3 _ (ruled-few rule)

  -- an update that plays has a step for each entry
  playing-long : (x : Float) (rs : List ℕ) → length (playing t x rs).steps ≡ length (live t)
  unfolding playing advanced
  playing-long x rs =
      let base = track_base t in
      let next = next_elapsed t.clock x in
      let to = reach_of t.looping base next in
      let from = min_f t.clock.elapsed base in
      let sync = ruled (Sync (local_time t.looping base to.elapsed)) in
      either (λ (a : Advance). length a.steps ≡ length (live t)) (eq base zero_f) (ended_at (live t) t.clock.elapsed) (advanced t.looping (live t) base t.clock.elapsed next rs) (length-map (live t) (ruled Keep))
      (either (λ (ss : List Stepped). length ss ≡ length (live t)) (is_once t.looping) (ticks from to.elapsed (live t) rs) (map sync (live t)) (length-ticks from to.elapsed (live t) rs) (length-map (live t) sync))

  updated-few : (x : Float) (rs : List ℕ) → short r t ≡ false → Few (updated t x rs)
  unfolding updated advanced_to rested
  updated-few x rs h = either Few (is_playing t.clock.state) (advanced_to t (playing t x rs)) (rested t) (entries-few (playing t x rs).steps (playing-long x rs) h) (ruled-few Keep h)

module _ (replies : List ℕ) (capacity : ℕ) (r : Room) (t : Track) (byte : ℕ) (x : Float) where
  pub few-rows : length (outcome_in replies capacity r t byte x).rows ≤ r.kinds
  unfolding outcome_in track_step sought_to updated_with
  few-rows =
      either (Few t r) (eqb byte 0) _ _ (sent-few t r _ _)
      (either (Few t r) (eqb byte 1) _ _ (omega arith)
      (either (Few t r) (eqb byte 2) _ _ (omega arith)
      (either (Few t r) (eqb byte 3) _ _ (sent-few t r _ _)
      (either (Few t r) (eqb byte 4) _ _ (refused-few t r (short r t) 3 _ (λ h. refused-few t r (replies_bad replies t) 4 (fitted capacity t (updated t x replies)) (λ i. refused-few t r (ltb capacity (length (updated t x replies).listed)) 5 (updated t x replies) (λ j. updated-few t r x replies h))))
      (either (Few t r) (eqb byte 5) _ _ (sent-few t r _ _)
      (either (Few t r) (eqb byte 6) _ _ (sent-few t r _ _)
      (either (Few t r) (eqb byte 7) _ (track_silent 14 t) (omega arith) (omega arith))))))))
