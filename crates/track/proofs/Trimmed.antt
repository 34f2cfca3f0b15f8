-- Only the live entries count: a call on them alone, and the same call on the track.
use Prim.Native.Nat.{ℕ}
use mathlib.Core.Path.{◌≡◌, refl, sym, ap, ◌∙◌}
use mathlib.Core.Bool.{Bool, true, false, not, ◌||◌, cond}
use mathlib.Core.List.{List, [], map}
use native.Mathlib.Omega.{arith}
use lib.Dec.{ltb}
use lib.ListN.{length, take, length-take}
use lib.Seq.{take-length}
use lib.Ieee.{Float}
use Rattle.refusal.specs.Refusal.{accepted}
use Rattle.steps.specs.declared.Entry.{Entry}
use Rattle.steps.specs.declared.Row.{Row}
use Rattle.steps.specs.declared.Stepped.{Stepped}
use Rattle.steps.specs.declared.Rule.{Rule}
use Rattle.steps.specs.declared.Rule.TheVariants.{Keep, Sync}
use Rattle.steps.specs.Rows.{ruled}
use Rattle.steps.specs.Slices.{over}
use Rattle.steps.specs.Times.{base_of, run_of, local_time}
use Rattle.clock.specs.declared.Clock.{Clock}
use Rattle.clock.specs.Clocks.{is_playing, is_completed, scaled, played, play_rule, paused, resumed, seek_to, share_in, sought, fires, advanced_clock}
use Rattle.track.specs.declared.track.Track.{Track}
use Rattle.track.specs.Tracks.{live, marks, done_of, rows_of, moved}
use Rattle.track.specs.Columns.{trimmed}
use Rattle.track.specs.Updates.{above_one, replies_bad, Advance, playing}
use Rattle.track.specs.Calls.{Room, TrackCall, Looping, SetTimeScale, Play, Pause, Resume, Reset, Seek, SeekAbs, Update, Preview, TrackOut, track_silent, refused_if, short, sent, sought_to, advanced_to, rested, updated, fitted, updated_with, previewed, with_clock, with_looping, track_step}
use Rattle.track.specs.Claims.{put_back, restored}
use Rattle.track.proofs.Marks.{marks-within, length_over, over-over, over-part, take-over, over-all}

module _ (k : Track) where
  abbrev t : Track
  t = trimmed k

  -- all of its entries are live
  same : live t ≡ live k
  same = take-length (live k)

  back : put_back k t ≡ k
  back = ap (λ (es : List Entry). record { count = k.count; entries = es; clock = k.clock; looping = k.looping }) (over-part k.count k.entries)

  back-moved : (c : Clock) (ss : List Stepped) → moved k c ss ≡ put_back k (moved t c ss)
  back-moved c ss =
      ap (λ (es : List Entry). record { count = k.count; entries = es; clock = c; looping = k.looping })
      (ap (over (marks (live k) (done_of ss))) (sym (over-part k.count k.entries))
      ∙ sym (over-over (marks (live k) (done_of ss)) (live k) k.entries (marks-within (live k) ss))
      ∙ ap (λ (es : List Entry). over (over (marks es (done_of ss)) (live k)) k.entries) (sym same))

  -- ---- the call on the track, from that on its live entries

  silent-whole : (n : ℕ) → track_silent n k ≡ restored k (track_silent n t)
  silent-whole n = ap (track_silent n) (sym back)

  refused-whole : (b : Bool) (n : ℕ) (o o' : TrackOut) → o ≡ restored k o' → refused_if b n k o ≡ restored k (refused_if b n t o')
  refused-whole true n o o' e = silent-whole n
  refused-whole false n o o' e = e

  -- what is worked out from the live entries, is from those of the trimmed track
  along : (f : List Entry → TrackOut) → restored k (f (live k)) ≡ restored k (f (live t))
  along f = ap (λ (es : List Entry). restored k (f es)) (sym same)

  abbrev answer : Track → List Stepped → TrackOut
  answer q ss = record { refusal = accepted; track = q; rows = rows_of ss; running = false; completed = false; listed = [] }

  abbrev short_in : Room → List Entry → Bool
  short_in r es = ltb r.kinds (length es) || (ltb r.amounts (length es) || ltb r.places (length es))

  sent-whole : (c : Clock) (rule : Rule) (r : Room) → sent k c rule r ≡ restored k (sent t c rule r)
  unfolding sent
  sent-whole c rule r =
      let ss = map (ruled rule) (live k) in
      refused-whole (short r k) 3 (answer (moved k c ss) ss) (answer (moved t c ss) ss) (ap (λ (q : Track). answer q ss) (back-moved c ss))
      ∙ along (λ (es : List Entry). refused_if (short_in r es) 3 t (answer (moved t c (map (ruled rule) es)) (map (ruled rule) es)))

  sought-whole : (secs : Float) (r : Room) → sought_to k secs r ≡ restored k (sought_to t secs r)
  unfolding sought_to
  sought-whole secs r =
      sent-whole _ _ r
      ∙ along (λ (es : List Entry). sent t (sought k.clock (run_of k.looping (base_of es)) (seek_to (run_of k.looping (base_of es)) secs)) (Sync (local_time k.looping (base_of es) (seek_to (run_of k.looping (base_of es)) secs))) r)

  advanced-whole : (a : Advance) → advanced_to k a ≡ restored k (advanced_to t a)
  unfolding advanced_to
  advanced-whole a =
      let ended = a.reach.ended in
      ap (λ (q : Track). record { refusal = accepted; track = q; rows = rows_of a.steps; running = not ended; completed = fires k.clock ended; listed = a.listed })
      (back-moved (advanced_clock k.clock a.reach.elapsed ended) a.steps)

  rested-whole : rested k ≡ restored k (rested t)
  unfolding rested
  rested-whole =
      let resting : Track → List Stepped → TrackOut = λ (q : Track) (ss : List Stepped). record { refusal = accepted; track = q; rows = rows_of ss; running = not (is_completed k.clock.state); completed = false; listed = [] } in
      ap (λ (q : Track). resting q (map (ruled Keep) (live k))) (back-moved k.clock (map (ruled Keep) (live k)))
      ∙ along (λ (es : List Entry). resting (moved t k.clock (map (ruled Keep) es)) (map (ruled Keep) es))

  playing-same : (dt : Float) (rs : List ℕ) → playing t dt rs ≡ playing k dt rs
  unfolding playing
  playing-same dt rs = rw same

  updated-whole : (dt : Float) (rs : List ℕ) → updated k dt rs ≡ restored k (updated t dt rs)
  unfolding updated
  updated-whole dt rs = rw (playing-same dt rs) (go (is_playing k.clock.state))
    where
      go : (b : Bool) → cond b (advanced_to k (playing k dt rs)) (rested k) ≡ restored k (cond b (advanced_to t (playing k dt rs)) (rested t))
      go true = advanced-whole (playing k dt rs)
      go false = rested-whole

  fitted-whole : (places : ℕ) (o o' : TrackOut) → o ≡ restored k o' → fitted places k o ≡ restored k (fitted places t o')
  fitted-whole places o o' e = ap (fitted places k) e ∙ refused-whole (ltb places (length o'.listed)) 5 (restored k o') o' refl

  updated-with-whole : (dt : Float) (rs : List ℕ) (places : ℕ) (r : Room) → updated_with k dt rs places r ≡ restored k (updated_with t dt rs places r)
  unfolding updated_with
  updated-with-whole dt rs places r =
      let o = fitted places t (updated t dt rs) in
      refused-whole (short r k) 3 _ (refused_if (replies_bad rs k) 4 t o) (refused-whole (replies_bad rs k) 4 _ o (fitted-whole places _ _ (updated-whole dt rs)))
      ∙ along (λ (es : List Entry). refused_if (short_in r es) 3 t (refused_if (ltb (length rs) (length es) || above_one (take (length es) rs)) 4 t o))

  previewed-whole : (dt : Float) (r : Room) → previewed k dt r ≡ restored k (previewed t dt r)
  unfolding previewed
  previewed-whole dt r =
      let shown : Track → List Row → TrackOut = λ (q : Track) (rs : List Row). record { refusal = accepted; track = q; rows = rs; running = false; completed = false; listed = [] } in
      refused-whole (short r k) 3 (shown k (updated k dt []).rows) (shown t (updated t dt []).rows)
      (ap (λ (o : TrackOut). shown k o.rows) (updated-whole dt []) ∙ ap (λ (q : Track). shown q (updated t dt []).rows) (sym back))
      ∙ along (λ (es : List Entry). refused_if (short_in r es) 3 t (shown t (updated t dt []).rows))

  pub whole : (call : TrackCall) → track_step k call ≡ restored k (track_step t call)
  unfolding track_step
  whole (Looping mode) = ap (λ (q : Track). track_silent accepted (with_looping q mode)) (sym back)
  whole (SetTimeScale scale) = ap (λ (q : Track). track_silent accepted (with_clock q (scaled k.clock scale))) (sym back)
  whole (Play r) = sent-whole _ _ r ∙ along (λ (es : List Entry). sent t (played k.clock (base_of es)) (play_rule k.looping k.clock (base_of es)) r)
  whole Pause = ap (λ (q : Track). track_silent accepted (with_clock q (paused k.clock))) (sym back)
  whole Resume = ap (λ (q : Track). track_silent accepted (with_clock q (resumed k.clock))) (sym back)
  whole (Reset r) = sent-whole _ _ r
  whole (Seek share r) = sought-whole _ r ∙ along (λ (es : List Entry). sought_to t (share_in (base_of es) (run_of k.looping (base_of es)) share) r)
  whole (SeekAbs secs r) = sought-whole secs r
  whole (Update dt rs places r) = updated-with-whole dt rs places r
  whole (Preview dt r) = previewed-whole dt r

-- ---- as many entries as before

abbrev pub Sized : Track → Track → Type 0
Sized k q = (q.count ≡ k.count) × (length q.entries ≡ length k.entries)

module _ (k : Track) where
  moved-sized : (c : Clock) (ss : List Stepped) → Sized k (moved k c ss)
  moved-sized c ss =
      let h = marks-within (live k) ss in
      (refl, length_over (marks (live k) (done_of ss)) k.entries (omega (arith, h, length-take k.count k.entries)))

  refused-sized : (b : Bool) (n : ℕ) (o : TrackOut) → Sized k o.track → Sized k (refused_if b n k o).track
  refused-sized true n o h = (refl, refl)
  refused-sized false n o h = h

  sent-sized : (c : Clock) (rule : Rule) (r : Room) → Sized k (sent k c rule r).track
  unfolding sent
  sent-sized c rule r = refused-sized (short r k) 3 _ (moved-sized c (map (ruled rule) (live k)))

  updated-sized : (dt : Float) (rs : List ℕ) → Sized k (updated k dt rs).track
  unfolding updated advanced_to rested
  updated-sized dt rs = go (is_playing k.clock.state)
    where
      go : (b : Bool) → Sized k (cond b (advanced_to k (playing k dt rs)) (rested k)).track
      go true = moved-sized (advanced_clock k.clock (playing k dt rs).reach.elapsed (playing k dt rs).reach.ended) (playing k dt rs).steps
      go false = moved-sized k.clock (map (ruled Keep) (live k))

  pub step-sized : (call : TrackCall) → Sized k (track_step k call).track
  unfolding track_step sought_to updated_with previewed
  step-sized (Looping mode) = (refl, refl)
  step-sized (SetTimeScale scale) = (refl, refl)
  step-sized (Play r) = sent-sized _ _ r
  step-sized Pause = (refl, refl)
  step-sized Resume = (refl, refl)
  step-sized (Reset r) = sent-sized _ _ r
  step-sized (Seek share r) = sent-sized _ _ r
  step-sized (SeekAbs secs r) = sent-sized _ _ r
  step-sized (Update dt rs places r) =
      refused-sized (short r k) 3 _ (refused-sized (replies_bad rs k) 4 _ (refused-sized (ltb places (length (updated k dt rs).listed)) 5 _ (updated-sized dt rs)))
  step-sized (Preview dt r) = refused-sized (short r k) 3 _ (refl, refl)

-- what a call on the live entries leaves
pub part : (k : Track) (call : TrackCall) → (track_step (trimmed k) call).track ≡ trimmed (track_step k call).track
part k call =
    let q = (track_step (trimmed k) call).track in
    let h = step-sized (trimmed k) call in
    let l : live (put_back k q) ≡ q.entries = take-over q.entries k.entries k.count (omega (arith, h.1)) ∙ over-all q.entries (live k) h.1 in
    sym (ap (λ (o : TrackOut). trimmed o.track) (whole k call)
    ∙ ap (λ (es : List Entry). record { count = length es; entries = es; clock = q.clock; looping = q.looping }) l
    ∙ ap (λ (n : ℕ). record { count = n; entries = q.entries; clock = q.clock; looping = q.looping }) (h.1 ∙ sym h.0))
