-- A call on a timeline is a door to the engine: the track is laid out, the call is made in the columns, and its marks are put back.
use Prim.Native.Nat.{ℕ, ◌≤◌}
use mathlib.Core.Path.{◌≡◌, refl, sym, ap, subst, ◌∙◌}
use mathlib.Core.Bool.{Bool}
use mathlib.Core.List.{List}
use native.Mathlib.Omega.{arith}
use lib.ListN.{length, take, length-take}
use lib.Ieee.{Float}
use Rattle.std.specs.Prelude.{Result, Ok, Err}
use Rattle.refusal.specs.declared.Refusal.{Refusal}
use Rattle.refusal.specs.Refusal.{accepted, number, number_in}
use Rattle.refusal.proofs.Numbers.{number-above}
use Rattle.steps.specs.declared.Row.{Row}
use Rattle.steps.specs.Slices.{over}
use Rattle.steps.specs.Times.{max_entries}
use Rattle.completions.specs.declared.Spans.{Spans}
use Rattle.track.specs.declared.track.Track.{Track}
use Rattle.track.specs.declared.track.Playhead.{Playhead}
use Rattle.track.specs.Tracks.{live, with_marks, Sent}
use Rattle.track.specs.Columns.{track_of, with_clock_at, trimmed}
use Rattle.track.specs.Calls.{TrackCall, TrackOut, track_step}
use Rattle.track.specs.Answers.{Answer, answer_of as answered, refused_by, MovesBy, UpdatesBy, ShowsBy, LaysOut}
use Rattle.track.specs.Claims.{put_back, restored}
use Rattle.track.proofs.Laid.{all_laid, marks-back}
use Rattle.track.proofs.Trimmed.{whole}
use Rattle.track.proofs.Refused.{refused-kept}
use Rattle.player.specs.declared.engine.Player.{Player}
use Rattle.player.specs.declared.engine.Updated.{Updated}
use Rattle.player.specs.Answered.{playing_in, answer_of}
use Rattle.player.proofs.Loops.{Left}
use Rattle.timeline.specs.declared.timeline.Timeline.{Timeline}
use Rattle.timeline.specs.Calls.{On, with_track, step}
use Rattle.timeline.specs.Answers.{MoveAnswer, UpdateAnswer, ShowAnswer}

-- a call that leaves another track and answers nothing more
pub forwards_track : (t : Timeline) (call : TrackCall) (k : Track) (r : Timeline) → r ≡ with_track t k → k ≡ (track_step t.track call).track → r ≡ (step t (On call)).timeline
unfolding step
forwards_track t call k r e h = rw (e, h)

-- what was left in the columns, put back, is what the call on the whole track leaves
puts_back : (k : Track) (call : TrackCall) {q : Track} → q ≡ (track_step (trimmed k) call).track → put_back k q ≡ (track_step k call).track
puts_back k call e = ap (put_back k) e ∙ ap (λ (o : TrackOut). o.track) (sym (whole k call))

-- what a player's call leaves in its columns
left_in : (p q : Player) {h : Playhead} {s d : List Float} → p.head ≡ h → p.spans.starts.now ≡ s → p.spans.durations.now ≡ d → Left p q q.head.clock → playing_in q ≡ track_of (with_clock_at h q.head.clock) s d q.marks.now
left_in p q {h} eh es ed k =
    ap (λ (x : Playhead). track_of x q.spans.starts.now q.spans.durations.now q.marks.now) (k.head ∙ ap (λ (x : Playhead). with_clock_at x q.head.clock) eh)
    ∙ ap (λ (x : Spans). track_of (with_clock_at h q.head.clock) x.starts.now x.durations.now q.marks.now) k.spans
    ∙ rw (es, ed)

-- every live entry is laid out, so the columns hold the trimmed track
pub seated : (t : Timeline) → length t.track.entries ≡ max_entries → {h : Playhead} {s₀ s d₀ d : List Float} {m₀ m : List Bool} → LaysOut t.track (take max_entries (live t.track)) h s₀ s d₀ d m₀ m
    → {ss ds : List Float} → ss ≡ s → ds ≡ d → track_of h ss ds m ≡ trimmed t.track
seated t l w es ed = rw (es, ed) (all_laid t.track l refl w.track)

-- and a player of these columns plays it
pub plays-all : (t : Timeline) → length t.track.entries ≡ max_entries → {h : Playhead} {s₀ s d₀ d : List Float} {m₀ m : List Bool} → LaysOut t.track (take max_entries (live t.track)) h s₀ s d₀ d m₀ m
    → (p : Player) → (p.head ≡ h) × (p.spans.starts.now ≡ s) × (p.spans.durations.now ≡ d) × (p.marks.now ≡ m) → playing_in p ≡ trimmed t.track
plays-all t l w p e = rw (e.0, e.3) (seated t l w e.1 e.2)

-- the call is made on what the columns hold
module _ (t : Timeline) (call : TrackCall) {held : Track} (all : held ≡ trimmed t.track) where
  abbrev in-columns : TrackOut
  in-columns = track_step held call

  abbrev out : TrackOut
  out = track_step t.track call

  -- what it answers there is what the call on the track does
  answers : {A : Type 0} (f : TrackOut → A) → f in-columns ≡ f (track_step (trimmed t.track) call)
  answers f = ap (λ (x : Track). f (track_step x call)) all

  part_of : {A : Type 0} (f : TrackOut → A) → f (restored t.track (track_step (trimmed t.track) call)) ≡ f out
  part_of f = ap f (sym (whole t.track call))

  refusal-of : {r : ℕ} → r ≡ in-columns.refusal → r ≡ out.refusal
  refusal-of e = e ∙ answers (λ (o : TrackOut). o.refusal) ∙ part_of (λ (o : TrackOut). o.refusal)

  rows_of : {k₀ k : List ℕ} {a₀ a p₀ p : List Float} → Sent in-columns.rows k₀ k a₀ a p₀ p → Sent out.rows k₀ k a₀ a p₀ p
  rows_of {k₀} {k} {a₀} {a} {p₀} {p} e =
      subst (λ (rs : List Row). Sent rs k₀ k a₀ a p₀ p) (answers (λ (o : TrackOut). o.rows) ∙ part_of (λ (o : TrackOut). o.rows)) e

  list_of : (l₀ : List ℕ) {l : List ℕ} → l ≡ over in-columns.listed l₀ → l ≡ over out.listed l₀
  list_of l₀ e = e ∙ ap (λ (xs : List ℕ). over xs l₀) (answers (λ (o : TrackOut). o.listed) ∙ part_of (λ (o : TrackOut). o.listed))

  -- a refused call leaves the timeline
  stays : (e : Refusal) → number e ≡ in-columns.refusal → t ≡ (step t (On call)).timeline
  unfolding step
  stays e er = ap (with_track t) (sym (refused-kept t.track call (refusal-of er) (number-above e)))

  module _ {k₀ k : List ℕ} {a₀ a p₀ p : List Float} where
    pub door-refuses : {e : Refusal} {left : Track} → MovesBy in-columns (number e) left k₀ k a₀ a p₀ p → MoveAnswer (step t (On call)) t (Err e) k₀ k a₀ a p₀ p
    unfolding step
    door-refuses {e} x = record { refusal = refusal-of x.refusal; timeline = stays e x.refusal; rows = rows_of x.rows }

    pub door-stays : {l₀ l : List ℕ} {e : Refusal} {left : Track} → UpdatesBy in-columns (refused_by (number e)) left l₀ l k₀ k a₀ a p₀ p → UpdateAnswer (step t (On call)) t (Err e) l₀ l k₀ k a₀ a p₀ p
    unfolding step
    door-stays {l₀} {e = e} x =
        record {
          answer = x.answer ∙ answers answered ∙ part_of answered;
          timeline = stays e (ap (λ (y : Answer). y.refusal) x.answer);
          list = list_of l₀ x.list;
          rows = rows_of x.rows;
        }

    -- the preview
    pub door-shows : {r : Result Unit Refusal} → ShowsBy in-columns (number_in r) k₀ k a₀ a p₀ p → ShowAnswer (step t (On call)) r k₀ k a₀ a p₀ p
    unfolding step
    door-shows x = record { refusal = refusal-of x.refusal; rows = rows_of x.rows }

-- the player p makes the call in columns that hold the track, and leaves q
module _ (t : Timeline) (l : length t.track.entries ≡ max_entries) (call : TrackCall) {h : Playhead} {s₀ s d₀ d : List Float} {m₀ m : List Bool}
    (w : LaysOut t.track (take max_entries (live t.track)) h s₀ s d₀ d m₀ m) (p q : Player) (of : (p.head ≡ h) × (p.spans.starts.now ≡ s) × (p.spans.durations.now ≡ d) × (p.marks.now ≡ m)) (kept : Left p q q.head.clock) where
  held_by : playing_in p ≡ trimmed t.track
  held_by = plays-all t l w p of

  few : length (live t.track) ≤ max_entries
  few = omega (arith, l, length-take t.track.count t.track.entries)

  -- the marks that are left, put back
  track-of : playing_in q ≡ (track_step (playing_in p) call).track → with_marks t.track q.head.clock q.marks.now ≡ (track_step t.track call).track
  track-of e =
      sym (marks-back t.track max_entries few (omega (arith, few)) w q.head.clock q.marks.now)
      ∙ puts_back t.track call (sym (left_in p q of.0 of.1 of.2 kept) ∙ e ∙ answers t call held_by (λ (o : TrackOut). o.track))

  module _ {k₀ k : List ℕ} {a₀ a p₀ p' : List Float} {u : Timeline} (eu : u ≡ with_track t (with_marks t.track q.head.clock q.marks.now)) where
    -- play, reset and the seeks
    pub door-moves : MovesBy (track_step (playing_in p) call) accepted (playing_in q) k₀ k a₀ a p₀ p' → MoveAnswer (step t (On call)) t (Ok u) k₀ k a₀ a p₀ p'
    unfolding step
    door-moves x =
        record {
          refusal = refusal-of t call held_by x.refusal;
          timeline = eu ∙ ap (with_track t) (track-of x.track);
          rows = rows_of t call held_by x.rows;
        }

    -- `update`
    pub door-updates : {l₀ l' : List ℕ} {r : Updated} → UpdatesBy (track_step (playing_in p) call) (answer_of r) (playing_in q) l₀ l' k₀ k a₀ a p₀ p' → UpdateAnswer (step t (On call)) t (Ok (r, u)) l₀ l' k₀ k a₀ a p₀ p'
    unfolding step
    door-updates {l₀} x =
        record {
          answer = x.answer ∙ answers t call held_by answered ∙ part_of t call held_by answered;
          timeline = eu ∙ ap (with_track t) (track-of x.track);
          list = list_of t call held_by l₀ x.list;
          rows = rows_of t call held_by x.rows;
        }
