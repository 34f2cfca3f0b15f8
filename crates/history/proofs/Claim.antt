-- The claim about whole lists of calls, and what follows from it.
use mathlib.Core.Path.{◌≡◌, refl, sym, ap, ◌∙◌, subst}
use mathlib.Core.Logic.{inl, inr}
use mathlib.Core.Bool.{Bool, true, false, ◌&&◌, ◌||◌, cond}
use mathlib.Core.List.{List, [], ◌∷◌, map}
use Prim.Native.Nat.{ℕ}
use lib.Dec.{ltb}
use lib.ListN.{length, length-map}
use lib.Ieee.{Float, binary32, sub, div, le, eq}
use Rattle.float32.specs.Helpers.{zero_f, one_f, finite_f, nonneg_f}
use Rattle.float32.proofs.Order.{le_of_eq, le_trans, not-lt_of_le}
use Rattle.float32.proofs.Nonneg.{nonneg_no_nan, nonneg_of_ge, zero_le_nonneg}
use Rattle.steps.specs.declared.Entry.{Entry}
use Rattle.steps.specs.declared.Stepped.{Stepped}
use Rattle.steps.specs.Times.{end_at}
use Rattle.steps.specs.Rows.{stepped, seek_row, reset_step, synced}
use Rattle.clock.specs.declared.TimelineState.{TimelineState}
use Rattle.clock.specs.declared.TimelineState.TheVariants.{Idle, Playing, Paused, Completed}
use Rattle.track.specs.declared.track.Track.{Track}
use Rattle.clock.specs.Clocks.{seek_to, unended, seek_state, sought}
use Rattle.track.specs.Tracks.{live, track_base, track_run, rows_of}
use Rattle.track.specs.Calls.{Room, short, track_step}
use Rattle.timeline.specs.declared.timeline.Timeline.{Timeline}
use Rattle.timeline.specs.Placements.{empty}
use Rattle.timeline.specs.Calls.{Out, on_track, step, after}
use Rattle.history.specs.Entries.{SameEntries, done_marks}
use Rattle.history.specs.Claim.{elapsed_of, state_of, is_accepted, Noted, OneStep, AllOneStep, going_on, seek_abs, SamePlace, ComesBack, Alike, Sought, Seeks, Claim, PlacesAgree}
use Rattle.history.proofs.Runs.{base_nonneg, seek-nonneg, seek-most, seek-stays}
use Rattle.history.proofs.Spans.{synced-same, runs, locals, lengths, same_refl}
use Rattle.history.proofs.Kept.{empty-kept}
use Rattle.history.proofs.Built.{own_builds}
use Rattle.history.proofs.Sending.{sought_clock, sought_all, seek-room, seek_is}
use Rattle.history.proofs.Synced.{Synced, marks_at, marks-at_same, local_at, sync-marks, run_sound}
use Rattle.history.proofs.Equal.{eq_flip, Same}
use Rattle.history.proofs.Places.{local_same, marks-equal}
use Rattle.history.proofs.Noted.{noted_synced}

-- ---- an accepted seek
abbrev sought_out : Timeline → Float → Out
sought_out t secs = on_track t (sought_all t.track secs)

module _ (t : Timeline) (secs : Float) (room : Room) where
  seek-taken : is_accepted t (seek_abs secs room) ≡ true → short room t.track ≡ false
  unfolding step track_step
  seek-taken a = seek-room t.track secs room a

  seek-out : short room t.track ≡ false → step t (seek_abs secs room) ≡ sought_out t secs
  unfolding step track_step
  seek-out h = ap (on_track t) (seek_is t.track secs room h)

short-same : (t u : Timeline) (room : Room) → SameEntries t u → short room t.track ≡ short room u.track
short-same t u room s = ap (λ (n : ℕ). ltb room.kinds n || (ltb room.amounts n || ltb room.places n)) (lengths s)

-- the local time that a seek comes to
abbrev place : Track → Float → Float
place k secs = local_at k (seek_to (track_run k) secs)

sought-marks : (t : Timeline) (secs : Float) → done_marks (sought_out t secs).timeline ≡ marks_at (place t.track secs) (live t.track)
unfolding sought
sought-marks t secs = sync-marks t.track (sought_clock t.track secs)

-- ---- 1. as on every timeline of the same entries and mode
module _ (t u : Timeline) (s : SameEntries t u) (secs : Float) where
  elapsed-same : seek_to (track_run t.track) secs ≡ seek_to (track_run u.track) secs
  elapsed-same = ap (λ (r : Float). seek_to r secs) (runs s)

  place_same : place t.track secs ≡ place u.track secs
  place_same = locals s (seek_to (track_run t.track) secs) ∙ ap (local_at u.track) elapsed-same

  marks-same : marks_at (place t.track secs) (live t.track) ≡ marks_at (place u.track secs) (live u.track)
  marks-same = marks-at_same (place t.track secs) (live t.track) (live u.track) s.spans ∙ ap (λ (x : Float). marks_at x (live u.track)) place_same

  rows_same : rows_of (map (synced (place t.track secs)) (live t.track)) ≡ rows_of (map (synced (place u.track secs)) (live u.track))
  rows_same = ap rows_of (synced-same (live t.track) (live u.track) s.spans (place t.track secs) ∙ ap (λ (x : Float). map (synced x) (live u.track)) place_same)

  alike : Alike (sought_out t secs) (sought_out u secs)
  alike =
      record {
        place = record { elapsed = unfold sought in elapsed-same; marks = sought-marks t secs ∙ marks-same ∙ sym (sought-marks u secs) };
        rows = rows_same;
      }

-- ---- 2. one step for each entry
synced-one : (t : Float) (e : Entry) → OneStep (synced t e).row
unfolding synced reset_step
synced-one t e = go (le t e.start) (le (end_at e) t || eq e.duration zero_f)
  where
    go : (a b : Bool) → OneStep (cond a reset_step (cond b (stepped (seek_row one_f) true) (stepped (seek_row (div binary32 (sub binary32 t e.start) e.duration)) false))).row
    go true b = inl refl
    go false true = inr refl
    go false false = inr refl

all_one : (t : Float) (es : List Entry) → AllOneStep (rows_of (map (synced t) es))
all_one t [] = tt
all_one t (e ∷ es) = (synced-one t e, all_one t es)

rows_each : (t : Float) (es : List Entry) → length (rows_of (map (synced t) es)) ≡ length es
rows_each t es = length-map (map (synced t) es) (λ (s : Stepped). s.row) ∙ length-map es (synced t)

-- ---- 4. the state
le-is_eq : (x y : Float) → le y x ≡ true → le x y ≡ eq x y
unfolding le
le-is_eq x y h = rw (not-lt_of_le y x h)

unended-is : (s : TimelineState) → unended s ≡ going_on s
unended-is Idle = refl
unended-is Playing = refl
unended-is Paused = refl
unended-is Completed = refl

state_is : (total elapsed : Float) (s : TimelineState) → le elapsed total ≡ true → seek_state total elapsed s ≡ cond (finite_f total && eq total elapsed) Completed (going_on s)
unfolding seek_state
state_is total elapsed s h = rw (le-is_eq total elapsed h, unended-is s)

-- ---- 5. noted places
module _ (t n : Timeline) (s : SameEntries t n) (m : Noted n) where
  synced-there : Synced n.track
  synced-there = noted_synced n m

  -- the noted second is kept by a seek
  kept : seek_to (track_run n.track) (elapsed_of n) ≡ elapsed_of n
  kept = synced-there.stays m.number

  -- the marks come back wherever the seek goes to the noted second
  marks-back : (secs : Float) → Same (seek_to (track_run n.track) secs) (elapsed_of n) → done_marks (sought_out t secs).timeline ≡ done_marks n
  marks-back secs e =
      sought-marks t secs ∙ marks-same t n s secs ∙ marks-equal (place n.track secs) (local_at n.track (elapsed_of n)) (local e) (live n.track) ∙ sym synced-there.marks
    where
      local : Same (seek_to (track_run n.track) secs) (elapsed_of n) → Same (place n.track secs) (local_at n.track (elapsed_of n))
      local (inl e) = inl (ap (local_at n.track) e)
      local (inr e) = local_same (track_base n.track) (base_nonneg (live n.track)) (seek_to (track_run n.track) secs) (elapsed_of n) e n.track.looping

  exact : SamePlace (sought_out t (elapsed_of n)).timeline n
  exact = record { elapsed = unfold sought in elapsed-same t n s (elapsed_of n) ∙ kept; marks = marks-back (elapsed_of n) (inl kept) }

  -- a second that equals the noted one is kept too
  there : (secs : Float) → eq secs (elapsed_of n) ≡ true → seek_to (track_run n.track) secs ≡ secs
  there secs e =
      let run = track_run n.track in
      let sound : nonneg_f (elapsed_of n) ≡ true = subst (λ (x : Float). nonneg_f x ≡ true) kept (seek-nonneg run (run_sound n.track) (elapsed_of n)) in
      let most : le (elapsed_of n) run ≡ true = subst (λ (x : Float). le x run ≡ true) kept (seek-most run (run_sound n.track) (elapsed_of n)) in
      seek-stays run (run_sound n.track) secs
      (nonneg_of_ge (elapsed_of n) secs sound (le_of_eq (elapsed_of n) secs (eq_flip secs (elapsed_of n) e)))
      (le_trans secs (elapsed_of n) run (le_of_eq secs (elapsed_of n) e) most)

  back : (secs : Float) → ComesBack secs (sought_out t secs) n
  unfolding sought
  back secs =
      record {
        exact = λ e. rw e exact;
        there = λ e. rw (elapsed-same t n s secs, there secs e) e;
        marks = λ e. marks-back secs (inr (rw (elapsed-same t n s secs) at e));
      }

-- ---- the claim
sought-is : (t : Timeline) (secs : Float) (room : Room) → short room t.track ≡ false → Sought t secs room (sought_out t secs)
sought-is t secs room h =
    record {
      as-new = λ u new s.
          let h' : short room u.track ≡ false = sym (short-same t u room s) ∙ h in
          (rw (seek-out u secs room h'), λ room' a. rw (seek-out u secs room' (seek-taken u secs room' a)) (alike t u s secs));
      each = rows_each (place t.track secs) (live t.track);
      steps = all_one (place t.track secs) (live t.track);
      number = unfold sought in nonneg_no_nan (seek_to (track_run t.track) secs) sound;
      least = unfold sought in zero_le_nonneg (seek_to (track_run t.track) secs) sound;
      most = unfold sought in most;
      state = unfold sought in state_is (track_run t.track) (seek_to (track_run t.track) secs) (state_of t) most;
      back = λ n m s. back t n s m secs;
    }
  where
    sound : nonneg_f (seek_to (track_run t.track) secs) ≡ true
    sound = seek-nonneg (track_run t.track) (run_sound t.track) secs

    most : le (seek_to (track_run t.track) secs) (track_run t.track) ≡ true
    most = seek-most (track_run t.track) (run_sound t.track) secs

-- every accepted seek, on any timeline
pub seeks : (t : Timeline) → Seeks t
seeks t secs room a =
    let h = seek-taken t secs room a in
    rw (seek-out t secs room h) (sought-is t secs room h)

pub claim : Claim
claim calls =
    let own = own_builds empty empty calls empty-kept empty-kept same_refl in
    (record { build = own.build; same = own.same }, seeks (after empty calls))

pub places_agree_lem : PlacesAgree
places_agree_lem calls n secs room m s a = (seeks (after empty calls) secs room a).back n m s
