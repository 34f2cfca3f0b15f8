-- Calls on the live entries alone, and the same calls on the whole track: a batch of them, too.
use Prim.Native.Nat.{ℕ, zero, suc, ◌-◌, ◌≤◌, min}
use mathlib.Core.Path.{◌≡◌, refl, sym, ap, ◌∙◌}
use mathlib.Core.Bool.{Bool, true, false, cond}
use mathlib.Core.List.{List, [], ◌∷◌}
use native.Mathlib.Omega.{arith}
use lib.Dec.{eqb, ltb}
use lib.ListN.{length, take, drop, length-take}
use lib.Seq.{take_all, take-length}
use lib.Ieee.{Float}
use Rattle.std.specs.Prelude.{Option, None, Some}
use Rattle.steps.specs.declared.Entry.{Entry}
use Rattle.steps.specs.Slices.{over}
use Rattle.steps.specs.Times.{max_entries}
use Rattle.track.specs.declared.track.Track.{Track}
use Rattle.track.specs.declared.track.Playhead.{Playhead}
use Rattle.track.specs.Tracks.{live}
use Rattle.track.specs.Columns.{entries_of, track_of, trimmed, laid_over}
use Rattle.track.specs.Calls.{TrackCall, TrackOut, track_silent, track_step}
use Rattle.track.specs.Claims.{put_back, restored}
use Rattle.track.specs.Answers.{LaysOut}
use Rattle.track.proofs.Laid.{all_laid}
use Rattle.track.proofs.Columns.{length-entries}
use Rattle.track.proofs.Marks.{over-over, over-part, take-over, over-all}
use Rattle.track.proofs.Trimmed.{Sized, whole, step-sized}
use Rattle.player.specs.declared.engine.Player.{Player}
use Rattle.player.specs.Answered.{playing_in}
use Rattle.script.specs.Scripts.{outcome_in}
use Rattle.call_log.specs.declared.Log.{Log}
use Rattle.call_log.specs.declared.Ran.{Ran}
use Rattle.call_log.specs.Lines.{shown_all}
use Rattle.call_log.specs.Logs.{call_size, outcome, outcome_at, call_line}
use Rattle.call_log.specs.Machine.{counted, next_lines, next_log, next_bytes, log_in, is_next, Calls, batch_from, batch_of, batched_by, lined, RunsTo}

-- a track is its live entries, put back
pub own_back : (k : Track) → put_back k (trimmed k) ≡ k
own_back k = ap (λ (es : List Entry). record { count = k.count; entries = es; clock = k.clock; looping = k.looping }) (over-part k.count k.entries)

module _ (k q : Track) (s : Sized (trimmed k) q) where
  -- those that were put back are the live ones
  back-trimmed : trimmed (put_back k q) ≡ q
  back-trimmed =
      let l : live (put_back k q) ≡ q.entries = take-over q.entries k.entries k.count (omega (arith, s.1)) ∙ over-all q.entries (live k) s.1 in
      ap (λ (es : List Entry). record { count = length es; entries = es; clock = q.clock; looping = q.looping }) l
      ∙ ap (λ (n : ℕ). record { count = n; entries = q.entries; clock = q.clock; looping = q.looping }) (s.1 ∙ sym s.0)

  -- put back twice is put back once
  back-twice : (o : TrackOut) → Sized q o.track → restored (put_back k q) o ≡ restored k o
  back-twice o z =
      ap (λ (es : List Entry). record { refusal = o.refusal; track = record { count = k.count; entries = es; clock = o.track.clock; looping = o.track.looping }; rows = o.rows; running = o.running; completed = o.completed; listed = o.listed })
      (sym (over-over o.track.entries q.entries k.entries (omega (arith, z.1))) ∙ ap (λ (es : List Entry). over es k.entries) (over-all o.track.entries q.entries z.1))

  -- a call on the whole track
  pub record Back (o o' : TrackOut) : Type 0 where
    pub same : o ≡ restored k o'
    pub sized : Sized (trimmed k) o'.track

  step_back : (call : TrackCall) → Back (track_step (put_back k q) call) (track_step q call)
  step_back call =
      let z = step-sized q call in
      record {
        same = whole (put_back k q) call ∙ ap (λ (t : Track). restored (put_back k q) (track_step t call)) back-trimmed ∙ back-twice (track_step q call) z;
        sized = (z.0 ∙ s.0, z.1 ∙ s.1);
      }

  silent-back : (n : ℕ) → Back (track_silent n (put_back k q)) (track_silent n q)
  silent-back n = record { same = refl; sized = s }

  cond_back : (b : Bool) (x x' y y' : TrackOut) → Back x x' → Back y y' → Back (cond b x y) (cond b x' y')
  cond_back true x x' y y' e f = e
  cond_back false x x' y y' e f = f

  outcome-back : (byte : ℕ) (x : Float) → Back (outcome (put_back k q) byte x) (outcome q byte x)
  unfolding outcome_in
  outcome-back byte x =
      cond_back (eqb byte 0) _ _ _ _ (step_back _)
      (cond_back (eqb byte 1) _ _ _ _ (step_back _)
      (cond_back (eqb byte 2) _ _ _ _ (step_back _)
      (cond_back (eqb byte 3) _ _ _ _ (step_back _)
      (cond_back (eqb byte 4) _ _ _ _ (step_back _)
      (cond_back (eqb byte 5) _ _ _ _ (step_back _)
      (cond_back (eqb byte 6) _ _ _ _ (step_back _)
      (cond_back (eqb byte 7) _ _ _ _ (step_back _) (silent-back 14))))))))

  pub outcome-at-back : (rest : List ℕ) → Back (outcome_at (put_back k q) rest) (outcome_at q rest)
  unfolding outcome_at
  outcome-at-back rest = cond_back (ltb (length rest) call_size) _ _ _ _ (silent-back 14) (outcome-back _ _)

-- ---- logs

-- a log of the live entries, as one of the whole track k
abbrev pub back_log : Track → Log → Log
back_log k log = record { number = log.number; track = put_back k log.track }

abbrev back_in : Track → Option Log → Option Log
back_in k None = None
back_in k (Some log) = Some (back_log k log)

abbrev pub back_calls : Track → Calls → Calls
back_calls k c = record { used = c.used; text = c.text; log = back_in k c.log }

-- the log after a call, where there is one
abbrev log_then : Bool → Log → TrackOut → Log
log_then none log o = cond none log (record { number = counted log.number; track = o.track })

module _ (k : Track) where
  cond-calls : (b : Bool) (x y : Calls) → cond b (back_calls k x) (back_calls k y) ≡ back_calls k (cond b x y)
  cond-calls true x y = refl
  cond-calls false x y = refl

  -- the next line and log
  next-back : (log : Log) (rest : List ℕ) → Sized (trimmed k) log.track
      → (next_lines (Some (back_log k log)) rest ≡ next_lines (Some log) rest)
      × (log_then (eqb (length rest) 0) (back_log k log) (outcome_at (put_back k log.track) rest) ≡ back_log k (log_then (eqb (length rest) 0) log (outcome_at log.track rest)))
      × Sized (trimmed k) (log_then (eqb (length rest) 0) log (outcome_at log.track rest)).track
  unfolding next_lines call_line
  next-back log rest s = go (eqb (length rest) 0)
    where
      back : Back k log.track s (outcome_at (put_back k log.track) rest) (outcome_at log.track rest)
      back = outcome-at-back k log.track s rest

      go : (b : Bool) → (cond b [] (call_line (counted log.number) (outcome_at (put_back k log.track) rest) ∷ []) ≡ cond b [] (call_line (counted log.number) (outcome_at log.track rest) ∷ []))
          × (log_then b (back_log k log) (outcome_at (put_back k log.track) rest) ≡ back_log k (log_then b log (outcome_at log.track rest)))
          × Sized (trimmed k) (log_then b log (outcome_at log.track rest)).track
      go true = (refl, refl, s)
      go false = (ap (λ (o : TrackOut). call_line (counted log.number) o ∷ []) back.same, ap (λ (o : TrackOut). record { number = counted log.number; track = o.track }) back.same, back.sized)

  batch-from-back : (fuel : ℕ) (ended : Bool) (log : Log) (bytes : List ℕ) (room : ℕ) → Sized (trimmed k) log.track
      → batch_from fuel ended (Some (back_log k log)) bytes room ≡ back_calls k (batch_from fuel ended (Some log) bytes room)
  unfolding batch_from next_log
  batch-from-back zero ended log bytes room s = refl
  batch-from-back (suc n) ended log bytes room s =
      let next = next-back log bytes s in
      let line : next_bytes (Some (back_log k log)) bytes ≡ next_bytes (Some log) bytes = ap shown_all next.0 in
      rw (line, next.1, batch-from-back n ended (log_then (eqb (length bytes) 0) log (outcome_at log.track bytes)) (drop call_size bytes) (room - length (next_bytes (Some log) bytes)) next.2)
      (cond-calls (is_next ended bytes room) _ _)

-- a batch on the whole track
pub batch_back : (ended : Bool) (log : Log) (bytes : List ℕ) (room : ℕ)
    → batch_of ended (Some log) bytes room ≡ back_calls log.track (batch_of ended (Some (record { number = log.number; track = trimmed log.track })) bytes room)
batch_back ended log bytes room =
    ap (λ (t : Track). batch_of ended (Some (record { number = log.number; track = t })) bytes room) (sym (own_back log.track))
    ∙ batch-from-back log.track (length bytes) ended (record { number = log.number; track = trimmed log.track }) bytes room (refl, refl)

-- what is gathered from columns of all entries, with the count put back, is put back into the track
gathered : (k : Track) (h : Playhead) (ss ds : List Float) (ms : List Bool) {g : Track} → g ≡ laid_over k (track_of h ss ds ms) → max_entries ≡ length ss
    → record { count = k.count; entries = g.entries; clock = g.clock; looping = g.looping } ≡ put_back k (track_of h ss ds ms)
unfolding laid_over track_of
gathered k h ss ds ms e l =
    let es = (track_of h ss ds ms).entries in
    let size : length es ≤ max_entries = omega (arith, l, length-take (min h.count 256) (entries_of ss ds ms), length-entries ss ds ms) in
    ap (λ (x : Track). record { count = k.count; entries = x.entries; clock = x.clock; looping = x.looping }) e
    ∙ ap (λ (xs : List Entry). record { count = k.count; entries = over xs k.entries; clock = h.clock; looping = h.looping })
    (ap (take max_entries) (take-length es) ∙ take_all max_entries es size)

-- columns in which all live entries were laid out hold the trimmed track
pub seated : (k : Track) → length k.entries ≡ max_entries → {h : Playhead} {s₀ s d₀ d : List Float} {m₀ m : List Bool} → LaysOut k (take max_entries (live k)) h s₀ s d₀ d m₀ m
    → {ss ds : List Float} → ss ≡ s → ds ≡ d → track_of h ss ds m ≡ trimmed k
seated k l w es ed = rw (es, ed) (all_laid k l refl w.track)

-- what a run answers, and leaves of log and lines, whatever the columns
abbrev pub Runs : Calls → Ran → Player → List ℕ → List ℕ → Type 0
Runs c r q old new = (r.used ≡ c.used) × (r.len ≡ length c.text) × (Some (log_in r.number q) ≡ c.log) × (new ≡ lined c.text old)

-- the calls of a batch run by a player of columns of all entries, in which the whole track was laid out: what is gathered is what the batch leaves of it
module _ (ended : Bool) (log : Log) (bytes old new : List ℕ) (p q : Player) (r : Ran) (laid : playing_in p ≡ trimmed log.track) (size : max_entries ≡ length p.spans.starts.now) where
  -- what is answered with the track g gathered, and the lines, are the batch's
  abbrev Whole : Track → Type 0
  Whole g =
      (record { used = r.used; len = r.len; log = Some (record { number = r.number; track = record { count = log.track.count; entries = g.entries; clock = g.clock; looping = g.looping } }) } ≡ batched_by (batch_of ended (Some log) bytes (length old)))
      × (new ≡ lined (batch_of ended (Some log) bytes (length old)).text old)

  -- of the columns it matters only that the spans are the same
  pub whole-by : {g : Track} → q.spans ≡ p.spans → Runs (batch_of ended (Some (log_in log.number p)) bytes (length old)) r q old new → g ≡ laid_over log.track (playing_in q) → Whole g
  whole-by {g} spans runs eg =
      let k = log.track in
      let b = batch_of ended (Some (record { number = log.number; track = trimmed k })) bytes (length old) in
      let own : Runs b r q old new = rw laid at runs in
      let long : max_entries ≡ length q.spans.starts.now = rw spans size in
      let track : record { count = k.count; entries = g.entries; clock = g.clock; looping = g.looping } ≡ put_back k (playing_in q) = gathered k q.head q.spans.starts.now q.spans.durations.now q.marks.now eg long in
      rw (batch_back ended log bytes (length old), track, own.0, own.1)
      (ap (λ (l : Option Log). record { used = b.used; len = length b.text; log = back_in k l }) own.2, own.3)

  pub runs_whole : {g : Track} → RunsTo (batch_of ended (Some (log_in log.number p)) bytes (length old)) r p q old new → g ≡ laid_over log.track (playing_in q) → Whole g
  runs_whole runs eg = whole-by runs.columns.spans (runs.used, runs.len, runs.log, runs.text) eg
