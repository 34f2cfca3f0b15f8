-- The call at the front of a script, made in place on what plays, and its line.
use Prim.Native.Nat.{ℕ, ◌+◌, ◌-◌, ◌≤◌, ◌<◌, min}
use mathlib.Core.Path.{◌≡◌, refl, sym, ap, ◌∙◌}
use mathlib.Core.Bool.{Bool, true, false, cond}
use mathlib.Core.List.{List, append-nil}
use native.Mathlib.Omega.{arith}
use borrow.Author.Tests.{ltb-true, ltb-false, ne_eqb}
use lib.Dec.{ltb}
use lib.Ieee.{Float}
use lib.ListN.{length, take, drop}
use lib.Seq.{take_at}
use Rattle.std.specs.Prelude.{Result, Ok, Err, Some}
use Rattle.std.specs.Result.{result_unwrap_or}
use Rattle.float32.specs.Helpers.{to_bits}
use Rattle.refusal.specs.declared.Refusal.{Refusal}
use Rattle.refusal.specs.declared.Refusal.TheVariants.{BadCall}
use Rattle.refusal.specs.Refusal.{bad_call, number_in, held_or}
use Rattle.steps.specs.Times.{max_entries}
use Rattle.clock.specs.Clocks.{letter_of}
use Rattle.track.specs.declared.rows.Rows.{Rows}
use Rattle.track.specs.declared.track.Track.{Track}
use Rattle.track.specs.declared.track.Playhead.{Playhead}
use Rattle.track.specs.Columns.{track_of}
use Rattle.track.specs.Calls.{TrackOut, track_silent}
use Rattle.player.specs.declared.engine.Player.{Player}
use Rattle.player.specs.Answered.{playing_in, room_in}
use Rattle.script.specs.Scripts.{outcome_in, MadeBy, MadeInPlace}
use Rattle.script.proofs.Making.{few-listed}
use Rattle.digits.specs.Digits.{put_at}
use Rattle.call_log.specs.declared.Log.{Log}
use Rattle.call_log.specs.Lines.{Called, shown, shown_all, line_size, Wrote}
use Rattle.call_log.specs.Logs.{call_size, list_size, replies, room, outcome, outcome_at, call_line}
use Rattle.call_log.specs.Machine.{Makes, Logs, counted, line_bytes, next_lines, next_log, next_bytes}

-- the next number
pub counts : (n : ℕ) {m : ℕ} → n < 18446744073709551616 → m ≡ min (n + 1) 18446744073709551615 → m ≡ counted n
unfolding counted
counts n {m} h e = go (ltb n 18446744073709551615) refl
  where
    go : (b : Bool) → ltb n 18446744073709551615 ≡ b → m ≡ cond b (n + 1) n
    go true f = let l = ltb-true _ _ f in omega arith
    go false f = let l = ltb-false _ _ f in omega arith

-- ---- how much is listed

few_cond : (b : Bool) (x y : TrackOut) → length x.listed ≤ list_size → length y.listed ≤ list_size → length (cond b x y).listed ≤ list_size
few_cond true x y e f = e
few_cond false x y e f = f

pub few_at : (t : Track) (rest : List ℕ) → length (outcome_at t rest).listed ≤ list_size
unfolding outcome_at
few_at t rest = few_cond (ltb (length rest) call_size) (track_silent 14 t) _ (omega arith) (few-listed replies list_size room t _ _)

-- ---- the call at the front

module _ (p : Player) (rest : List ℕ) where
  abbrev o : TrackOut
  o = outcome_at (playing_in p) rest

  -- bytes that are no call leave the player as it is
  pub makes_none : (list : List ℕ) → outcome_at (playing_in p) rest ≡ track_silent bad_call (playing_in p) → Makes p rest (Err BadCall) p list
  makes_none list e =
      let silent : track_silent bad_call (playing_in p) ≡ o = sym e in
      record {
        columns = record { head = refl; spans = refl; marks = refl; len = refl; spare = refl };
        refusal = ap (λ (x : TrackOut). x.refusal) silent;
        few = omega arith;
        listed = ap (λ (x : TrackOut). x.listed) silent;
        track = ap (λ (x : TrackOut). x.track) silent;
      }

  -- a call that is made with what the log lends: replies of 1, a list of 256, and room for all rows
  module _ (byte : ℕ) (f : Float) (x : Result ℕ Refusal) (q : Player) (rs l₀ l : List ℕ) (r s : Rows) (e : o ≡ outcome (playing_in p) byte f) (ones : rs ≡ replies) (list : length l₀ ≡ list_size)
      (kinds : length r.kinds.now ≡ max_entries) (amounts : length r.amounts.now ≡ max_entries) (places : length r.places.now ≡ max_entries) where
    -- whatever the columns
    pub makes-by : MadeBy (outcome_in rs (length l₀) (room_in r) (playing_in p) byte f) x (playing_in q) l₀ l r.kinds.now s.kinds.now r.amounts.now s.amounts.now r.places.now s.places.now
        → (number_in x ≡ o.refusal) × (held_or 0 x ≤ list_size) × (take (held_or 0 x) l ≡ o.listed) × (playing_in q ≡ o.track)
    makes-by m =
        let lent : outcome_in rs (length l₀) (room_in r) (playing_in p) byte f ≡ o = rw (ones, list, kinds, amounts, places) (sym e) in
        let b = rw lent at m in
        (b.refusal, rw b.listed (few_at (playing_in p) rest), rw (b.list, b.listed) (take_at o.listed (drop (length o.listed) l₀) (length o.listed) refl), b.track)

    pub makes_one : MadeInPlace p byte f rs x q l₀ l r s → Makes p rest x q l
    makes_one m =
        let b = makes-by m.2 in
        record { columns = m.0; refusal = b.0; few = b.1; listed = b.2; track = b.3 }

  -- ---- its line

  clock_of : (h : Playhead) (ss ds : List Float) (ms : List Bool) → (track_of h ss ds ms).clock ≡ h.clock
  unfolding track_of
  clock_of h ss ds ms = refl

  unwrapped : (x : Result ℕ Refusal) → result_unwrap_or x 0 ≡ held_or 0 x
  unwrapped (Ok n) = refl
  unwrapped (Err r) = refl

  -- whatever the columns
  module _ (number : ℕ) (x : Result ℕ Refusal) (q : Player) (list : List ℕ) (refusal : number_in x ≡ o.refusal) (listed : take (held_or 0 x) list ≡ o.listed) (track : playing_in q ≡ o.track) where
    pub line-by : Called number (letter_of q.head.clock.state) (to_bits q.head.clock.elapsed) (number_in x) (take (held_or 0 x) list) ≡ call_line number o
    unfolding call_line
    line-by =
        let c : q.head.clock ≡ o.track.clock = sym (clock_of q.head _ _ _) ∙ ap (λ (t : Track). t.clock) track in
        rw (c, refusal, listed)

    pub logs-by : (i m at end : ℕ) (old new : List ℕ) → i ≡ number_in x → m ≡ result_unwrap_or x 0
        → Wrote (shown (Called number (letter_of q.head.clock.state) (to_bits q.head.clock.elapsed) i (take m list))) at old new end → end ≤ at + line_size
        → (end - at ≡ length (line_bytes number p rest)) × (end - at ≤ line_size) × (new ≡ put_at (line_bytes number p rest) at old)
    logs-by i m at end old new ei em wrote few =
        let w = rw (ei, em ∙ unwrapped x, line-by) at wrote in
        let ends = w.ends in
        (omega arith, omega arith, w.bytes)

  pub line-is : (number : ℕ) {x : Result ℕ Refusal} {q : Player} {list : List ℕ} → Makes p rest x q list
      → Called number (letter_of q.head.clock.state) (to_bits q.head.clock.elapsed) (number_in x) (take (held_or 0 x) list) ≡ call_line number (outcome_at (playing_in p) rest)
  line-is number {x} {q} {list} m = line-by number x q list m.refusal m.listed m.track

  pub logs-one : (number : ℕ) (x : Result ℕ Refusal) (q : Player) (list : List ℕ) (i m at end : ℕ) (old new : List ℕ) → Makes p rest x q list
      → i ≡ number_in x → m ≡ result_unwrap_or x 0
      → Wrote (shown (Called number (letter_of q.head.clock.state) (to_bits q.head.clock.elapsed) i (take m list))) at old new end → end ≤ at + line_size
      → Logs number p rest (end - at) q at old new
  logs-one number x q list i m at end old new made ei em wrote few =
      let w = logs-by number x q list made.refusal made.listed made.track i m at end old new ei em wrote few in
      record { columns = made.columns; track = made.track; len = w.0; few = w.1; text = w.2 }

-- ---- the next line, of a script that has bytes

pub next-goes : (log : Log) (rest : List ℕ) → 0 < length rest → (next_bytes (Some log) rest ≡ shown (call_line (counted log.number) (outcome_at log.track rest)))
    × (next_log (Some log) rest ≡ Some (record { number = counted log.number; track = (outcome_at log.track rest).track }))
unfolding next_lines next_log shown_all
next-goes log rest h = rw (ne_eqb (length rest) 0 (λ e. omega (arith, e, h)), append-nil) (refl, refl)
