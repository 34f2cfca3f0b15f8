-- Play, reset and the seeks: refused by 3, or sent by a rule.
use Prim.Native.Nat.{ℕ}
use mathlib.Core.Path.{◌≡◌}
use mathlib.Core.Bool.{Bool}
use mathlib.Core.List.{map, foldl}
use lib.ListN.{length}
use lib.Ieee.{Float}
use Rattle.float32.specs.Helpers.{zero_f, max_f}
use Rattle.std.specs.Prelude.{Result, Ok, Err}
use Rattle.refusal.specs.declared.Refusal.{Refusal}
use Rattle.refusal.specs.declared.Refusal.TheVariants.{RowsTooShort}
use Rattle.refusal.specs.Refusal.{accepted, number_in}
use Rattle.steps.specs.declared.Rule.{Rule}
use Rattle.steps.specs.Rows.{ruled}
use Rattle.completions.specs.Columns.{first_ends}
use Rattle.clock.specs.declared.Clock.{Clock}
use Rattle.track.specs.declared.rows.Rows.{Rows}
use Rattle.track.specs.declared.track.Track.{Track}
use Rattle.track.specs.Tracks.{live, track_base}
use Rattle.track.specs.Columns.{entries_in}
use Rattle.track.specs.Calls.{short_in, TrackOut, sent}
use Rattle.track.specs.Answers.{SameSlices, MovesBy, refused_where}
use Rattle.track.proofs.Columns.{counted, based}
use Rattle.track.proofs.Outcomes.{moves-short, moves-sent}
use Rattle.player.specs.declared.engine.Player.{Player}
use Rattle.player.specs.Answered.{playing_in, room_in, SameColumns}
use Rattle.player.specs.Loops.{first_in, SentTo}
use Rattle.player.proofs.Checks.{refused, passed, same_slices, same_player}
use Rattle.player.proofs.Loops.{Left, applied}

-- how many entries count
module _ (p : Player) {n : ℕ} (en : n ≡ entries_in p.head.count (length p.spans.starts.now) (length p.spans.durations.now) (length p.marks.now)) where
  abbrev t : Track
  t = playing_in p

  -- as many as the track has, whose base is theirs
  pub all_own : n ≡ length (live t)
  all_own = counted p.head p.spans.starts.now p.spans.durations.now p.marks.now en

  pub base-own : {base : Float} → base ≡ foldl max_f zero_f (first_ends n p.spans) → base ≡ track_base t
  base-own = based p.head p.spans.starts.now p.spans.durations.now p.marks.now n all_own

  -- and whether the rows are too short for them
  module _ (r : Rows) {y : Result Unit Refusal} (ey : y ≡ refused_where (short_in n (length r.kinds.now) (length r.amounts.now) (length r.places.now)) RowsTooShort) where
    abbrev short : Bool
    short = short_in n (length r.kinds.now) (length r.amounts.now) (length r.places.now)

    -- refused: nothing has moved
    pub moves-refused : (c : Clock) (rule : Rule) {o : TrackOut} → sent t c rule (room_in r) ≡ o → (e : Refusal) → y ≡ Err e → {x : Result Unit Refusal} → x ≡ Err e
        → SameColumns p p × SameSlices r r × MovesBy o (number_in x) t r.kinds.now r.kinds.now r.amounts.now r.amounts.now r.places.now r.places.now
    moves-refused c rule {o} eo e f ex =
        let z = refused RowsTooShort short ey f in
        (same_player p, same_slices r, rw (ex, z.1) (moves-short t c rule r.kinds.now r.amounts.now r.places.now all_own o eo z.0))

    -- accepted: every entry has its row and its mark
    pub moves-on : {c : Clock} (rule : Rule) {o : TrackOut} → sent t c rule (room_in r) ≡ o → y ≡ Ok tt → {q : Player} {s : Rows} → Left p q c → SentTo (map (ruled rule) (first_in n p.spans p.marks.now)) p.marks.now q.marks.now r s
        → SameColumns p q × SameSlices r s × MovesBy o accepted (playing_in q) r.kinds.now s.kinds.now r.amounts.now s.amounts.now r.places.now s.places.now
    moves-on {c} rule {o} eo f {q} {s} l sent-to =
        let z = applied p all_own l rule sent-to in
        (z.0, z.2.0, moves-sent t c rule r.kinds.now r.amounts.now r.places.now all_own o eo (passed RowsTooShort short ey f) (playing_in q) s.kinds.now s.amounts.now s.places.now z.1 z.2.1)
