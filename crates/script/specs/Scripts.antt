-- The calls of a script (paper 01, "The door log program"), and what one answers. Definitions only.
use Rattle.std.specs.Prelude.{ℕ, ◌≡◌, cond, List, eqb, length, Float, Result}
use Rattle.refusal.specs.declared.Refusal.{Refusal}
use Rattle.refusal.specs.Refusal.{bad_call, number_in, held_or}
use Rattle.steps.specs.Slices.{over}
use Rattle.track.specs.declared.rows.Rows.{Rows}
use Rattle.track.specs.declared.track.Track.{Track}
use Rattle.track.specs.Tracks.{Sent}
use Rattle.track.specs.Calls.{Room, SetTimeScale, Play, Pause, Resume, Reset, Seek, SeekAbs, Update, TrackOut, track_silent, track_step}
use Rattle.track.specs.Answers.{SameSlices}
use Rattle.player.specs.declared.engine.Player.{Player}
use Rattle.player.specs.Answered.{playing_in, SameColumns, room_in}

-- What a call does to what plays, with these replies, a list of so many places and this room for rows: `track_step`, by which crate
-- timeline defines the same calls. "0 play, 1 pause, 2 resume, 3 reset, 4 update, 5 seek, 6 seek_abs, 7 scale"; a call that is none
-- leaves the track
unfoldable pub outcome_in : List ℕ → ℕ → Room → Track → ℕ → Float → TrackOut
outcome_in replies capacity r k byte x =
    cond (eqb byte 0) (track_step k (Play r))
    (cond (eqb byte 1) (track_step k Pause)
    (cond (eqb byte 2) (track_step k Resume)
    (cond (eqb byte 3) (track_step k (Reset r))
    (cond (eqb byte 4) (track_step k (Update x replies capacity r))
    (cond (eqb byte 5) (track_step k (Seek x r))
    (cond (eqb byte 6) (track_step k (SeekAbs x r))
    (cond (eqb byte 7) (track_step k (SetTimeScale x)) (track_silent bad_call k))))))))

-- `make` with the outcome o answers x, and leaves the track t, and the list and the row slices as they are after; a refused call lists nothing
pub record MadeBy (o : TrackOut) (x : Result ℕ Refusal) (t : Track) (l₀ l k₀ k : List ℕ) (a₀ a p₀ p : List Float) : Type 0 where
  pub refusal : number_in x ≡ o.refusal
  pub listed : held_or 0 x ≡ length o.listed
  pub track : t ≡ o.track
  pub list : l ≡ over o.listed l₀
  pub rows : Sent o.rows k₀ k a₀ a p₀ p

-- the call of this byte with this f32, made by the player p, answers x, and leaves q, l of the list l₀, and s of the rows r
abbrev pub MadeInPlace : Player → ℕ → Float → List ℕ → Result ℕ Refusal → Player → List ℕ → List ℕ → Rows → Rows → Type 0
MadeInPlace p byte f replies x q l₀ l r s =
    SameColumns p q × SameSlices r s
    × MadeBy (outcome_in replies (length l₀) (room_in r) (playing_in p) byte f) x (playing_in q) l₀ l r.kinds.now s.kinds.now r.amounts.now s.amounts.now r.places.now s.places.now
