-- The calls on a track: what each leaves, sends, answers and refuses. `track_step` is the definition of them all.
use Rattle.std.specs.Prelude.{ℕ, Bool, false, not, ◌||◌, cond, List, [], map, ltb, length, Float}
use Rattle.refusal.specs.Refusal.{accepted, rows_too_short, bad_replies, list_too_short}
use Rattle.tween.specs.declared.loop_mode.Loop.{Loop}
use Rattle.steps.specs.declared.Row.{Row}
use Rattle.steps.specs.declared.Rule.{Rule}
use Rattle.steps.specs.declared.Rule.TheVariants.{Keep, Clear, Sync}
use Rattle.steps.specs.Times.{local_time}
use Rattle.steps.specs.Rows.{ruled}
use Rattle.clock.specs.declared.Clock.{Clock}
use Rattle.track.specs.declared.track.Track.{Track}
use Rattle.clock.specs.Clocks.{is_playing, is_completed, scaled, cleared, played, play_rule, paused, resumed, seek_to, sought, fires, advanced_clock}
use Rattle.track.specs.Tracks.{live, track_base, track_run, share_of, rows_of, moved}
use Rattle.track.specs.Updates.{replies_bad, Advance, playing}

-- how many places of each row slice are lent
pub record Room : Type 0 where
  pub kinds : ℕ
  pub amounts : ℕ
  pub places : ℕ

-- the room of the three slices
abbrev pub room_of : List ℕ → List Float → List Float → Room
room_of k a p = record { kinds = length k; amounts = length a; places = length p }

-- a call on a track, with its arguments; of the lent list its length
pub data TrackCall : Type 0 where
  Looping : Loop → TrackCall
  SetTimeScale : Float → TrackCall
  Play : Room → TrackCall
  Pause : TrackCall
  Resume : TrackCall
  Reset : Room → TrackCall
  Seek : Float → Room → TrackCall
  SeekAbs : Float → Room → TrackCall
  Update : Float → List ℕ → ℕ → Room → TrackCall
  Preview : Float → Room → TrackCall

-- what a call leaves and answers: its refusal, the track, the rows sent, whether it still runs, whether the whole-run completion fired, and the completed entries
pub record TrackOut : Type 0 where
  pub refusal : ℕ
  pub track : Track
  pub rows : List Row
  pub running : Bool
  pub completed : Bool
  pub listed : List ℕ

-- a call that sends nothing to the entries and answers nothing more
abbrev pub track_silent : ℕ → Track → TrackOut
track_silent n k = record { refusal = n; track = k; rows = []; running = false; completed = false; listed = [] }

-- 3: "one of the three row slices is shorter than the entries", of n entries
abbrev pub short_in : ℕ → ℕ → ℕ → ℕ → Bool
short_in n kinds amounts places = ltb kinds n || (ltb amounts n || ltb places n)

abbrev pub short : Room → Track → Bool
short r k = short_in (length (live k)) r.kinds r.amounts r.places

-- "A refused call writes nothing; panel and builder are unchanged. Every other part of its answer is 0, 0.0 or false"
abbrev pub refused_if : Bool → ℕ → Track → TrackOut → TrackOut
refused_if refused n k o = cond refused (track_silent n k) o

-- the track k with the clock c, and to every entry what the rule sends
unfoldable pub sent : Track → Clock → Rule → Room → TrackOut
sent k c rule r =
    let ss = map (ruled rule) (live k) in
    refused_if (short r k) rows_too_short k
    (record { refusal = accepted; track = moved k c ss; rows = rows_of ss; running = false; completed = false; listed = [] })

-- `seek_abs`
unfoldable pub sought_to : Track → Float → Room → TrackOut
sought_to k secs r =
    let elapsed = seek_to (track_run k) secs in
    sent k (sought k.clock (track_run k) elapsed) (Sync (local_time k.looping (track_base k) elapsed)) r

-- an update that does not play: it still runs, but where it is Completed
unfoldable pub rested : Track → TrackOut
rested k =
    let ss = map (ruled Keep) (live k) in
    record { refusal = accepted; track = moved k k.clock ss; rows = rows_of ss; running = not (is_completed k.clock.state); completed = false; listed = [] }

-- an update that plays: `complete_from_update` where the run ends
unfoldable pub advanced_to : Track → Advance → TrackOut
advanced_to k a =
    let ended = a.reach.ended in
    record {
      refusal = accepted;
      track = moved k (advanced_clock k.clock a.reach.elapsed ended) a.steps;
      rows = rows_of a.steps;
      running = not ended;
      completed = fires k.clock ended;
      listed = a.listed;
    }

-- `update`, with room enough
unfoldable pub updated : Track → Float → List ℕ → TrackOut
updated k dt rs = cond (is_playing k.clock.state) (advanced_to k (playing k dt rs)) (rested k)

-- 5: "the update's completions, counted by the Rust's rule, outnumber the lent list", which has room for this many
abbrev pub fitted : ℕ → Track → TrackOut → TrackOut
fitted capacity k o = refused_if (ltb capacity (length o.listed)) list_too_short k o

-- `update`: "Order: 3, 4, 5. A panel that isn't Playing still checks 3 and 4."
unfoldable pub updated_with : Track → Float → List ℕ → ℕ → Room → TrackOut
updated_with k dt rs capacity r =
    refused_if (short r k) rows_too_short k
    (refused_if (replies_bad rs k) bad_replies k
    (fitted capacity k (updated k dt rs)))

-- the preview: "the rows that `update` with room enough would write and changes nothing in the panel"; "it refuses by 3 only"
unfoldable pub previewed : Track → Float → Room → TrackOut
previewed k dt r =
    refused_if (short r k) rows_too_short k
    (record { refusal = accepted; track = k; rows = (updated k dt []).rows; running = false; completed = false; listed = [] })

-- the track with another clock
abbrev pub with_clock : Track → Clock → Track
with_clock k c = record { count = k.count; entries = k.entries; clock = c; looping = k.looping }

-- the track in another mode
abbrev pub with_looping : Track → Loop → Track
with_looping k mode = record { count = k.count; entries = k.entries; clock = k.clock; looping = mode }

-- what each call on a track leaves and answers
unfoldable pub track_step : Track → TrackCall → TrackOut
track_step k (Looping mode) = track_silent accepted (with_looping k mode)
track_step k (SetTimeScale scale) = track_silent accepted (with_clock k (scaled k.clock scale))
track_step k (Play r) = sent k (played k.clock (track_base k)) (play_rule k.looping k.clock (track_base k)) r
track_step k Pause = track_silent accepted (with_clock k (paused k.clock))
track_step k Resume = track_silent accepted (with_clock k (resumed k.clock))
track_step k (Reset r) = sent k (cleared k.clock) Clear r
track_step k (Seek share r) = sought_to k (share_of k share) r
track_step k (SeekAbs secs r) = sought_to k secs r
track_step k (Update dt rs capacity r) = updated_with k dt rs capacity r
track_step k (Preview dt r) = previewed k dt r
