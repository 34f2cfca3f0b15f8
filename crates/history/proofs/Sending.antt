-- Where play, reset, the seeks and update are accepted, and what they then leave.
use mathlib.Core.Path.{◌≡◌, refl, sym, ◌∙◌}
use mathlib.Core.Bool.{Bool, true, false, false≢true}
use mathlib.Core.List.{List, [], map}
use Prim.Native.Nat.{ℕ}
use lib.Dec.{eqb, ltb}
use lib.ListN.{length}
use lib.Ieee.{Float}
use Rattle.refusal.specs.Refusal.{accepted, rows_too_short, bad_replies, list_too_short}
use Rattle.steps.specs.declared.Rule.{Rule}
use Rattle.steps.specs.declared.Rule.TheVariants.{Sync}
use Rattle.steps.specs.Times.{local_time}
use Rattle.steps.specs.Rows.{ruled}
use Rattle.clock.specs.declared.Clock.{Clock}
use Rattle.track.specs.declared.track.Track.{Track}
use Rattle.clock.specs.Clocks.{seek_to, sought}
use Rattle.track.specs.Tracks.{live, track_base, track_run, rows_of, moved}
use Rattle.track.specs.Updates.{replies_bad}
use Rattle.track.specs.Calls.{Room, TrackOut, refused_if, short, sent, sought_to, updated, updated_with}

-- what a rule sends, with room enough
abbrev pub sent_all : Track → Clock → Rule → TrackOut
sent_all k c rule =
    let ss = map (ruled rule) (live k) in
    record { refusal = accepted; track = moved k c ss; rows = rows_of ss; running = false; completed = false; listed = [] }

-- the clock of a seek to secs
abbrev pub sought_clock : Track → Float → Clock
sought_clock k secs = sought k.clock (track_run k) (seek_to (track_run k) secs)

-- what a seek to secs leaves, with room enough
abbrev pub sought_all : Track → Float → TrackOut
sought_all k secs = sent_all k (sought_clock k secs) (Sync (local_time k.looping (track_base k) (seek_to (track_run k) secs)))

-- refused by a number that is not 0, or not refused
refused_open : (refused : Bool) (n : ℕ) (k : Track) (o : TrackOut) → eqb n accepted ≡ false → eqb (refused_if refused n k o).refusal accepted ≡ true → refused ≡ false
refused_open true n k o p q = absurd (false≢true (sym p ∙ q))
refused_open false n k o p q = refl

module _ (k : Track) (secs : Float) (r : Room) where
  pub seek-room : eqb (sought_to k secs r).refusal accepted ≡ true → short r k ≡ false
  unfolding sought_to sent
  seek-room a = refused_open (short r k) rows_too_short k (sought_all k secs) refl a

  pub seek_is : short r k ≡ false → sought_to k secs r ≡ sought_all k secs
  unfolding sought_to sent
  seek_is h = rw h

-- an accepted update is the update with room enough
pub update_is : (k : Track) (dt : Float) (rs : List ℕ) (list : ℕ) (r : Room) → eqb (updated_with k dt rs list r).refusal accepted ≡ true → updated_with k dt rs list r ≡ updated k dt rs
unfolding updated_with
update_is k dt rs list r a = go (short r k) (replies_bad rs k) (ltb list (length (updated k dt rs).listed)) (updated k dt rs) a
  where
    go : (a b c : Bool) (o : TrackOut) → eqb (refused_if a rows_too_short k (refused_if b bad_replies k (refused_if c list_too_short k o))).refusal accepted ≡ true
        → refused_if a rows_too_short k (refused_if b bad_replies k (refused_if c list_too_short k o)) ≡ o
    go true b c o e = absurd (false≢true e)
    go false true c o e = absurd (false≢true e)
    go false false true o e = absurd (false≢true e)
    go false false false o e = refl
