-- "A refused call writes nothing; panel and builder are unchanged": a call that is not accepted leaves the track.
use Prim.Native.Nat.{ℕ}
use mathlib.Core.Path.{◌≡◌, refl}
use mathlib.Core.Bool.{Bool, true, false}
use native.Mathlib.Omega.{arith}
use lib.Dec.{ltb}
use lib.ListN.{length}
use lib.Ieee.{Float}
use Prim.Native.Nat.{◌<◌}
use mathlib.Core.List.{List, [], map}
use Rattle.std.specs.Prelude.{◌⊎◌}
use Rattle.std.proofs.Common.{inl, inr}
use Rattle.refusal.specs.Refusal.{accepted, rows_too_short, bad_replies, list_too_short}
use Rattle.clock.specs.declared.Clock.{Clock}
use Rattle.clock.specs.Clocks.{is_playing}
use Rattle.steps.specs.declared.Rule.{Rule}
use Rattle.track.specs.declared.track.Track.{Track}
use Rattle.steps.specs.Rows.{ruled}
use Rattle.track.specs.Tracks.{live, moved, rows_of}
use Rattle.track.specs.Updates.{replies_bad}
use Rattle.track.specs.Calls.{Room, TrackCall, Looping, SetTimeScale, Play, Pause, Resume, Reset, Seek, SeekAbs, Update, Preview, TrackOut, short, fitted, refused_if, sent, sought_to, rested, advanced_to, updated, updated_with, previewed, track_step}

Keeps : Track → TrackOut → Type 0
Keeps k o = (o.refusal ≡ accepted) ⊎ (o.track ≡ k)

accepts : (k : Track) (o : TrackOut) → o.refusal ≡ accepted → Keeps k o
unfolding Keeps
accepts k o e = inl e

keeps_if : (b : Bool) (n : ℕ) (k : Track) (o : TrackOut) → Keeps k o → Keeps k (refused_if b n k o)
unfolding Keeps
keeps_if true n k o h = inr refl
keeps_if false n k o h = h

keeps-sent : (k : Track) (c : Clock) (rule : Rule) (r : Room) → Keeps k (sent k c rule r)
unfolding sent
keeps-sent k c rule r =
    let ss = map (ruled rule) (live k) in
    let o : TrackOut = record { refusal = accepted; track = moved k c ss; rows = rows_of ss; running = false; completed = false; listed = [] } in
    keeps_if (short r k) rows_too_short k o (accepts k o refl)

keeps-sought : (k : Track) (secs : Float) (r : Room) → Keeps k (sought_to k secs r)
unfolding sought_to
keeps-sought k secs r = keeps-sent k _ _ r

taken : (b : Bool) (k : Track) (dt : Float) (rs : List ℕ) → is_playing k.clock.state ≡ b → (updated k dt rs).refusal ≡ accepted
unfolding updated advanced_to rested
taken true k dt rs e = rw e
taken false k dt rs e = rw e

keeps-updated : (k : Track) (dt : Float) (rs : List ℕ) (capacity : ℕ) (r : Room) → Keeps k (updated_with k dt rs capacity r)
unfolding updated_with
keeps-updated k dt rs capacity r =
    let o = updated k dt rs in
    let fits = fitted capacity k o in
    keeps_if (short r k) rows_too_short k (refused_if (replies_bad rs k) bad_replies k fits)
    (keeps_if (replies_bad rs k) bad_replies k fits
    (keeps_if (ltb capacity (length o.listed)) list_too_short k o
    (accepts k o (taken (is_playing k.clock.state) k dt rs refl))))

keeps : (k : Track) (call : TrackCall) → Keeps k (track_step k call)
unfolding track_step previewed
keeps k (Looping mode) = accepts k _ refl
keeps k (SetTimeScale scale) = accepts k _ refl
keeps k (Play r) = keeps-sent k _ _ r
keeps k Pause = accepts k _ refl
keeps k Resume = accepts k _ refl
keeps k (Reset r) = keeps-sent k _ _ r
keeps k (Seek share r) = keeps-sought k _ r
keeps k (SeekAbs secs r) = keeps-sought k secs r
keeps k (Update dt rs capacity r) = keeps-updated k dt rs capacity r
keeps k (Preview dt r) =
    let o : TrackOut = record { refusal = accepted; track = k; rows = (updated k dt []).rows; running = false; completed = false; listed = [] } in
    keeps_if (short r k) rows_too_short k o (accepts k o refl)

pub refused-kept : (k : Track) (call : TrackCall) {n : ℕ} → n ≡ (track_step k call).refusal → 0 < n → (track_step k call).track ≡ k
unfolding Keeps
refused-kept k call {n} e h =
    elim (keeps k call) [
      | inl z ↦ let f : ⊥ = omega (arith, e, z) in absurd f
      | inr same ↦ same
    ]
