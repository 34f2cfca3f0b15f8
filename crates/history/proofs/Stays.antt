-- A call on what plays, other than `looping`, keeps the entries but for their marks, the loop mode, and a sound clock.
use mathlib.Core.Path.{◌≡◌, refl}
use mathlib.Core.Bool.{Bool, true, false, cond, true≢false}
use mathlib.Core.List.{List, map}
use Prim.Native.Nat.{ℕ}
use lib.Dec.{ltb}
use lib.ListN.{length, length-map}
use lib.Ieee.{Float}
use Rattle.refusal.specs.Refusal.{rows_too_short, bad_replies, list_too_short}
use Rattle.steps.specs.declared.Stepped.{Stepped}
use Rattle.steps.specs.declared.Rule.{Rule}
use Rattle.steps.specs.declared.Rule.TheVariants.{Keep, Clear, Sync}
use Rattle.steps.specs.Times.{local_time}
use Rattle.steps.specs.Rows.{ruled}
use Rattle.clock.specs.declared.Clock.{Clock}
use Rattle.track.specs.declared.track.Track.{Track}
use Rattle.clock.specs.Clocks.{is_playing, scaled, cleared, played, paused_state, paused, resumed_state, resumed, seek_to, sought, advanced_clock}
use Rattle.track.specs.Tracks.{live, track_base, track_run, share_of, moved}
use Rattle.track.specs.Updates.{replies_bad, Advance, playing}
use Rattle.track.specs.Calls.{Room, TrackCall, Looping, SetTimeScale, Play, Pause, Resume, Reset, Seek, SeekAbs, Update, Preview, TrackOut, refused_if, short, sent, sought_to, advanced_to, rested, updated, updated_with, previewed, with_clock, track_step}
use Rattle.timeline.specs.Calls.{On}
use Rattle.history.specs.Entries.{span_of}
use Rattle.history.specs.Claim.{builds}
use Rattle.history.proofs.Runs.{base_nonneg, run_nonneg, seek-nonneg}
use Rattle.history.proofs.Marks.{moved-long, moved-spans}
use Rattle.history.proofs.Clocks.{SoundClock, state-sound, scaled-sound, cleared-sound, sought-sound, advanced-sound, played-sound}
use Rattle.history.proofs.Advances.{SoundAdvance, playing-advance}

-- the track k' that a call on k leaves
pub record Stays (k k' : Track) : Type 0 where
  pub count : k'.count ≡ k.count
  pub long : length k'.entries ≡ length k.entries
  pub spans : map span_of (live k') ≡ map span_of (live k)
  pub looping : k'.looping ≡ k.looping
  pub clock : SoundClock k'.clock

module _ (k : Track) (h : SoundClock k.clock) where
  clock-stays : (c : Clock) → SoundClock c → Stays k (with_clock k c)
  clock-stays c p = record { count = refl; long = refl; spans = refl; looping = refl; clock = p }

  moved-stays : (c : Clock) (ss : List Stepped) → SoundClock c → length ss ≡ length (live k) → Stays k (moved k c ss)
  moved-stays c ss p each = record { count = refl; long = moved-long k c ss each; spans = moved-spans k c ss each; looping = refl; clock = p }

  refused-stays : (b : Bool) (n : ℕ) (o : TrackOut) → Stays k o.track → Stays k (refused_if b n k o).track
  refused-stays true n o s = clock-stays k.clock h
  refused-stays false n o s = s

  sent-stays : (c : Clock) (rule : Rule) (r : Room) → SoundClock c → Stays k (sent k c rule r).track
  unfolding sent
  sent-stays c rule r p = refused-stays (short r k) rows_too_short _ (moved-stays c (map (ruled rule) (live k)) p (length-map (live k) (ruled rule)))

  sought-stays : (secs : Float) (r : Room) → Stays k (sought_to k secs r).track
  unfolding sought_to
  sought-stays secs r =
      let elapsed = seek_to (track_run k) secs in
      sent-stays (sought k.clock (track_run k) elapsed) (Sync (local_time k.looping (track_base k) elapsed)) r
      (sought-sound k.clock h (track_run k) elapsed (seek-nonneg (track_run k) (run_nonneg k.looping (track_base k) (base_nonneg (live k))) secs))

  rested-stays : Stays k (rested k).track
  unfolding rested
  rested-stays = moved-stays k.clock (map (ruled Keep) (live k)) h (length-map (live k) (ruled Keep))

  advanced-stays : (a : Advance) → SoundAdvance k a → Stays k (advanced_to k a).track
  unfolding advanced_to
  advanced-stays a s = moved-stays (advanced_clock k.clock a.reach.elapsed a.reach.ended) a.steps (advanced-sound k.clock h a.reach.elapsed a.reach.ended s.elapsed) s.each

  updated-stays : (dt : Float) (rs : List ℕ) → Stays k (updated k dt rs).track
  unfolding updated
  updated-stays dt rs = go (is_playing k.clock.state)
    where
      go : (b : Bool) → Stays k (cond b (advanced_to k (playing k dt rs)) (rested k)).track
      go true = advanced-stays (playing k dt rs) (playing-advance k h dt rs)
      go false = rested-stays

  updated-with-stays : (dt : Float) (rs : List ℕ) (list : ℕ) (r : Room) → Stays k (updated_with k dt rs list r).track
  unfolding updated_with
  updated-with-stays dt rs list r =
      refused-stays (short r k) rows_too_short _
      (refused-stays (replies_bad rs k) bad_replies _
      (refused-stays (ltb list (length (updated k dt rs).listed)) list_too_short _ (updated-stays dt rs)))

  previewed-stays : (dt : Float) (r : Room) → Stays k (previewed k dt r).track
  unfolding previewed
  previewed-stays dt r = refused-stays (short r k) rows_too_short _ (clock-stays k.clock h)

  pub stays : (call : TrackCall) → builds (On call) ≡ false → Stays k (track_step k call).track
  unfolding track_step
  stays (Looping mode) b = absurd (true≢false b)
  stays (SetTimeScale scale) b = clock-stays (scaled k.clock scale) (scaled-sound k.clock h scale)
  stays (Play r) b = sent-stays (played k.clock (track_base k)) _ r (played-sound k.clock h (track_base k))
  stays Pause b = clock-stays (paused k.clock) (unfold paused in state-sound k.clock h (paused_state k.clock.state))
  stays Resume b = clock-stays (resumed k.clock) (unfold resumed in state-sound k.clock h (resumed_state k.clock.state))
  stays (Reset r) b = sent-stays (cleared k.clock) Clear r (cleared-sound k.clock h)
  stays (Seek share r) b = sought-stays (share_of k share) r
  stays (SeekAbs secs r) b = sought-stays secs r
  stays (Update dt rs list r) b = updated-with-stays dt rs list r
  stays (Preview dt r) b = previewed-stays dt r
