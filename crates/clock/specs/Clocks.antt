-- What each call makes of a clock. Definitions only.
use Rattle.std.specs.Prelude.{ℕ, Bool, true, false, not, ◌&&◌, ◌||◌, cond, Float}
use Rattle.std.specs.Float.{binary32}
use Rattle.std.specs.Float.Ieee.{add, mul, le, eq}
use Rattle.float32.specs.Helpers.{zero_f, one_f, max_f, min_f, clamp_f, finite_f}
use Rattle.tween.specs.declared.loop_mode.Loop.{Loop}
use Rattle.tween.specs.declared.loop_mode.Loop.TheVariants.{Once, Times, Forever, PingPong, PingPongTimes}
use Rattle.steps.specs.declared.Rule.{Rule}
use Rattle.steps.specs.declared.Rule.TheVariants.{Keep, Clear, Sync, Restart}
use Rattle.steps.specs.Times.{times_run, local_time}
use Rattle.clock.specs.declared.Clock.{Clock}
use Rattle.clock.specs.declared.Reach.{Reach}
use Rattle.clock.specs.declared.TimelineState.{TimelineState}
use Rattle.clock.specs.declared.TimelineState.TheVariants.{Idle, Playing, Paused, Completed}

-- "state letter (I, P, H for Paused, C)"
abbrev pub letter_of : TimelineState → ℕ
letter_of Idle = 73
letter_of Playing = 80
letter_of Paused = 72
letter_of Completed = 67

-- `self.state == Playing`
abbrev pub is_playing : TimelineState → Bool
is_playing Idle = false
is_playing Playing = true
is_playing Paused = false
is_playing Completed = false

-- `self.state == Completed`: `is_complete`
abbrev pub is_completed : TimelineState → Bool
is_completed Idle = false
is_completed Playing = false
is_completed Paused = false
is_completed Completed = true

-- `Timeline::new`: "Idle at 0, `Once`, scale 1"
abbrev pub new_clock : Clock
new_clock = record { elapsed = zero_f; state = Idle; time_scale = one_f; complete_fired = false }

-- the clock in another state
unfoldable pub with_state : Clock → TimelineState → Clock
with_state c s = record { elapsed = c.elapsed; state = s; time_scale = c.time_scale; complete_fired = c.complete_fired }

-- `set_time_scale`: "negative and NaN become 0"
unfoldable pub scaled : Clock → Float → Clock
scaled c scale = record { elapsed = c.elapsed; state = c.state; time_scale = max_f scale zero_f; complete_fired = c.complete_fired }

-- `reset`, which re-arms the whole-run completion
unfoldable pub cleared : Clock → Clock
cleared c = record { elapsed = zero_f; state = Idle; time_scale = c.time_scale; complete_fired = false }

-- the clock from which `play` goes on: `if self.state == Completed { self.reset() }`
unfoldable pub started : Clock → Clock
started c = cond (is_completed c.state) (cleared c) c

-- `play`: Completed where the base is 0, else Playing
unfoldable pub play_state : Float → TimelineState
play_state base = cond (eq base zero_f) Completed Playing

-- the clock after `play`, in a timeline with this base
unfoldable pub played : Clock → Float → Clock
played c base = with_state (started c) (play_state base)

-- what `play` sends to every entry: from Completed a reset first; then nothing where the base is 0, else synchronised
unfoldable pub play_rule : Loop → Clock → Float → Rule
play_rule mode c base =
    let t = local_time mode base (started c).elapsed in
    cond (is_completed c.state) (cond (eq base zero_f) Clear (Restart t)) (cond (eq base zero_f) Keep (Sync t))

-- `pause`
abbrev pub paused_state : TimelineState → TimelineState
paused_state Idle = Idle
paused_state Playing = Paused
paused_state Paused = Paused
paused_state Completed = Completed

-- the clock after `pause`
unfoldable pub paused : Clock → Clock
paused c = with_state c (paused_state c.state)

-- `resume`
abbrev pub resumed_state : TimelineState → TimelineState
resumed_state Idle = Idle
resumed_state Playing = Playing
resumed_state Paused = Playing
resumed_state Completed = Completed

-- the clock after `resume`
unfoldable pub resumed : Clock → Clock
resumed c = with_state c (resumed_state c.state)

-- where `seek_abs` comes to, in a run of length total: at least 0, and at most the run if that is finite
unfoldable pub seek_to : Float → Float → Float
seek_to total secs = cond (finite_f total) (min_f (max_f secs zero_f) total) (max_f secs zero_f)

-- the second that a share stands for, in `seek`: a share of the run, or of the base where the run is not finite
unfoldable pub share_in : Float → Float → Float → Float
share_in base total share = mul binary32 (cond (finite_f total) total base) (clamp_f share zero_f one_f)

-- the state after a seek that does not reach the end
abbrev pub unended : TimelineState → TimelineState
unended Idle = Idle
unended Playing = Playing
unended Paused = Paused
unended Completed = Playing

-- the state after a seek: Completed where the run is finite and reached
unfoldable pub seek_state : Float → Float → TimelineState → TimelineState
seek_state total elapsed s = cond (finite_f total && le total elapsed) Completed (unended s)

-- `seek_abs` that comes to elapsed: it "neither fires nor re-arms" the whole-run completion
unfoldable pub sought : Clock → Float → Float → Clock
sought c total elapsed =
    record { elapsed = elapsed; state = seek_state total elapsed c.state; time_scale = c.time_scale; complete_fired = c.complete_fired }

-- whether an update goes on: `self.state == Playing`, and the base is not 0
unfoldable pub advances : Clock → Float → Bool
advances c base = is_playing c.state && not (eq base zero_f)

-- what an update outside Once sends to every entry, where it comes to elapsed: nothing, if it does not go on
unfoldable pub advance_rule : Bool → Loop → Float → Float → Rule
advance_rule on mode base elapsed = cond on (Sync (local_time mode base elapsed)) Keep

-- `dt.max(0.0) * self.time_scale` after the elapsed time
unfoldable pub next_elapsed : Clock → Float → Float
next_elapsed c dt = add binary32 c.elapsed (mul binary32 (max_f dt zero_f) c.time_scale)

-- a run of this length bounds an update to next, and ends it: `next_elapsed.min(total)`, `next_elapsed >= total`
abbrev pub within : Float → Float → Reach
within total next = record { elapsed = min_f next total; ended = le total next }

-- a run without end does not
abbrev pub onward : Float → Reach
onward next = record { elapsed = next; ended = false }

-- where an update to next comes to, by the mode, in a base that is not 0
unfoldable pub reach_of : Loop → Float → Float → Reach
reach_of Once base next = within base next
reach_of (Times n) base next = within (times_run base n) next
reach_of Forever base next = onward next
reach_of PingPong base next = onward next
reach_of (PingPongTimes n) base next = within (times_run base n) next

-- whether the whole-run completion fires in an update: "once until a reset"
abbrev pub fires : Clock → Bool → Bool
fires c ended = ended && not c.complete_fired

-- `complete_from_update` where the run ends: the state, and the whole-run completion, which "fires once until a reset"
unfoldable pub advanced_clock : Clock → Float → Bool → Clock
advanced_clock c elapsed ended =
    record { elapsed = elapsed; state = cond ended Completed c.state; time_scale = c.time_scale; complete_fired = ended || c.complete_fired }

-- the clock of an update that does not go on: while Playing there is nothing to play, so that the run ends where it stands
unfoldable pub stayed_clock : Clock → Clock
stayed_clock c = cond (is_playing c.state) (advanced_clock c c.elapsed true) c
