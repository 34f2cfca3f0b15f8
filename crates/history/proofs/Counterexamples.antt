-- Clauses that are not claimed, and for each a closed list of calls on which it is false; and closed lists that note a place, as the claim has it.
use mathlib.Core.Path.{◌≡◌, refl, ap}
use mathlib.Core.Bool.{Bool, true, false, ◌&&◌, cond, false≢true}
use mathlib.Core.List.{List, [], ◌∷◌, ◌++◌, map}
use Prim.Native.Nat.{ℕ}
use native.Mathlib.Omega.{arith}
use lib.Ieee.{Float, binary32, of_bits, of_int, to_unsigned, add, sub, mul, div, rem, lt, le, eq, is_nan}
use Rattle.float32.specs.Helpers.{zero_f, one_f, infinity_f, max_f, min_f, finite_f}
use Rattle.tween.specs.declared.loop_mode.Loop.TheVariants.{Times, Forever}
use Rattle.steps.specs.declared.Row.{Row}
use Rattle.steps.specs.Times.{two_f, base_of, times_run, run_of, times_local, local_time}
use Rattle.steps.specs.Rows.{reset_step, synced, ticked}
use Rattle.completions.specs.Completions.{completes, in_cycle, cycle_start, breaks_at, stops_at, cycles, completions_in, completions_between}
use Rattle.clock.specs.declared.TimelineState.TheVariants.{Completed}
use Rattle.clock.specs.Clocks.{play_rule, is_playing, is_completed, with_state, scaled, started, play_state, played, seek_to, seek_state, sought, next_elapsed, reach_of, advanced_clock}
use Rattle.track.specs.Tracks.{track_base, track_run, empty_track}
use Rattle.track.specs.Updates.{above_one, ticks, newly_done, advanced, playing}
use Rattle.track.specs.Calls.{Room, Looping, SetTimeScale, Play, Update, sent, sought_to, advanced_to, updated, updated_with, track_step}
use Rattle.timeline.specs.declared.timeline.At.TheVariants.{Start}
use Rattle.timeline.specs.declared.timeline.Timeline.{Timeline}
use Rattle.timeline.specs.Placements.{empty, resolve_start}
use Rattle.timeline.specs.Calls.{Call, Add, On, added_at, step, after}
use Rattle.history.specs.Entries.{done_marks}
use Rattle.history.specs.Claim.{elapsed_of, state_of, is_accepted, notes, Noted, seek_abs}

-- 0.5
abbrev half_f : Float
half_f = of_bits binary32 0x3f000000

-- 4.0 and 5.0
abbrev four_f : Float
four_f = of_bits binary32 0x40800000

abbrev five_f : Float
five_f = of_bits binary32 0x40a00000

-- slices with room for two entries
abbrev two : Room
two = record { kinds = 2; amounts = 2; places = 2 }

-- an entry `a` at 0
abbrev lasting : Float → Call
lasting duration = Add (97 ∷ []) Start duration

-- ---- the clauses
-- 4, Completed staying Completed
abbrev StaysCompleted : Type 0
StaysCompleted = (calls : List Call) (secs : Float) (room : Room) →
    let t = after empty calls in
    let u = (step t (seek_abs secs room)).timeline in
    is_accepted t (seek_abs secs room) ≡ true → state_of u ≡ cond (finite_f (track_run t.track) && eq (track_run t.track) (elapsed_of u)) Completed (state_of t)

-- 2, each row one seek: no entry is reset
abbrev OnlySeeks : Type 0
OnlySeeks = (calls : List Call) (secs : Float) (room : Room) →
    let t = after empty calls in
    let rs = (step t (seek_abs secs room)).rows in
    is_accepted t (seek_abs secs room) ≡ true → map (λ (r : Row). r.kind) rs ≡ map (λ (r : Row). 8) rs

-- 3, the elapsed time strictly below the run
abbrev BelowRun : Type 0
BelowRun = (calls : List Call) (secs : Float) (room : Room) →
    let t = after empty calls in
    is_accepted t (seek_abs secs room) ≡ true → lt (elapsed_of (step t (seek_abs secs room)).timeline) (track_run t.track) ≡ true

-- 5, an update noted in Once too: a seek to its place on the timeline n that it left
abbrev OnceNoted : Type 0
OnceNoted = (before : List Call) (dt : Float) (replies : List ℕ) (list : ℕ) (room : Room) →
    let t = after empty before in
    let n = (step t (On (Update dt replies list room))).timeline in
    is_accepted t (On (Update dt replies list room)) ≡ true → is_playing (state_of t) ≡ true → lt zero_f (track_base n.track) ≡ true → is_nan (elapsed_of n) ≡ false
    → is_accepted n (seek_abs (elapsed_of n) room) ≡ true → done_marks (step n (seek_abs (elapsed_of n) room)).timeline ≡ done_marks n

-- 5, a NaN noted too, likewise
abbrev NanNoted : Type 0
NanNoted = (before : List Call) (call : Call) (room : Room) →
    let t = after empty before in
    let n = (step t call).timeline in
    notes t call ≡ true → lt zero_f (track_base n.track) ≡ true
    → is_accepted n (seek_abs (elapsed_of n) room) ≡ true → done_marks (step n (seek_abs (elapsed_of n) room)).timeline ≡ done_marks n

-- 5, the marks noted wherever the seek goes to a second no later than the noted one
abbrev BelowNoted : Type 0
BelowNoted = (before : List Call) (call : Call) (secs : Float) (room : Room) →
    let t = after empty before in
    let n = (step t call).timeline in
    let u = (step n (seek_abs secs room)).timeline in
    notes t call ≡ true → lt zero_f (track_base n.track) ≡ true → is_nan (elapsed_of n) ≡ false
    → is_accepted n (seek_abs secs room) ≡ true → le (elapsed_of u) (elapsed_of n) ≡ true → done_marks u ≡ done_marks n

-- ---- none of them holds
first_differs : (xs ys : List Bool) → ◌≡◌ {A = List Bool} (false ∷ xs) (true ∷ ys) → ⊥
first_differs xs ys e = let z : ◌≡◌ {A = ℕ} 0 1 = cc in omega arith

kinds_differ : (xs ys : List ℕ) → ◌≡◌ {A = List ℕ} (1 ∷ xs) (8 ∷ ys) → ⊥
kinds_differ xs ys e = let z : ◌≡◌ {A = ℕ} 1 8 = cc in omega arith

pub record Refuted : Type 0 where
  pub stays-completed : StaysCompleted → ⊥
  pub only-seeks : OnlySeeks → ⊥
  pub below-run : BelowRun → ⊥
  pub once-noted : OnceNoted → ⊥
  pub nan-noted : NanNoted → ⊥
  pub below-noted : BelowNoted → ⊥

pub refuted : Refuted
unfolding after step track_step added_at resolve_start empty empty_track sent sought_to scaled play_rule played started play_state with_state sought seek_state seek_to updated_with updated advanced_to playing advanced ticks newly_done above_one next_elapsed reach_of advanced_clock ticked synced reset_step base_of run_of local_time completions_between max_f min_f of_bits add sub mul div rem lt le eq is_nan
refuted =
    record {
      -- one second long, sought to its end and then to 0.5
      stays-completed = λ h. false≢true (ap is_completed (h (lasting one_f ∷ seek_abs one_f two ∷ []) half_f two refl));
      -- one second long, sought to 0: the entry is reset
      only-seeks = λ h. kinds_differ _ _ (h (lasting one_f ∷ []) zero_f two refl);
      -- one second long, sought to its end
      below-run = λ h. false≢true (h (lasting one_f ∷ []) one_f two refl);
      -- one second long, updated by 0.5, where the leaf replies that it stopped: its entry is done before its end
      once-noted = λ h. first_differs _ _ (h (lasting one_f ∷ On (Play two) ∷ []) half_f (0 ∷ []) 1 two refl refl refl refl refl);
      -- Forever at scale 0, entries of 0 and 2 seconds, updated by infinity: at NaN the first is done; a seek to NaN goes to 0, where it is not
      nan-noted = λ h. first_differs _ _ (h (lasting zero_f ∷ lasting two_f ∷ On (Looping Forever) ∷ On (SetTimeScale zero_f) ∷ On (Play two) ∷ []) (On (Update infinity_f (1 ∷ 1 ∷ []) 0 two)) two refl refl refl);
      -- one second long, sought to its end and then to 0.5
      below-noted = λ h. first_differs _ _ (h (lasting one_f ∷ []) (seek_abs one_f two) half_f two refl refl refl refl refl);
    }

-- ---- noted places
-- an entry of 2 s, in Times(2): the run is 4
abbrev twice : List Call
twice = lasting two_f ∷ On (Looping (Times 2)) ∷ []

-- sought to 4, and sought to 5
abbrev at_four : Timeline
at_four = (step (after empty twice) (seek_abs four_f two)).timeline

abbrev past_four : Timeline
past_four = (step (after empty twice) (seek_abs five_f two)).timeline

-- played for a second
abbrev played_one : Timeline
played_one = (step (after empty (twice ++ (On (Play two) ∷ []))) (On (Update one_f (1 ∷ []) 0 two))).timeline

pub record Met : Type 0 where
  -- a seek notes its place, and so does an update
  pub by-seek : Noted at_four
  pub by-update : Noted played_one
  -- `seek_abs(5)` goes to the 4 that was noted, and the mark noted there comes back
  pub goes-there : eq (elapsed_of past_four) (elapsed_of at_four) ≡ true
  pub mark : done_marks past_four ≡ true ∷ []
  pub noted-mark : done_marks at_four ≡ true ∷ []

pub met : Met
unfolding after step track_step added_at resolve_start empty empty_track sent sought_to play_rule played started play_state with_state sought seek_state seek_to updated_with updated advanced_to playing advanced above_one next_elapsed reach_of advanced_clock synced reset_step base_of times_run run_of times_local local_time completions_between completions_in cycles breaks_at cycle_start in_cycle completes stops_at max_f min_f of_bits of_int to_unsigned add sub mul div rem lt le eq is_nan
met =
    record {
      by-seek = record { before = twice; call = seek_abs four_f two; noted = refl; left = refl; base = refl; number = refl };
      by-update =
          record { before = twice ++ (On (Play two) ∷ []); call = On (Update one_f (1 ∷ []) 0 two); noted = refl; left = refl; base = refl; number = refl };
      goes-there = refl;
      mark = refl;
      noted-mark = refl;
    }
