-- The panels that paper 01 marks * under "Panels at the edges", as one table over the definitions, in the order of the paper.
use Rattle.std.specs.Prelude.{ℕ, Bool, true, false, ◌&&◌, cond, List, [], ◌∷◌, ◌++◌, map, eqb, Float}
use Rattle.std.specs.Float.{nan, binary32}
use Rattle.std.specs.Float.Ieee.{of_bits}
use Rattle.float32.specs.Helpers.{zero_f, one_f, infinity_f, to_bits}
use Rattle.refusal.specs.Refusal.{accepted}
use Rattle.tween.specs.declared.loop_mode.Loop.TheVariants.{Times, Forever, PingPongTimes}
use Rattle.tween.specs.Cases.{Case, case_holds}
use Rattle.tween.specs.Cases as tween
use Rattle.steps.specs.declared.Entry.{Entry}
use Rattle.steps.specs.declared.Row.{Row}
use Rattle.steps.specs.Times.{max_entries, two_f, local_time}
use Rattle.clock.specs.declared.TimelineState.{TimelineState}
use Rattle.clock.specs.declared.TimelineState.TheVariants.{Idle, Playing, Paused, Completed}
use Rattle.track.specs.Tracks.{live, track_base, track_run, progress_of}
use Rattle.track.specs.Calls.{Room, Looping, SetTimeScale, Play, SeekAbs, Update}
use Rattle.timeline.specs.declared.timeline.At.TheVariants.{Start, Label as Labeled, Offset}
use Rattle.timeline.specs.Placements.{empty}
use Rattle.timeline.specs.Calls.{Call, Add, AddAtLabel, On, Out, silent, step}
use Rattle.group.specs.Group.{group_of, group_duration}

-- what is asked of the last call's outcome; floats are asked for by their bits, tests by 1 and 0
pub data Question : Type 0 where
  state elapsed base run local progress starts marks kinds listed fired group_length : Question

-- calls on the empty timeline, what is asked after the last of them, and the answer; or a delay of a stagger pattern
pub data Edge : Type 0 where
  panel : List Call → Question → List ℕ → Edge
  delay : Case → Edge

-- the order of `TimelineState`
abbrev pub state_number : TimelineState → ℕ
state_number Idle = 0
state_number Playing = 1
state_number Paused = 2
state_number Completed = 3

-- a test by its number
abbrev pub test_number : Bool → ℕ
test_number b = cond b 1 0

-- what the outcome of the last call answers to the question
unfoldable pub answer : Question → Out → List ℕ
answer state o = state_number o.timeline.track.clock.state ∷ []
answer elapsed o = to_bits o.timeline.track.clock.elapsed ∷ []
answer base o = to_bits (track_base o.timeline.track) ∷ []
answer run o = to_bits (track_run o.timeline.track) ∷ []
answer local o = to_bits (local_time o.timeline.track.looping (track_base o.timeline.track) o.timeline.track.clock.elapsed) ∷ []
answer progress o = to_bits (progress_of o.timeline.track) ∷ []
answer starts o = map (λ (e : Entry). to_bits e.start) (live o.timeline.track)
answer marks o = map (λ (e : Entry). test_number e.done) (live o.timeline.track)
answer kinds o = map (λ (r : Row). r.kind) o.rows
answer listed o = o.listed
answer fired o = test_number o.completed ∷ []
answer group_length o = to_bits (group_duration (group_of o.timeline)) ∷ []

-- the two lists have the same numbers
unfoldable pub same_numbers : List ℕ → List ℕ → Bool
same_numbers [] [] = true
same_numbers [] (y ∷ ys) = false
same_numbers (x ∷ xs) [] = false
same_numbers (x ∷ xs) (y ∷ ys) = eqb x y && same_numbers xs ys

-- after the outcome o come these calls, each on the timeline that the one before left: every outcome is accepted, and the last one gives the answer
unfoldable pub gives : Out → List Call → Question → List ℕ → Bool
gives o [] q l = eqb o.refusal accepted && same_numbers (answer q o) l
gives o (c ∷ cs) q l = eqb o.refusal accepted && gives (step o.timeline c) cs q l

-- the definitions give the answer
unfoldable pub edge_holds : Edge → Bool
edge_holds (panel cs q l) = gives (silent accepted empty) cs q l
edge_holds (delay k) = case_holds k

-- of every edge
unfoldable pub all_hold : List Edge → Bool
all_hold [] = true
all_hold (e ∷ es) = edge_holds e && all_hold es

-- ---- the table

-- 1.5, 4.0 and -5.0
abbrev one_half_f : Float
one_half_f = of_bits binary32 0x3fc00000

abbrev four_f : Float
four_f = of_bits binary32 0x40800000

abbrev minus_five_f : Float
minus_five_f = of_bits binary32 0xc0a00000

-- row slices that have room for every entry
abbrev rooms : Room
rooms = record { kinds = max_entries; amounts = max_entries; places = max_entries }

-- labels `a`, `b` and `x`
abbrev a : List ℕ
a = 97 ∷ []

abbrev b : List ℕ
b = 98 ∷ []

abbrev x : List ℕ
x = 120 ∷ []

-- `play`, with room enough
abbrev play : Call
play = On (Play rooms)

-- an update whose leaves all reply that they run
abbrev by : Float → Call
by dt = On (Update dt (1 ∷ 1 ∷ []) 256 rooms)

-- "Base 2": one entry of 2 s
abbrev two : Call
two = Add a Start two_f

-- "Entry 0 of length 0 and entry 1 of 2 s, both at 0."
abbrev pair : List Call → List Call
pair cs = Add a Start zero_f ∷ Add b Start two_f ∷ cs

-- "Base 2, `PingPongTimes(2)`", with an entry of 1 s that a seek to 1.5 leaves done
abbrev there : List Call → List Call
there cs = two ∷ Add b Start one_f ∷ On (Looping (PingPongTimes 2)) ∷ On (SeekAbs one_half_f rooms) ∷ cs

-- "Scale 0, base 2, playing, update with +infinity."
abbrev still : List Call → List Call
still cs = two ∷ On (SetTimeScale zero_f) ∷ cs

-- the panels that play, each with its sentence: the calls, what is asked after the last, and the answer
unfoldable pub panels : List Edge
panels =
    -- "Empty: `play` gives Completed; progress 1.0."
    panel [] progress (0x3f800000 ∷ [])
    ∷ panel (play ∷ []) state (3 ∷ [])
    ∷ panel (play ∷ []) progress (0x3f800000 ∷ [])
    -- "Base 2, `Times(0)`: run 2."
    ∷ panel (two ∷ On (Looping (Times 0)) ∷ []) base (0x40000000 ∷ [])
    ∷ panel (two ∷ On (Looping (Times 0)) ∷ []) run (0x40000000 ∷ [])
    -- "Base 2, `PingPongTimes(2)`, `seek_abs(4)`: Completed, every entry reset."
    ∷ panel (there []) marks (0 ∷ 1 ∷ [])
    ∷ panel (there (On (SeekAbs four_f rooms) ∷ [])) state (3 ∷ [])
    ∷ panel (there (On (SeekAbs four_f rooms) ∷ [])) kinds (1 ∷ 1 ∷ [])
    ∷ panel (there (On (SeekAbs four_f rooms) ∷ [])) marks (0 ∷ 0 ∷ [])
    -- "`PingPongTimes(1)`, `seek_abs(2)`: local time 2."
    ∷ panel (two ∷ On (Looping (PingPongTimes 1)) ∷ On (SeekAbs two_f rooms) ∷ []) local (0x40000000 ∷ [])
    -- "`seek_abs(NaN)`: elapsed 0."
    ∷ panel (two ∷ On (SeekAbs one_f rooms) ∷ []) elapsed (0x3f800000 ∷ [])
    ∷ panel (two ∷ On (SeekAbs one_f rooms) ∷ On (SeekAbs nan rooms) ∷ []) elapsed (0 ∷ [])
    -- "Base 1.5, unknown label: start 1.5.", by its bytes and by the number of no entry
    ∷ panel (Add a Start one_half_f ∷ AddAtLabel b x one_f ∷ []) starts (0 ∷ 0x3fc00000 ∷ [])
    ∷ panel (Add a Start one_half_f ∷ Add b (Labeled 1) one_f ∷ []) starts (0 ∷ 0x3fc00000 ∷ [])
    -- "Base 2, `Offset(-5)`: 0."
    ∷ panel (two ∷ Add b (Offset minus_five_f) one_f ∷ []) starts (0 ∷ 0 ∷ [])
    -- "Once: play, update 0 completes entry 0."
    ∷ panel (pair (play ∷ by zero_f ∷ [])) listed (0 ∷ [])
    ∷ panel (pair (play ∷ by zero_f ∷ [])) fired (0 ∷ [])
    -- "`Times(2)`: play, update 1 completes none; update 1.5 then gives 1, 0."
    ∷ panel (pair (On (Looping (Times 2)) ∷ play ∷ by one_f ∷ [])) listed []
    ∷ panel (pair (On (Looping (Times 2)) ∷ play ∷ by one_f ∷ by one_half_f ∷ [])) listed (1 ∷ 0 ∷ [])
    -- "Once: elapsed 2, still Playing; the next update by a finite step completes."
    ∷ panel (still (play ∷ by infinity_f ∷ [])) elapsed (0x40000000 ∷ [])
    ∷ panel (still (play ∷ by infinity_f ∷ [])) state (1 ∷ [])
    ∷ panel (still (play ∷ by infinity_f ∷ [])) fired (0 ∷ [])
    ∷ panel (still (play ∷ by infinity_f ∷ by one_f ∷ [])) state (3 ∷ [])
    ∷ panel (still (play ∷ by infinity_f ∷ by one_f ∷ [])) fired (1 ∷ [])
    -- "Forever: elapsed NaN, nothing listed."
    ∷ panel (still (On (Looping Forever) ∷ play ∷ by infinity_f ∷ [])) elapsed (0x7fc00000 ∷ [])
    ∷ panel (still (On (Looping Forever) ∷ play ∷ by infinity_f ∷ [])) listed []
    -- "Base 2, `Times(3)`: group duration 2, timeline run 6."
    ∷ panel (two ∷ On (Looping (Times 3)) ∷ []) group_length (0x40000000 ∷ [])
    ∷ panel (two ∷ On (Looping (Times 3)) ∷ []) run (0x40c00000 ∷ [])
    ∷ []

-- the panels, and the delays of crate tween
unfoldable pub edges : List Edge
edges = panels ++ map delay tween.table
