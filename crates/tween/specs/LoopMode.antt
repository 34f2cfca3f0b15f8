-- Loop modes (loop_mode.rs; paper 01, part 2).
use Rattle.std.specs.Prelude.{ℕ, max, Bool, true, false, cond, eqb, ltb, Result, Ok, Err}
use Rattle.refusal.specs.declared.Refusal.{Refusal}
use Rattle.refusal.specs.declared.Refusal.TheVariants.{SheetLoop}
use Rattle.tween.specs.declared.loop_mode.Loop.{Loop}
use Rattle.tween.specs.declared.loop_mode.Loop.TheVariants.{Once, Times, Forever, PingPong, PingPongTimes}

-- "A number 0 counts as 1 pass."
abbrev pub passes : ℕ → ℕ
passes n = max n 1

-- the mode that plays once: alone in it an update ticks, and notes no place
abbrev pub is_once : Loop → Bool
is_once Once = true
is_once (Times n) = false
is_once Forever = false
is_once PingPong = false
is_once (PingPongTimes n) = false

-- "mode (order of part 2)"
unfoldable pub loop_of : ℕ → ℕ → Loop
loop_of mode number =
    cond (eqb mode 0) Once
    (cond (eqb mode 1) (Times number)
    (cond (eqb mode 2) Forever
    (cond (eqb mode 3) PingPong (PingPongTimes number))))

-- the mode that a sheet says, or refusal 9: "the loop mode is above 4"
abbrev pub loop_in : ℕ → ℕ → Result Loop Refusal
loop_in mode number = cond (ltb 4 mode) (Err SheetLoop) (Ok (loop_of mode number))

-- "mode (order of part 2)", and the loop number, 0 where the mode has none
abbrev pub mode_of : Loop → ℕ
mode_of Once = 0
mode_of (Times n) = 1
mode_of Forever = 2
mode_of PingPong = 3
mode_of (PingPongTimes n) = 4

abbrev pub number_of : Loop → ℕ
number_of Once = 0
number_of (Times n) = n
number_of Forever = 0
number_of PingPong = 0
number_of (PingPongTimes n) = n
