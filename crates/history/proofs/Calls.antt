-- A proof about every call, by what it does: it adds an entry, sets the loop mode, or is on what plays.
use mathlib.Core.Path.{◌≡◌, refl}
use mathlib.Core.Bool.{false}
use mathlib.Core.List.{List}
use Prim.Native.Nat.{ℕ}
use lib.Ieee.{Float}
use Rattle.tween.specs.declared.loop_mode.Loop.{Loop}
use Rattle.track.specs.Calls.{TrackCall, Looping, SetTimeScale, Play, Pause, Resume, Reset, Seek, SeekAbs, Update, Preview}
use Rattle.timeline.specs.declared.timeline.At.{At}
use Rattle.timeline.specs.Calls.{Call, Add, AddBoxed, AddAtLabel, On}
use Rattle.history.specs.Claim.{builds}

pub call_by : (P : Call → Type 0)
    → ((name : List ℕ) (at : At) (duration : Float) → P (Add name at duration))
    → ((name : List ℕ) (at : At) (duration : Float) → P (AddBoxed name at duration))
    → ((name target : List ℕ) (duration : Float) → P (AddAtLabel name target duration))
    → ((mode : Loop) → P (On (Looping mode)))
    → ((call : TrackCall) → builds (On call) ≡ false → P (On call))
    → (call : Call) → P call
call_by P add boxed named looping plays (Add name at duration) = add name at duration
call_by P add boxed named looping plays (AddBoxed name at duration) = boxed name at duration
call_by P add boxed named looping plays (AddAtLabel name target duration) = named name target duration
call_by P add boxed named looping plays (On (Looping mode)) = looping mode
call_by P add boxed named looping plays (On (SetTimeScale scale)) = plays (SetTimeScale scale) refl
call_by P add boxed named looping plays (On (Play r)) = plays (Play r) refl
call_by P add boxed named looping plays (On Pause) = plays Pause refl
call_by P add boxed named looping plays (On Resume) = plays Resume refl
call_by P add boxed named looping plays (On (Reset r)) = plays (Reset r) refl
call_by P add boxed named looping plays (On (Seek share r)) = plays (Seek share r) refl
call_by P add boxed named looping plays (On (SeekAbs secs r)) = plays (SeekAbs secs r) refl
call_by P add boxed named looping plays (On (Update dt rs list r)) = plays (Update dt rs list r) refl
call_by P add boxed named looping plays (On (Preview dt r)) = plays (Preview dt r) refl
