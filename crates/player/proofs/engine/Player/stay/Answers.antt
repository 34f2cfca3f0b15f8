-- `stay` is by the state.
use mathlib.Core.Path.{◌≡◌, sym, ◌∙◌}
use mathlib.Core.Bool.{true, false}
use Rattle.clock.specs.Clocks.{is_playing, stayed_clock}
use Rattle.player.proofs.engine.Player.stay.Goals as goal

pub returns-then-is_playing : goal.returns-then-is_playing
unfolding stayed_clock
returns-then-is_playing c =
    let on : is_playing c.args.self.now.head.clock.state ≡ true = sym c.is_playing.ensures ∙ c.if-is_playing.true in
    rw on c.reach.ensures

pub returns : goal.returns
unfolding stayed_clock
returns c =
    let off : is_playing c.args.self.now.head.clock.state ≡ false = sym c.is_playing.ensures ∙ c.if-is_playing.false in
    (rw (off, c.is_completed.ensures), rw off)
