-- Less than a call was there, and more stands behind it: nothing, where nothing was read.
use Rattle.std.proofs.Common.{◌≡◌, ◌-◌, List, ℕ, ◌++◌, length, drop, sym, ap, ◌∙◌, arith, eq-eqb, rules}
use Rattle.std.proofs.lemmas.List.{length-take-le, length-drop, nil_from_length}
use Rattle.door_log.specs.Unread.{unread}
use Rattle.door_log.proofs.unread.Unread.refill.Goals as goal

pub returns-clause-ok : goal.returns-clause-ok
returns-clause-ok c =
    let u = c.args.self.now in
    let read = c.in_ok-count.ensures.ok in
    let size : length (unread u) ≡ u.to - u.from = length-take-le (u.to - u.from) (drop u.from u.chunk) (omega (arith, length-drop u.from u.chunk)) in (
      read.0,
      read.2 ∙ ap (λ (t : List ℕ). t ++ read.0) c.to_front.ensures.unread,
      (
        λ none. (search rules, nil_from_length read.0 (read.1 ∙ search rules)),
        λ (short, none). eq-eqb c.in_ok-count.count 0 (sym read.1 ∙ ap length none),
      ),
    )
