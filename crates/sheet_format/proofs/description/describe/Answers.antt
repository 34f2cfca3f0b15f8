-- The description of an accepted sheet, or that of the empty panel.
use Rattle.std.specs.Prelude.{ℕ, ◌≡◌, List, Some, None, IfOk, Result, Ok, Err}
use Rattle.refusal.specs.declared.Refusal.{Refusal}
use Rattle.refusal.specs.Refusal.{number_in}
use Rattle.refusal.proofs.Numbers.{refused}
use Rattle.sheet_format.specs.declared.description.Description.{Description}
use Rattle.sheet_format.specs.declared.description.Described.{Described}
use Rattle.sheet_format.specs.Check.{check_number}
use Rattle.sheet_format.specs.Descriptions.{empty_description, description_in, numbered, described_by}
use Rattle.sheet_format.proofs.description.describe.Goals as goal

-- what is handed out, by what was read
abbrev told : Result Description Refusal → Described
told (Ok d) = record { refusal = None; description = d }
told (Err x) = record { refusal = Some x; description = empty_description }

answered : (r : Result Description Refusal) (s : List ℕ) → number_in r ≡ check_number s → IfOk r (λ d. d ≡ description_in s) → numbered (told r) ≡ described_by s
unfolding described_by
answered (Ok d) s e f = rw (← e, f)
answered (Err x) s e f = rw (← e, refused x)

pub returns-in-Ok : goal.returns-in-Ok
returns-in-Ok c = answered (Ok c.in-Ok.description) c.args.sheet.now c.in-Ok.ensures.number c.in-Ok.ensures.value

pub returns-in-Err : goal.returns-in-Err
returns-in-Err c = rw c.empty.ensures (answered (Err c.in-Err.refusal) c.args.sheet.now c.in-Err.ensures.number tt)
