-- The line is that of the answer.
use mathlib.Core.Path.{ap}
use Rattle.call_log.specs.Lines.{shown}
use Rattle.call_log.proofs.Opening.{line_accepted, line_refused}
use Rattle.call_log.proofs.Writing.{wrote_as, wrote_all}
use Rattle.call_log.proofs.open.Goals as goal

pub returns-in-Ok : goal.returns-in-Ok
returns-in-Ok c =
    let read = c.in-Ok.ensures in
    let w = wrote_as (ap shown (line_accepted c.args.input.now c.in-Ok.log read.number read.log)) c.accepted-len.ensures in
    record { value = record { len = wrote_all w; refusal = read.number; log = read.log }; line_after = w.bytes }

pub returns-in-Err : goal.returns-in-Err
returns-in-Err c =
    let read = c.in-Err.ensures in
    let w = wrote_as (ap shown (line_refused c.args.input.now c.in-Err.refusal read.number)) c.refused-len.ensures in
    record { value = record { len = wrote_all w; refusal = read.number; log = read.log }; line_after = w.bytes }
