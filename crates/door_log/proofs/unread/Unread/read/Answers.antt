-- What is read stands behind the unread bytes. Where the read fails they are as they were.
use Rattle.std.proofs.Common.{take, sym, arith}
use Rattle.std.proofs.lemmas.Result.{err_from_is_err_and}
use Rattle.door_log.proofs.Reading.{grown, kept}
use Rattle.door_log.proofs.unread.Unread.read.Goals as goal

pub returns-in_err-count-clause-err : goal.returns-in_err-count-clause-err
returns-in_err-count-clause-err c =
    let u = c.args.self.now in
    let p = err_from_is_err_and c.from_residual.result c.from_residual.ensures.1 in
    rw p.1 (kept u.chunk c.read.new.buf _ u.from u.to u.within.0 (omega arith))

pub returns-clause-ok : goal.returns-clause-ok
returns-clause-ok c =
    let u = c.args.self.now in
    let n = c.in_ok-count.count in
    let bound = c.in_ok-count.ensures.bound in
    (take n c.read.new.buf, sym bound.1, grown u.chunk c.read.new.buf _ u.from u.to n u.within.0 (omega arith) bound.0)
