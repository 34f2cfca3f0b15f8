-- Refused, too short, or written whole.
use mathlib.Core.Path.{◌≡◌, sym}
use native.Mathlib.Nat.{zero-add}
use native.Mathlib.Omega.{arith}
use borrow.Author.Rules.{rules}
use lib.ListN.{length, drop}
use Rattle.std.specs.Prelude.{Err}
use Rattle.refusal.specs.Refusal.{number}
use Rattle.sheet_format.specs.Write.{sheet_of}
use Rattle.refusal.proofs.Numbers.{refused}
use Rattle.sheet_format.proofs.Sheets.{fitting, write-refused, write-short, write-whole}
use Rattle.sheet_format.proofs.Typed.{typed}
use Rattle.sheet_format.proofs.ReadBack.{reads_back}
use Rattle.sheet_format.proofs.writing.write.Goals as goal

pub returns-in_err-len-clause-value : goal.returns-in_err-len-clause-value
returns-in_err-len-clause-value c =
    let r = c.in_err-len.field-0.0 in
    let w = write-refused c.args.described (length c.args.room.now) (number r) c.in_err-len.ensures.number (refused r) in
    let e : c.from_residual.result ≡ Err r = search rules in
    rw e (simp (w.0, w.1))

pub returns-in_err-len-clause-room_after : goal.returns-in_err-len-clause-room_after
returns-in_err-len-clause-room_after c =
    let r = c.in_err-len.field-0.0 in
    simp (write-refused c.args.described (length c.args.room.now) (number r) c.in_err-len.ensures.number (refused r)).1

pub returns-then-len-room-clause-value : goal.returns-then-len-room-clause-value
returns-then-len-room-clause-value c =
    let sheet = c.in_ok-len.ensures in
    let w = write-short c.args.described (length c.args.room.now) (sym sheet.number) (omega (arith, sheet.len)) in
    simp (w.0, w.1)

pub returns-then-len-room-clause-room_after : goal.returns-then-len-room-clause-room_after
returns-then-len-room-clause-room_after c =
    let sheet = c.in_ok-len.ensures in
    simp (write-short c.args.described (length c.args.room.now) (sym sheet.number) (omega (arith, sheet.len))).1

pub put-requires : goal.put-requires
put-requires c =
    let d = c.args.described in
    let sheet = c.in_ok-len.ensures in
    fitting d _ (typed d _ c.well_formed.0).slots (sym sheet.number) (omega (arith, sheet.len))

pub returns : goal.returns
returns c =
    let d = c.args.described in
    let sheet = c.in_ok-len.ensures in
    let z = sym sheet.number in
    let w = write-whole d (length c.args.room.now) z (omega (arith, sheet.len)) in
    let back = reads_back d (typed d _ c.well_formed.0) z (drop (length (sheet_of d)) c.args.room.now) in
    record { value = simp (w.0, w.1, sheet.len); room_after = simp (w.1, c.put.ensures, zero-add); reads_back = rw (sheet.len, c.put.ensures, zero-add) back }
