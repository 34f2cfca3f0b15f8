-- The claim: rewriting, what covers the timelines that are read, and sheets of before.
use Prim.Native.Nat.{ℕ}
use mathlib.Core.Path.{◌≡◌, refl, ◌∙◌}
use mathlib.Core.Bool.{Bool, true, false, cond}
use mathlib.Core.List.{List, []}
use lib.Dec.{eqb}
use Rattle.timeline.specs.Placements.{empty}
use Rattle.timeline.specs.Calls.{Call, after}
use Rattle.history.proofs.Covered.{coverage}
use Rattle.sheet_format.specs.Check.{check_number}
use Rattle.sheet_format.specs.Descriptions.{description_in}
use Rattle.sheet_format.proofs.Accepted.{accepted-sheet}
use Rattle.sheet_format.proofs.ReadBack.{check_accepts}
use Rattle.sheet_format.proofs.Sheets.{write-whole}
use Rattle.sheet.specs.Build.{NumberedReading, calls_of, read_calls, reading_of}
use Rattle.sheet.specs.Claim.{Rewrites, Stored, Claim}
use Rattle.sheet.proofs.Rewrite.{sheet-same, described-good}
use Rattle.sheet.proofs.Taken.{taken}
use Rattle.sheet.proofs.Stored.{old_accepted, reads_old, meets_old_reader}
use Rattle.sheet.proofs.Cases.{header_cases}

rewrites : Rewrites
rewrites s e room y h =
    let a = accepted-sheet s e in
    let same = sheet-same s y a in
    let w = write-whole (description_in s) room (described-good s y a) (rw same h) in
    (w.0, w.1 ∙ same)

stored : Stored
stored s e =
    let o = old_accepted s e in
    let a = check_accepts s o.1 in
    record { accepts = a; reading = reads_old s o.0 a; rewriting = rewrites s a }

-- what is chosen is what its calls make
chosen : (b : Bool) (x y : NumberedReading) (calls : List Call) → x.timeline ≡ after empty calls → y.timeline ≡ empty → (cond b x y).timeline ≡ after empty (cond b calls [])
unfolding after
chosen true x y calls e f = e
chosen false x y calls e f = f

read_made : (s : List ℕ) → (reading_of s).timeline ≡ after empty (read_calls s)
unfolding reading_of read_calls
read_made s = chosen (eqb (check_number s) 0) _ _ _ refl refl

pub claim : Claim
claim =
    record {
      rewrites = rewrites;
      made = read_made;
      reads = λ s. record { calls = read_calls s; made = read_made s };
      builds = λ d. coverage.lists (calls_of d);
      takes = taken;
      stored = stored;
      meets_old_reader = meets_old_reader;
      header_cases = header_cases;
    }
