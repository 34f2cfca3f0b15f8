-- Laid out, run, and gathered; without a log, used up.
use Prim.Native.Nat.{ℕ}
use mathlib.Core.Path.{◌≡◌, sym, ap, ◌∙◌}
use lib.ListN.{length}
use Rattle.std.proofs.Common.{rules, None}
use Rattle.digits.proofs.PutAt.{put_at_nil}
use Rattle.steps.specs.Times.{max_entries}
use Rattle.call_log.specs.Machine.{Calls, batched_by, lined}
use Rattle.call_log.proofs.InPlace.{seated, runs_whole}
use Rattle.call_log.proofs.Batches.{closed_batch}
use Rattle.call_log.proofs.batch.Goals as goal

pub returns-in_default : goal.returns-in_default
returns-in_default c =
    let out = c.args.out.now in
    let closed = sym (closed_batch c.args.ended c.args.bytes.now (length out)) in
    rw c.in_default.is
    (record {
      value = ap (λ (n : ℕ). record { used = n; len = 0; log = None }) c.used_up.ensures ∙ ap batched_by closed;
      out_after = sym (put_at_nil 0 out) ∙ ap (λ (b : Calls). lined b.text out) closed;
    })

pub returns : goal.returns
returns c =
    let log = c.in-Some.log in
    let own = c.well_formed.0.1.1 in
    let long : length log.track.entries ≡ max_entries = search (rules, own) in
    let laid = seated log.track long c.of.ensures c.spans.ensures.0 c.spans.ensures.1 in
    let w = runs_whole c.args.ended log c.args.bytes.now c.args.out.now _ _ _ _ laid (search rules) c.run-ran.ensures c.gather-gathered.ensures in
    record { value = rw c.in-Some.is w.0; out_after = rw c.in-Some.is w.1 }
