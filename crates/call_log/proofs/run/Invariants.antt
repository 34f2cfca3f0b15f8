-- Call by call, in place: what is still to come is the batch of the chunks that are left.
use Prim.Native.Nat.{◌+◌, ◌<◌, ◌≤◌}
use mathlib.Core.Path.{◌≡◌}
use lib.ListN.{length}
use Rattle.std.specs.Slice.Iter.{chunks_rest, chunks_size}
use Rattle.player.specs.Answered.{SameColumns}
use Rattle.call_log.specs.Logs.{call_size}
use Rattle.call_log.specs.Machine.{log_in}
use Rattle.call_log.proofs.Batches.{SoFar}
use Rattle.call_log.proofs.run.Given as goal

abbrev pub invariant-loop-call : goal.invariant-loop-call
invariant-loop-call l =
    record {
      size : chunks_size l.call-iterator ≡ call_size;
      used : l.used + length (chunks_rest l.call-iterator) ≡ length l.bytes;
      number : l.number < 18446744073709551616;
      len : l.len ≤ length l.initial.out;
      so_far : SoFar l.ended (log_in l.initial.number l.initial.player) l.bytes l.initial.out l.out (log_in l.number l.player) (chunks_rest l.call-iterator) l.used l.len;
      columns : SameColumns l.initial.player l.player;
    }
