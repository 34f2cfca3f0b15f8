-- `lay_out` writes the live entries over the columns, as many as these take.
use Prim.Native.Nat.{ℕ, ◌<◌, min}
use mathlib.Core.Path.{◌≡◌, sym, ap, ◌∙◌}
use mathlib.Core.Bool.{false}
use native.Mathlib.Omega.{arith}
use borrow.Author.Rules.{rules}
use lib.ListN.{length, length-take}
use lib.Ieee.{nan}
use Rattle.steps.specs.declared.Entry.{Entry}
use Rattle.steps.specs.Times.{max_entries}
use Rattle.steps.proofs.Lists.{part_at}
use Rattle.track.specs.declared.track.Playhead.{Playhead}
use Rattle.track.specs.Tracks.{live}
use Rattle.track.proofs.Marks.{no_entry}
use Rattle.track.proofs.Laid.{column-none, column-more, column-all, laid}
use Rattle.track.proofs.track.Track.lay_out.Invariants.{taken}
use Rattle.track.proofs.track.Track.lay_out.Goals as goal

pub loop-i-init : goal.loop-i-init
loop-i-init c =
    let g = c.args in
    let k = g.self in
    let ss = g.starts.now in
    let ds = g.durations.now in
    let ms = g.marks.now in
    let es = taken k ss ds ms in
    let long : length k.entries ≡ max_entries = search rules in
    let live-long = length-take k.count k.entries in
    let es-long = length-take (min (length ss) (min (length ds) (length ms))) (live k) in
    let n = c.min-n.ensures in
    let lives = c.entry_count.ensures in
    let room = c.min-room.ensures in
    let room2 = c.min.ensures in (
      omega (arith, n, lives, room, room2, es-long),
      omega (arith, n, lives, live-long, long),
      long,
      column-none (λ (e : Entry). e.start) es ss (omega (arith, es-long)),
      column-none (λ (e : Entry). e.duration) es ds (omega (arith, es-long)),
      column-none (λ (e : Entry). e.done) es ms (omega (arith, es-long)),
    )

pub loop-i-preserved : goal.loop-i-preserved
loop-i-preserved c =
    let g = c.args in
    let k = g.self in
    let es = taken k g.starts.now g.durations.now g.marks.now in
    let l = c.loop-i in
    let i = l.i in
    let v = l.invariant in
    let room = min (length g.starts.now) (min (length g.durations.now) (length g.marks.now)) in
    let h : i < length es = omega arith in
    let h' : i < length (live k) = omega (arith, length-take room (live k)) in
    let here = sym (part_at room (live k) i no_entry h ∙ part_at k.count k.entries i no_entry h') in (
      v.0,
      v.1,
      v.2,
      column-more (λ (e : Entry). e.start) es i _ _ _ nan h here v.3,
      column-more (λ (e : Entry). e.duration) es i _ _ _ nan h here v.4,
      column-more (λ (e : Entry). e.done) es i _ _ _ false h here v.5,
    )

pub returns : goal.returns
returns c =
    let g = c.args in
    let k = g.self in
    let es = taken k g.starts.now g.durations.now g.marks.now in
    let l = c.loop-i in
    let v = l.invariant in
    let end : l.i ≡ length es = omega arith in
    let head = ap {B = Playhead} (λ (n : ℕ). record { count = n; clock = k.clock; looping = k.looping }) v.0 in
    let starts = column-all (λ (e : Entry). e.start) es l.i _ _ end v.3 in
    let durations = column-all (λ (e : Entry). e.duration) es l.i _ _ end v.4 in
    let marks = column-all (λ (e : Entry). e.done) es l.i _ _ end v.5 in
    record {
      head = head;
      starts = starts;
      durations = durations;
      marks = marks;
      track = laid k es _ _ _ _ _ _ _ (omega arith) head starts durations marks;
    }
