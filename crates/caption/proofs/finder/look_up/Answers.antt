-- The pairs from code i on are still in turn or not, and the first match is the one so far or the first of those.
use Prim.Native.Nat.{ℕ}
use mathlib.Core.Path.{◌≡◌, sym, ap, ◌∙◌}
use mathlib.Core.List.{List}
use native.Mathlib.Omega.{arith}
use Rattle.std.specs.Prelude.{Bool}
use Rattle.words.specs.Pairs.{part_by}
use Rattle.label.specs.Label.{same_text}
use Rattle.caption.specs.Captions.{earlier, matched}
use Rattle.caption.proofs.Turns.{reads, small, takes, passes, keeps, begins, bad-code, bad-words, more, bad-end, whole}
use Rattle.caption.proofs.finder.look_up.Goals.{then-is_none+then-same_text, else-is_none, else-is_none-via-then-is_none+else-same_text, else-is_none-via-else-is_none, then-code-offset-via-then-code-offset, then-code-offset-via-else-code-offset+then-words-offset}
use Rattle.caption.proofs.finder.look_up.Goals as goal

pub loop-i-init : goal.loop-i-init
loop-i-init c =
    let n = c.from-n.ensures ∙ c.u16_at.ensures in
    record { few = omega arith; fits = omega arith; passed = begins _ _ _ n }

pub overflow_add-offset-else-code-offset : goal.overflow_add-offset-else-code-offset
overflow_add-offset-else-code-offset c = omega (arith, small _ _ _ c.type_inv.list c.pair_at-code.ensures)

pub returns-then-code-offset : goal.returns-then-code-offset
returns-then-code-offset c =
    let read = reads c.args.list.now _ _ _ c.pair_at-code.ensures c.pair_at-words.ensures in
    let p = c.loop-i.invariant.passed in
    elim c.then-code-offset.branch [
      | then-code-offset-via-then-code-offset w ↦ bad-code _ _ _ _ _ _ p _ _ read c.loop-i-test.true w.if-code-offset.true
      | then-code-offset-via-else-code-offset+then-words-offset w ↦ bad-words _ _ _ _ _ _ p _ _ read c.loop-i-test.true w.if-code-offset.false w.if-words-offset.true
    ]

pub overflow_add-offset-in-loop-i : goal.overflow_add-offset-in-loop-i
overflow_add-offset-in-loop-i c = omega (arith, small _ _ _ c.type_inv.list c.pair_at-words.ensures)

pub loop-i-preserved : goal.loop-i-preserved
loop-i-preserved c =
    let list = c.args.list.now in
    let label = c.args.label.now in
    let first = c.loop-i.first in
    let code = c.pair_at-code.result in
    let words = c.pair_at-words.result in
    let same = same_text (part_by list code) label in
    let s = small list _ _ c.type_inv.list c.pair_at-words.ensures in
    let tests = c.is_none.ensures in
    let compares = λ (part : List ℕ) (b : Bool) (e : part ≡ part_by list code) (f : b ≡ same_text part label). sym (f ∙ ap (λ (t : List ℕ). same_text t label) e) in
    let next : c.if-is_none.first ≡ earlier first (matched same words) =
    elim c.if-is_none.branch [
      | then-is_none+then-same_text w ↦ takes first _ _ same words tests w.if-is_none.true (compares _ _ w.part_of.ensures w.same_text.ensures ∙ w.if-same_text.true) w.first-is
      | else-is_none w ↦ elim w.else-is_none.branch [
        | else-is_none-via-then-is_none+else-same_text v ↦ passes first _ _ same words tests v.if-is_none.true (compares _ _ v.part_of.ensures v.same_text.ensures ∙ v.if-same_text.false) w.first-is
        | else-is_none-via-else-is_none v ↦ keeps first _ _ same words tests v.if-is_none.false w.first-is
      ]
    ] in
    record {
      few = c.loop-i.invariant.few;
      fits = omega arith;
      passed = more _ _ _ _ _ _ c.loop-i.invariant.passed _ _ (reads list _ _ _ c.pair_at-code.ensures c.pair_at-words.ensures) c.loop-i-test.true c.if-code-offset.false c.if-words-offset.false _ next;
    }

pub returns-then-offset-list : goal.returns-then-offset-list
returns-then-offset-list c = bad-end _ _ _ _ _ _ c.loop-i.invariant.passed c.loop-i-test.false c.if-offset-list.true

pub returns : goal.returns
returns c = whole _ _ _ _ _ _ c.loop-i.invariant.passed c.loop-i-test.false c.if-offset-list.false
