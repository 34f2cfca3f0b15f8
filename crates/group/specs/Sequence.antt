-- `Sequence`: entries that play one after another (sequence.rs). Definitions only.
use Rattle.std.specs.Prelude.{ℕ, ◌≡◌, cond, List, [], ◌∷◌, eqb, Float, Result}
use Rattle.std.specs.Float.{binary32}
use Rattle.std.specs.Float.Ieee.{add}
use Rattle.float32.specs.Helpers.{zero_f, max_f}
use Rattle.refusal.specs.declared.Refusal.{Refusal}
use Rattle.refusal.specs.Refusal.{accepted, number_in, held_or}
use Rattle.timeline.specs.declared.timeline.At.TheVariants.{Absolute}
use Rattle.timeline.specs.Placements.{empty}
use Rattle.timeline.specs.Calls.{Add, AddBoxed, Out, step}
use Rattle.group.specs.declared.sequence.Sequence.{Sequence}

-- a call on a sequence: the two that add an entry (label, duration), and `gap`
pub data SequenceCall : Type 0 where
  Then : List ℕ → Float → SequenceCall
  ThenFor : List ℕ → Float → SequenceCall
  Gap : Float → SequenceCall

-- `Sequence::new`
unfoldable pub new_sequence : Sequence
new_sequence = record { inner = empty; cursor = zero_f }

-- `self.cursor += seconds.max(0.0)`
unfoldable pub cursor_after : Float → Float → Float
cursor_after cursor seconds = add binary32 cursor (max_f seconds zero_f)

-- what a call on a sequence leaves and answers: its refusal, and the sequence
pub record Sequenced : Type 0 where
  pub refusal : ℕ
  pub sequence : Sequence

-- the entry added, and the cursor at its end; "A refused call writes nothing; panel and builder are unchanged"
unfoldable pub then_by : Sequence → Out → Float → Sequenced
then_by s o duration =
    cond (eqb o.refusal accepted)
    (record { refusal = accepted; sequence = record { inner = o.timeline; cursor = cursor_after s.cursor duration } })
    (record { refusal = o.refusal; sequence = s })

-- what each call leaves and answers: an entry is added at `At::Absolute(self.cursor)`
unfoldable pub sequence_step : Sequence → SequenceCall → Sequenced
sequence_step s (Then label duration) = then_by s (step s.inner (Add label (Absolute s.cursor) duration)) duration
sequence_step s (ThenFor label duration) = then_by s (step s.inner (AddBoxed label (Absolute s.cursor) (max_f duration zero_f))) duration
sequence_step s (Gap seconds) =
    record { refusal = accepted; sequence = record { inner = s.inner; cursor = cursor_after s.cursor seconds } }

-- the sequence that a list of calls leaves, each on what the one before left
unfoldable pub sequence_after : Sequence → List SequenceCall → Sequence
sequence_after s [] = s
sequence_after s (c ∷ cs) = sequence_after (sequence_step s c).sequence cs

-- the call with the outcome o, made on the sequence s, answers r: its refusal, or the sequence that it leaves
pub record Goes (o : Sequenced) (s : Sequence) (r : Result Sequence Refusal) : Type 0 where
  pub refusal : number_in r ≡ o.refusal
  pub sequence : held_or s r ≡ o.sequence
