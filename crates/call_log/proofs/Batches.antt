-- Batches of calls: one call more, and how much fuel is enough.
use Prim.Native.Nat.{ℕ, zero, suc, ◌+◌, ◌-◌, ◌%◌, ◌≤◌, ◌<◌, min}
use mathlib.Core.Path.{◌≡◌, refl, sym, ap, subst, ◌∙◌}
use mathlib.Core.Bool.{Bool, true, false, cond, ◌&&◌}
use mathlib.Core.List.{List, [], ◌∷◌, ◌++◌, append_assoc, append-nil}
use native.Mathlib.Nat.{not-suc-le-zero, add_assoc, add-zero, zero-add, sub-zero}
use native.Mathlib.Omega.{arith}
use borrow.Author.Tests.{le-leb, lt-leb, leb-true, leb-false}
use lib.Dec.{leb}
use lib.ListN.{length, take, drop, length-take, length-drop}
use Rattle.std.specs.Prelude.{Option, None, Some}
use Rattle.track.specs.Tracks.{live}
use Rattle.track.specs.Columns.{entries_in}
use Rattle.track.proofs.Columns.{counted as entries-counted}
use Rattle.player.specs.declared.engine.Player.{Player}
use Rattle.player.specs.Answered.{playing_in, SameColumns}
use Rattle.player.proofs.Loops.{left_of, left_then, same_columns}
use Rattle.digits.specs.Digits.{put_at}
use Rattle.call_log.specs.declared.Log.{Log}
use Rattle.call_log.specs.Lines.{line_size, shown, shown_all, Wrote}
use Rattle.call_log.specs.Logs.{call_size, outcome_at, call_line}
use Rattle.call_log.specs.Machine.{counted, next_lines, next_bytes, next_log, log_in, line_bytes, Logs, least_bytes, is_next, no_calls, Calls, call_then, batch_from, batch_of, RunsTo}
use Rattle.call_log.proofs.Fronts.{outcome-front, chunk_is}
use Rattle.call_log.proofs.Making.{next-goes}
use Rattle.call_log.proofs.InPlace.{Runs}
use Rattle.call_log.proofs.Writing.{wrote_length, wrote_then, wrote_none, wrote_all}

-- ---- one call more

-- no bytes have no call
none_next : (ended : Bool) (room : ℕ) → is_next ended [] room ≡ false
none_next true room = refl
none_next false room = refl

-- a call has a byte
pub some_bytes : (ended : Bool) → 1 ≤ least_bytes ended
some_bytes true = omega arith
some_bytes false = omega arith

-- and no more than a call's bytes are asked for
pub least_few : (ended : Bool) → least_bytes ended ≤ call_size
least_few true = omega arith
least_few false = omega arith

and-false : (a b : Bool) → b ≡ false → a && b ≡ false
and-false true b e = e
and-false false b e = refl

-- when a call is made
module _ (ended : Bool) (bytes : List ℕ) (room : ℕ) where
  pub is-next : least_bytes ended ≤ length bytes → line_size ≤ room → is_next ended bytes room ≡ true
  is-next h i = rw (le-leb (least_bytes ended) (length bytes) h, le-leb line_size room i)

  pub no_bytes : length bytes < least_bytes ended → is_next ended bytes room ≡ false
  no_bytes h = rw (lt-leb (least_bytes ended) (length bytes) h)

  pub no_room : least_bytes ended ≤ length bytes → room < line_size → is_next ended bytes room ≡ false
  no_room h i = rw (le-leb (least_bytes ended) (length bytes) h, lt-leb line_size room i)

  pub none_fits : room < line_size → is_next ended bytes room ≡ false
  none_fits i = and-false _ _ (lt-leb line_size room i)

-- what the bytes after a call are, by the bytes that it used
pub drop-taken : (n : ℕ) (xs : List ℕ) → drop (length (take n xs)) xs ≡ drop n xs
drop-taken zero xs = refl
drop-taken (suc n) [] = refl
drop-taken (suc n) (x ∷ xs) = drop-taken n xs

module _ (ended : Bool) where
  -- fuel for as many calls as there are bytes is enough
  enough : (k m : ℕ) (log : Option Log) (bytes : List ℕ) (room : ℕ) → length bytes ≤ k → length bytes ≤ m → batch_from k ended log bytes room ≡ batch_from m ended log bytes room
  unfolding batch_from
  enough zero zero log bytes room h i = refl
  enough zero (suc m) log [] room h i = rw (none_next ended room)
  enough (suc k) zero log [] room h i = rw (none_next ended room)
  enough zero (suc m) log (b ∷ bytes) room h i = absurd (not-suc-le-zero h)
  enough (suc k) zero log (b ∷ bytes) room h i = absurd (not-suc-le-zero i)
  enough (suc k) (suc m) log bytes room h i =
      let l = length-drop call_size bytes in
      rw (enough k m (next_log log bytes) (drop call_size bytes) (room - length (next_bytes log bytes)) (omega arith) (omega arith))

  -- a call that is made comes first, and where none is made there are none
  module _ (log : Option Log) (bytes : List ℕ) (room : ℕ) where
    pub more-calls : is_next ended bytes room ≡ true
        → batch_of ended log bytes room ≡ call_then (length (take call_size bytes)) (next_bytes log bytes) (batch_of ended (next_log log bytes) (drop call_size bytes) (room - length (next_bytes log bytes)))
    unfolding batch_from
    more-calls e = go bytes e
      where
        go : (s : List ℕ) → is_next ended s room ≡ true
            → batch_of ended log s room ≡ call_then (length (take call_size s)) (next_bytes log s) (batch_of ended (next_log log s) (drop call_size s) (room - length (next_bytes log s)))
        go [] f = let z = sym (none_next ended room) ∙ f in cc
        go (b ∷ s) f =
            let l = length-drop call_size (b ∷ s) in
            rw (f, enough (length s) (length (drop call_size (b ∷ s))) (next_log log (b ∷ s)) (drop call_size (b ∷ s)) (room - length (next_bytes log (b ∷ s))) (omega arith) (omega arith))

    pub no-calls : is_next ended bytes room ≡ false → batch_of ended log bytes room ≡ no_calls log
    unfolding batch_from
    no-calls e = go (length bytes)
      where
        go : (k : ℕ) → batch_from k ended log bytes room ≡ no_calls log
        go zero = refl
        go (suc k) = rw e

-- ---- a sheet that was refused

closed_cond : (b : Bool) (n : ℕ) (c : Calls) → c ≡ record { used = c.used; text = []; log = None } → cond b (call_then n [] c) (no_calls None) ≡ record { used = (cond b (call_then n [] c) (no_calls None)).used; text = []; log = None }
closed_cond true n c e = ap (λ (d : Calls). call_then n [] d) e
closed_cond false n c e = refl

module _ (ended : Bool) where
  -- the calls have no lines, and leave no log
  closed_from : (k : ℕ) (bytes : List ℕ) (room : ℕ) → batch_from k ended None bytes room ≡ record { used = (batch_from k ended None bytes room).used; text = []; log = None }
  unfolding batch_from next_lines next_log shown_all
  closed_from zero bytes room = refl
  closed_from (suc k) bytes room = closed_cond (is_next ended bytes room) (length (take call_size bytes)) _ (closed_from k (drop call_size bytes) (room - 0))

  pub closed_batch : (bytes : List ℕ) (room : ℕ) → batch_of ended None bytes room ≡ record { used = (batch_of ended None bytes room).used; text = []; log = None }
  closed_batch bytes room = closed_from (length bytes) bytes room

  -- where a line has no room they use nothing up
  pub none_used : (bytes : List ℕ) (room : ℕ) → room < line_size → (batch_of ended None bytes room).used ≡ 0
  none_used bytes room h = ap (λ (c : Calls). c.used) (no-calls ended None bytes room (none_fits ended bytes room h))

-- else all calls: one more where its bytes are there
module _ (ended : Bool) (k : ℕ) (bytes : List ℕ) (room : ℕ) (h : line_size ≤ room) where
  one_used : least_bytes ended ≤ length bytes → (batch_from (suc k) ended None bytes room).used ≡ min call_size (length bytes) + (batch_from k ended None (drop call_size bytes) room).used
  unfolding batch_from next_lines next_log shown_all
  one_used i = rw (is-next ended bytes room i h, sub-zero, length-take)

  last_used : length bytes < least_bytes ended → (batch_from (suc k) ended None bytes room).used ≡ 0
  unfolding batch_from
  last_used i = rw (no_bytes ended bytes room i)

-- so whole calls, and where the input has ended what is left over, too
abbrev passed : Bool → ℕ → ℕ
passed ended n = cond ended n (n - n % call_size)

module _ (room : ℕ) (h : line_size ≤ room) where
  one_more_used : (k : ℕ) (ended : Bool) (bytes : List ℕ) → (batch_from k ended None (drop call_size bytes) room).used ≡ passed ended (length (drop call_size bytes))
      → (batch_from (suc k) ended None bytes room).used ≡ passed ended (length bytes)
  one_more_used k true bytes e = go (leb 1 (length bytes)) refl
    where
      go : (b : Bool) → leb 1 (length bytes) ≡ b → (batch_from (suc k) true None bytes room).used ≡ length bytes
      go true t = let l : 1 ≤ length bytes = leb-true _ _ t in omega (arith, one_used true k bytes room h l, e, length-drop call_size bytes)
      go false t = let l : length bytes < 1 = leb-false _ _ t in omega (arith, last_used true k bytes room h l)
  one_more_used k false bytes e = go (leb call_size (length bytes)) refl
    where
      go : (b : Bool) → leb call_size (length bytes) ≡ b → (batch_from (suc k) false None bytes room).used ≡ length bytes - length bytes % call_size
      go true t = let l : call_size ≤ length bytes = leb-true _ _ t in omega (arith, one_used false k bytes room h l, e, length-drop call_size bytes)
      go false t = let l : length bytes < call_size = leb-false _ _ t in omega (arith, last_used false k bytes room h l)

  used_from : (k : ℕ) (ended : Bool) (bytes : List ℕ) → length bytes ≤ k → (batch_from k ended None bytes room).used ≡ passed ended (length bytes)
  unfolding batch_from
  used_from zero true bytes i = omega arith
  used_from zero false bytes i = omega arith
  used_from (suc k) ended bytes i = one_more_used k ended bytes (used_from k ended (drop call_size bytes) (omega (arith, length-drop call_size bytes)))

  pub all_used : (ended : Bool) (bytes : List ℕ) → (batch_of ended None bytes room).used ≡ passed ended (length bytes)
  all_used ended bytes = used_from (length bytes) ended bytes (omega arith)

pub ruleset used = (none_used, all_used)

-- ---- the loop

-- So far: lines were written, and the whole batch is these and what is still to come of the rest.
pub record SoFar (ended : Bool) (log₀ : Log) (bytes old out : List ℕ) (log : Log) (rest : List ℕ) (used len : ℕ) : Type 0 where
  pub text : List ℕ
  pub wrote : Wrote text 0 old out len
  pub whole : batch_of ended (Some log₀) bytes (length old) ≡ call_then used text (batch_of ended (Some log) rest (length old - len))

-- as many entries count after it
same_count : {p q : Player} → SameColumns p q → length (live (playing_in q)) ≡ length (live (playing_in p))
same_count {p} {q} k =
    let n = entries_in q.head.count (length q.spans.starts.now) (length q.spans.durations.now) (length q.marks.now) in
    let e : n ≡ entries_in p.head.count (length p.spans.starts.now) (length p.spans.durations.now) (length p.marks.now) = rw (k.head, k.spans, k.len) in
    sym (entries-counted q.head q.spans.starts.now q.spans.durations.now q.marks.now refl) ∙ entries-counted p.head p.spans.starts.now p.spans.durations.now p.marks.now e

-- the same columns, twice
pub then_columns : {p q r : Player} → SameColumns p q → SameColumns q r → SameColumns p r
then_columns {p} {q} {r} a b =
    same_columns (left_then (left_of a) (left_of b)) (b.len ∙ a.len) (subst (λ (n : ℕ). drop n r.marks.now ≡ drop n q.marks.now) (same_count a) b.spare ∙ a.spare)

module _ (ended : Bool) (log₀ : Log) (bytes old : List ℕ) where
  -- nothing is written
  pub none_yet : (rest : List ℕ) → rest ≡ bytes → SoFar ended log₀ bytes old old log₀ rest 0 0
  none_yet rest e = rw e (record { text = []; wrote = wrote_none 0 old; whole = rw (zero-add, sub-zero) })

  module _ (out : List ℕ) (log : Log) (rest : List ℕ) (used len : ℕ) (s : SoFar ended log₀ bytes old out log rest used len) where
    -- the room stays as long as it was
    pub same-room : len ≤ length old → length out ≡ length old
    same-room h = wrote_length s.wrote h

    -- one line more: that of a chunk x, before more
    module _ (x more new : List ℕ) (number n : ℕ) (p q : Player) (ep : log.track ≡ playing_in p) (en : number ≡ counted log.number) (e : rest ≡ x ++ more) (size : length x ≡ min call_size (length rest))
        (there : least_bytes ended ≤ length rest) (room : line_size ≤ length old - len) where
      -- whatever the columns
      pub more-by : playing_in q ≡ (outcome_at (playing_in p) x).track → n ≡ length (line_bytes number p x) → new ≡ put_at (line_bytes number p x) len out → len + n ≤ length old
          → SoFar ended log₀ bytes old new (log_in number q) more (used + length x) (len + n)
      more-by et el ew few =
          let c = chunk_is rest x more e size in
          let same : outcome_at (playing_in p) x ≡ outcome_at log.track rest =
          rw ep (ap (outcome_at (playing_in p)) (sym c.0) ∙ outcome-front (playing_in p) rest call_size (omega arith)) in
          let goes = next-goes log rest (omega (arith, some_bytes ended)) in
          let line = shown (call_line (counted log.number) (outcome_at log.track rest)) in
          let ln : n ≡ length line = rw (same, en) at el in
          let tr : playing_in q ≡ (outcome_at log.track rest).track = rw same at et in
          let left : length old - (len + n) ≡ length old - len - length line = omega arith in
          record {
            text = s.text ++ line;
            wrote = wrote_then s.wrote (record { bytes = rw (same, en) at ew; ends = ap (len +◌) ln }) few;
            whole = rw (tr, en, left) (s.whole ∙ rw (more-calls ended (Some log) rest (length old - len) (is-next ended rest (length old - len) there room), goes.0, goes.1, c.0, c.1, add_assoc, append_assoc));
          }

      pub one_more : Logs number p x n q len out new → len + n ≤ length old → SoFar ended log₀ bytes old new (log_in number q) more (used + length x) (len + n)
      one_more logs = more-by logs.track logs.len logs.text

    -- no line more; whatever the columns
    pub runs-by : (number : ℕ) (q : Player) → log ≡ log_in number q → is_next ended rest (length old - len) ≡ false
        → Runs (batch_of ended (Some log₀) bytes (length old)) (record { number = number; used = used; len = len }) q old out
    runs-by number q el e =
        let all : batch_of ended (Some log₀) bytes (length old) ≡ call_then used s.text (no_calls (Some log)) = rw (no-calls ended (Some log) rest (length old - len) e) at s.whole in
        rw (all, append-nil, add-zero, el) (refl, wrote_all s.wrote, refl, s.wrote.bytes)

    pub no_more : (number : ℕ) (p q : Player) → log ≡ log_in number q → is_next ended rest (length old - len) ≡ false → SameColumns p q
        → RunsTo (batch_of ended (Some log₀) bytes (length old)) (record { number = number; used = used; len = len }) p q old out
    no_more number p q el e columns =
        let w = runs-by number q el e in
        record { used = w.0; len = w.1; log = w.2; text = w.3; columns = columns }
