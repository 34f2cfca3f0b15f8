-- Turns of the program: what they wrote and what is still to come is one log, however the input is cut into pieces.
use Prim.Native.Nat.{ℕ, zero, suc, ◌+◌, ◌-◌, ◌≤◌}
use mathlib.Core.Path.{◌≡◌, refl, sym, ap, ◌∙◌}
use mathlib.Core.Bool.{Bool, true, false, cond, ◌&&◌}
use mathlib.Core.List.{List, [], ◌∷◌, ◌++◌, append_assoc, append-nil, foldl}
use native.Mathlib.Nat.{not-suc-le-zero}
use native.Mathlib.Omega.{arith}
use borrow.Author.Tests.{leb-true, eqb-true}
use lib.Dec.{eqb}
use lib.ListN.{length, take, drop, length-append, length-drop, take-append-drop, drop_of_length-le}
use lib.Seq.{drop-drop, take-append-le, drop-append-le}
use Rattle.std.specs.Prelude.{Option}
use Rattle.std.proofs.lemmas.Bool.{and_parts}
use Rattle.call_log.specs.declared.Log.{Log}
use Rattle.call_log.specs.Lines.{shown_all}
use Rattle.call_log.specs.Logs.{call_size}
use Rattle.call_log.specs.Machine.{next_lines, next_log, next_bytes, least_bytes, is_next, Calls, call_then, batch_from}
use Rattle.log_history.specs.Turns.{run_from, to_come, Door, Turn, turned}
use Rattle.log_history.specs.Claim.{GoesOn, in_all}
use Rattle.log_history.proofs.Fronts.{front_only}
use Rattle.call_log.proofs.Batches.{some_bytes, is-next, drop-taken, more-calls}

-- ---- what is still to come

-- fuel for as many calls as there are bytes is enough
pub enough_runs : (k m : ℕ) (log : Option Log) (rest : List ℕ) → length rest ≤ k → length rest ≤ m → run_from k log rest ≡ run_from m log rest
unfolding run_from
enough_runs zero zero log rest h i = refl
enough_runs zero (suc m) log [] h i = refl
enough_runs (suc k) zero log [] h i = refl
enough_runs (suc k) (suc m) log [] h i = refl
enough_runs zero (suc m) log (b ∷ rest) h i = absurd (not-suc-le-zero h)
enough_runs (suc k) zero log (b ∷ rest) h i = absurd (not-suc-le-zero i)
enough_runs (suc k) (suc m) log (b ∷ rest) h i =
    let l = length-drop call_size (b ∷ rest) in
    rw (enough_runs k m (next_log log (b ∷ rest)) (drop call_size (b ∷ rest)) (omega arith) (omega arith))

-- the next line, and then those behind it
next_comes : (log : Option Log) (rest : List ℕ) → 1 ≤ length rest → to_come log rest ≡ next_bytes log rest ++ to_come (next_log log rest) (drop call_size rest)
unfolding run_from
next_comes log [] h = absurd (not-suc-le-zero h)
next_comes log (b ∷ rest) h =
    let l = length-drop call_size (b ∷ rest) in
    rw (enough_runs (length rest) (length (drop call_size (b ∷ rest))) (next_log log (b ∷ rest)) (drop call_size (b ∷ rest)) (omega arith) (omega arith))

-- ---- a batch

module _ (log : Option Log) (bytes unread : List ℕ) where
  -- the next call is the same with what is unread behind the bytes: its line, the log after it, and the rest
  pub record Same : Type 0 where
    pub line : next_bytes log (bytes ++ unread) ≡ next_bytes log bytes
    pub after : next_log log (bytes ++ unread) ≡ next_log log bytes
    pub behind : drop call_size (bytes ++ unread) ≡ drop call_size bytes ++ unread

  same_next : (ended : Bool) → (ended ≡ true → unread ≡ []) → least_bytes ended ≤ length bytes → Same
  same_next true h i = rw (h refl) (record { line = rw append-nil; after = rw append-nil; behind = rw (append-nil bytes, append-nil (drop call_size bytes)) })
  same_next false h i =
      let whole = front_only log (bytes ++ unread) call_size (omega arith) in
      let part = front_only log bytes call_size (omega arith) in
      let cut = take-append-le call_size bytes unread i in
      record {
        line = ap shown_all (sym whole.0 ∙ ap (next_lines log) cut ∙ part.0);
        after = sym whole.1 ∙ ap (next_log log) cut ∙ part.1;
        behind = drop-append-le call_size bytes unread i;
      }

-- what a batch wrote, and what is still to come of the bytes that it did not use and of those behind them
abbrev left : Calls → List ℕ → List ℕ → List ℕ
left b bytes unread = b.text ++ to_come b.log (drop b.used bytes ++ unread)

-- of calls that are made where a test holds
left_cond : (b : Bool) (x y : Calls) (bytes unread log : List ℕ) → (b ≡ true → left x bytes unread ≡ log) → left y bytes unread ≡ log → left (cond b x y) bytes unread ≡ log
left_cond true x y bytes unread log e f = e refl
left_cond false x y bytes unread log e f = f

module _ (ended : Bool) (unread : List ℕ) (ends : ended ≡ true → unread ≡ []) where
  -- a call, and then calls that lose nothing
  call-keeps : (log : Option Log) (bytes : List ℕ) (b : Calls) → least_bytes ended ≤ length bytes → left b (drop call_size bytes) unread ≡ to_come (next_log log bytes) (drop call_size bytes ++ unread)
      → left (call_then (length (take call_size bytes)) (next_bytes log bytes) b) bytes unread ≡ to_come log (bytes ++ unread)
  call-keeps log bytes b h e =
      let same = same_next log bytes unread ended ends h in
      let some : 1 ≤ length (bytes ++ unread) = omega (arith, some_bytes ended, length-append bytes unread) in
      let rest : drop (length (take call_size bytes) + b.used) bytes ≡ drop b.used (drop call_size bytes) =
      sym (drop-drop b.used (length (take call_size bytes)) bytes) ∙ ap (drop b.used) (drop-taken call_size bytes) in
      rw (append_assoc, rest, e) (sym (next_comes log (bytes ++ unread) some ∙ rw (same.line, same.after, same.behind)))

  batch-keeps : (k : ℕ) (log : Option Log) (bytes : List ℕ) (room : ℕ) → left (batch_from k ended log bytes room) bytes unread ≡ to_come log (bytes ++ unread)
  unfolding batch_from
  batch-keeps zero log bytes room = refl
  batch-keeps (suc k) log bytes room =
      left_cond (is_next ended bytes room) _ _ bytes unread _
      (λ e. call-keeps log bytes _ (leb-true _ _ (and_parts _ _ e).0) (batch-keeps k (next_log log bytes) (drop call_size bytes) (room - length (next_bytes log bytes)))) refl

-- room for a line and the bytes of a call: the call is made
pub goes_on : GoesOn
goes_on ended log bytes room h i = rw (more-calls ended log bytes room (is-next ended bytes room h i)) (omega arith)

-- ---- turns

-- a list of no length
nothing : (xs : List ℕ) → eqb (length xs) 0 ≡ true → xs ≡ []
nothing xs e = drop_of_length-le xs {i = 0} (omega (arith, eqb-true (length xs) 0 e))

-- a turn loses nothing
turn_keeps : (d : Door) (t : Turn) → in_all (turned d t) ≡ in_all d
unfolding turned
turn_keeps d t =
    let bytes = d.kept ++ take t.count d.unread in
    let unread = drop t.count d.unread in
    let all : bytes ++ unread ≡ d.kept ++ d.unread = append_assoc d.kept (take t.count d.unread) unread ∙ ap (d.kept ++◌) (take-append-drop t.count d.unread) in
    let keeps = batch-keeps (t.asks && eqb (length unread) 0) unread (λ e. nothing unread (and_parts t.asks (eqb (length unread) 0) e).1) (length bytes) d.log bytes t.room in
    rw append_assoc (ap (d.text ++◌) (keeps ∙ ap (to_come d.log) all))

-- nor do turns
pub turns-keep : (turns : List Turn) (d : Door) → in_all (foldl turned d turns) ≡ in_all d
turns-keep [] d = refl
turns-keep (t ∷ turns) d = turns-keep turns (turned d t) ∙ turn_keeps d t
