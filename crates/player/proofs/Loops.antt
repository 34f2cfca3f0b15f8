-- A loop that gives each of the first n entries of three columns its step, and what it leaves of the track that they make.
use Prim.Native.Nat.{ℕ, ◌+◌, ◌<◌, ◌≤◌}
use mathlib.Core.Path.{◌≡◌, refl, sym, ap, subst, ◌∙◌}
use mathlib.Core.Bool.{Bool, false, not, ◌&&◌}
use mathlib.Core.List.{List, map, map-map}
use native.Mathlib.Omega.{arith}
use lib.ListN.{length, get_or, set, drop, length-set, length-map}
use lib.Ieee.{Float, nan}
use Rattle.steps.specs.Rows.{ruled, ticked}
use Rattle.steps.specs.Slices.{over}
use Rattle.steps.specs.declared.Entry.{Entry}
use Rattle.steps.specs.declared.Row.{Row}
use Rattle.steps.specs.declared.Rule.{Rule}
use Rattle.steps.specs.declared.Step.{Step}
use Rattle.steps.specs.declared.Stepped.{Stepped}
use Rattle.std.proofs.lemmas.List.{get_or-map}
use Rattle.std.proofs.lemmas.Slice.{drop-append-drop}
use Rattle.steps.proofs.Lists.{front, front-more, front_at, front-all}
use Rattle.completions.specs.Columns.{most_entries}
use Rattle.completions.specs.declared.Spans.{Spans}
use Rattle.clock.specs.declared.Clock.{Clock}
use Rattle.track.specs.declared.rows.Rows.{Rows}
use Rattle.track.specs.declared.track.Track.{Track}
use Rattle.track.specs.declared.track.Playhead.{Playhead}
use Rattle.track.specs.Tracks.{live, rows_of, done_of, moved, Sent}
use Rattle.track.specs.Columns.{entry_of, first_of, track_of, with_clock_at}
use Rattle.track.specs.Updates.{ticks}
use Rattle.track.proofs.Marks.{no_entry, no_step, length_over}
use Rattle.track.proofs.Columns.{first_at, own, put, roomy}
use Rattle.track.proofs.Ticks.{length-ticks, turn_at}
use Rattle.player.specs.declared.engine.Player.{Player}
use Rattle.player.specs.Answered.{playing_in, SameColumns}
use Rattle.player.specs.Loops.{Reads, entry_at, first_in, ticks_in, SentIn, SentTo}

-- each step's part of the three row slices
abbrev kinds_of : List Stepped → List ℕ
kinds_of = map (λ (s : Stepped). s.row.kind)

abbrev amounts_of : List Stepped → List Float
amounts_of = map (λ (s : Stepped). s.row.amount)

abbrev places_of : List Stepped → List Float
places_of = map (λ (s : Stepped). s.row.place)

-- ---- turn by turn

module _ (n : ℕ) (xs : List Stepped) (ss ds : List Float) (m₀ : List Bool) (k₀ : List ℕ) (a₀ p₀ : List Float) where
  -- after i of n turns
  pub record Kept (m : List Bool) (k : List ℕ) (a p : List Float) (i : ℕ) : Type 0 where
    pub within : i ≤ n
    pub each : length xs ≡ n
    pub room-s : n ≤ length ss
    pub room-d : n ≤ length ds
    pub room-m : n ≤ length m₀
    pub room-k : n ≤ length k₀
    pub room-a : n ≤ length a₀
    pub room-p : n ≤ length p₀
    pub same-m : length m ≡ length m₀
    pub same-k : length k ≡ length k₀
    pub same-a : length a ≡ length a₀
    pub same-p : length p ≡ length p₀
    pub marks-are : m ≡ front i (done_of xs) m₀
    pub kinds : k ≡ front i (kinds_of xs) k₀
    pub amounts : a ≡ front i (amounts_of xs) a₀
    pub places : p ≡ front i (places_of xs) p₀

  pub none_kept : length xs ≡ n → n ≤ length ss → n ≤ length ds → n ≤ length m₀ → n ≤ length k₀ → n ≤ length a₀ → n ≤ length p₀ → Kept m₀ k₀ a₀ p₀ 0
  none_kept e hs hd hm hk ha hp =
      record {
        within = omega arith;
        each = e;
        room-s = hs;
        room-d = hd;
        room-m = hm;
        room-k = hk;
        room-a = ha;
        room-p = hp;
        same-m = refl;
        same-k = refl;
        same-a = refl;
        same-p = refl;
        marks-are = refl;
        kinds = refl;
        amounts = refl;
        places = refl;
      }

  module _ (m : List Bool) (k : List ℕ) (a p : List Float) (i : ℕ) (inv : Kept m k a p i) where
    -- what a turn reads
    pub next-kept : i < n → entry_of (get_or ss i nan) (get_or ds i nan) (get_or m i false) ≡ get_or (first_of n ss ds m₀) i no_entry
    next-kept h =
        let ld = length-map xs (λ (x : Stepped). x.done) in
        let mark : get_or m i false ≡ get_or m₀ i false = front_at i (done_of xs) m₀ m false (omega (arith, ld, inv.each, inv.within)) (omega (arith, inv.within, inv.room-m)) inv.marks-are in
        ap (entry_of (get_or ss i nan) (get_or ds i nan)) mark ∙ sym (first_at n ss ds m₀ i h inv.room-s inv.room-d inv.room-m)

    -- one turn
    pub one_kept : i < n → (s : Stepped) → s ≡ get_or xs i no_step → (m' : List Bool) → m' ≡ set m i s.done → Kept m' (set k i s.row.kind) (set a i s.row.amount) (set p i s.row.place) (i + 1)
    one_kept h s step m' em =
        let each = inv.each in
        let ld = length-map xs (λ (x : Stepped). x.done) in
        let lk = length-map xs (λ (x : Stepped). x.row.kind) in
        let la = length-map xs (λ (x : Stepped). x.row.amount) in
        let lp = length-map xs (λ (x : Stepped). x.row.place) in
        record {
          within = omega arith;
          each = each;
          room-s = inv.room-s;
          room-d = inv.room-d;
          room-m = inv.room-m;
          room-k = inv.room-k;
          room-a = inv.room-a;
          room-p = inv.room-p;
          same-m = ap length em ∙ length-set m i s.done ∙ inv.same-m;
          same-k = length-set k i s.row.kind ∙ inv.same-k;
          same-a = length-set a i s.row.amount ∙ inv.same-a;
          same-p = length-set p i s.row.place ∙ inv.same-p;
          marks-are = em ∙ front-more i (done_of xs) m₀ m s.done false (omega arith) (omega arith) (ap (λ (x : Stepped). x.done) step ∙ sym (get_or-map (λ (x : Stepped). x.done) xs i no_step _ (omega arith))) inv.marks-are;
          kinds = front-more i (kinds_of xs) k₀ k s.row.kind 0 (omega arith) (omega arith) (ap (λ (x : Stepped). x.row.kind) step ∙ sym (get_or-map (λ (x : Stepped). x.row.kind) xs i no_step _ (omega arith))) inv.kinds;
          amounts = front-more i (amounts_of xs) a₀ a s.row.amount nan (omega arith) (omega arith) (ap (λ (x : Stepped). x.row.amount) step ∙ sym (get_or-map (λ (x : Stepped). x.row.amount) xs i no_step _ (omega arith))) inv.amounts;
          places = front-more i (places_of xs) p₀ p s.row.place nan (omega arith) (omega arith) (ap (λ (x : Stepped). x.row.place) step ∙ sym (get_or-map (λ (x : Stepped). x.row.place) xs i no_step _ (omega arith))) inv.places;
        }

    -- after the last turn
    pub all-kept : n ≤ i → (m ≡ over (done_of xs) m₀) × Sent (rows_of xs) k₀ k a₀ a p₀ p
    all-kept h =
        let each = inv.each in
        let ld = length-map xs (λ (x : Stepped). x.done) in
        let lk = length-map xs (λ (x : Stepped). x.row.kind) in
        let la = length-map xs (λ (x : Stepped). x.row.amount) in
        let lp = length-map xs (λ (x : Stepped). x.row.place) in (
          front-all i (done_of xs) m₀ m (omega arith) inv.marks-are,
          record {
            kinds = front-all i (kinds_of xs) k₀ k (omega arith) inv.kinds ∙ ap (λ (ys : List _). over ys k₀) (sym (map-map (λ (r : Row). r.kind) (λ (s : Stepped). s.row) xs));
            amounts = front-all i (amounts_of xs) a₀ a (omega arith) inv.amounts ∙ ap (λ (ys : List _). over ys a₀) (sym (map-map (λ (r : Row). r.amount) (λ (s : Stepped). s.row) xs));
            places = front-all i (places_of xs) p₀ p (omega arith) inv.places ∙ ap (λ (ys : List _). over ys p₀) (sym (map-map (λ (r : Row). r.place) (λ (s : Stepped). s.row) xs));
          },
        )

-- ---- a turn of a tick

module _ (n : ℕ) (step : Step) (spans : Spans) (ms : List Bool) (rs : List ℕ) where
  abbrev es : List Entry
  es = first_in n spans ms

  abbrev ss : List Stepped
  ss = ticks_in n step spans ms rs

  pub each-step : length ss ≡ length es
  each-step = length-ticks step.prev step.next es rs

  -- what it knows of the entry i, which it has read, and stepped
  pub turn : (i : ℕ) → i < length es → i < length rs → (e : Entry) (s : Stepped) → e ≡ get_or es i no_entry → s ≡ ticked step.prev step.next e (get_or rs i 0)
      → (s ≡ get_or ss i no_step) × ((not e.done && s.done) ≡ (not (get_or es i no_entry).done && (get_or ss i no_step).done))
  turn i h k e s here steps =
      let own = turn_at step.prev step.next es rs i h k e s here steps in
      (own, ap (λ (x : Entry). not x.done && s.done) here ∙ ap (λ (y : Stepped). not (get_or es i no_entry).done && y.done) own)

  -- and of a loop that leaves marks and rows
  pub turn-kept : {k₀ k : List ℕ} {a₀ a p₀ p : List Float} {m : List Bool} {i : ℕ} → Kept n ss spans.starts.now spans.durations.now ms k₀ a₀ p₀ m k a p i → i < n → n ≤ length rs → {e : Entry} {s : Stepped} → e ≡ entry_at i spans m → s ≡ ticked step.prev step.next e (get_or rs i 0)
      → (i < length es) × (s ≡ get_or ss i no_step) × ((not e.done && s.done) ≡ (not (get_or es i no_entry).done && (get_or ss i no_step).done))
  turn-kept {i = i} inv below replies {e} {s} here steps =
      let h : i < length es = omega (arith, each-step, inv.each, below) in
      let x = turn i h (omega (arith, below, replies)) e s (here ∙ next-kept _ _ _ _ _ _ _ _ _ _ _ _ _ inv below) steps in
      (h, x.0, x.1)

-- ---- what the loop leaves of the player

-- q is the player p with the clock c, and with other marks
pub record Left (p q : Player) (c : Clock) : Type 0 where
  pub head : q.head ≡ with_clock_at p.head c
  pub spans : q.spans ≡ p.spans
  pub marks : q.marks.ghost_name ≡ p.marks.ghost_name

-- what is left is left with its own clock
pub left_own : {p q : Player} {c : Clock} → Left p q c → Left p q q.head.clock
left_own {p} {q} {c} l =
    let own : q.head.clock ≡ c = ap (λ (h : Playhead). h.clock) l.head in
    record { head = l.head ∙ ap (with_clock_at p.head) (sym own); spans = l.spans; marks = l.marks }

-- a player in the same columns is left so
pub left_of : {p q : Player} → SameColumns p q → Left p q q.head.clock
left_of k = record { head = k.head; spans = k.spans; marks = k.marks }

-- what is left of what was left is left of the first
pub left_then : {p q r : Player} {b c : Clock} → Left p q b → Left q r c → Left p r c
left_then {c = c} a b = record { head = b.head ∙ ap (λ (h : Playhead). with_clock_at h c) a.head; spans = b.spans ∙ a.spans; marks = b.marks ∙ a.marks }

-- where the marks are as many, and those behind the entries that count are the same
pub same_columns : {p q : Player} {c : Clock} → Left p q c → length q.marks.now ≡ length p.marks.now → drop (length (live (playing_in p))) q.marks.now ≡ drop (length (live (playing_in p))) p.marks.now → SameColumns p q
same_columns l len spare =
    let own = left_own l in
    record { head = own.head; spans = own.spans; marks = own.marks; len = len; spare = spare }

module _ (p : Player) {n : ℕ} (all : n ≡ length (live (playing_in p))) where
  abbrev t : Track
  t = playing_in p

  -- the loops may read n entries, and a byte counts them
  pub reads : Reads n p.spans p.marks.now
  reads =
      let wide = roomy p.head p.spans.starts.now p.spans.durations.now p.marks.now n all in
      (wide.0, wide.1, wide.2)

  pub few : n ≤ most_entries
  few = (roomy p.head p.spans.starts.now p.spans.durations.now p.marks.now n all).3

  module _ {q : Player} {c : Clock} {r s : Rows} (l : Left p q c) where
    -- steps for every entry have been sent
    pub sent-own : (f : List Entry → List Stepped) → ((es : List Entry) → length (f es) ≡ length es) → SentTo (f (first_in n p.spans p.marks.now)) p.marks.now q.marks.now r s
        → SameColumns p q × (playing_in q ≡ moved t c (f (live t))) × SentIn (rows_of (f (live t))) r s
    sent-own f lf s' =
        let ss = p.spans.starts.now in
        let ds = p.spans.durations.now in
        let ms = p.marks.now in
        let e = subst (λ (es : List Entry). SentTo (f es) ms q.marks.now r s) (own p.head ss ds ms n all) s' in
        let columns = ap (λ (x : Spans). track_of q.head x.starts.now x.durations.now q.marks.now) l.spans ∙ ap (λ (h : Playhead). track_of h ss ds q.marks.now) l.head in
        let done = done_of (f (live t)) in
        let each : length done ≡ length (live t) = length-map (f (live t)) (λ (x : Stepped). x.done) ∙ lf (live t) in
        let len : length q.marks.now ≡ length ms = ap length e.0 ∙ length_over done ms (omega (arith, all, each, reads.2)) in
        let spare = ap (drop (length (live t))) e.0 ∙ drop-append-drop (length done) ms done (length (live t)) (omega (arith, each)) refl in
        (same_columns l len spare, columns ∙ put p.head ss ds ms n all c (f (live t)) (lf (live t)) q.marks.now e.0, e.1)

    -- by a rule
    pub applied : (rule : Rule) → SentTo (map (ruled rule) (first_in n p.spans p.marks.now)) p.marks.now q.marks.now r s → SameColumns p q × (playing_in q ≡ moved t c (map (ruled rule) (live t))) × SentIn (rows_of (map (ruled rule) (live t))) r s
    applied rule = sent-own (map (ruled rule)) (λ (es : List Entry). length-map es (ruled rule))

    -- by a tick
    pub ticked-own : (step : Step) (rs : List ℕ) → SentTo (ticks_in n step p.spans p.marks.now rs) p.marks.now q.marks.now r s
        → SameColumns p q × (playing_in q ≡ moved t c (ticks step.prev step.next (live t) rs)) × SentIn (rows_of (ticks step.prev step.next (live t) rs)) r s
    ticked-own step rs = sent-own (λ (es : List Entry). ticks step.prev step.next es rs) (λ (es : List Entry). length-ticks step.prev step.next es rs)
