-- Entries laid out in columns, and gathered from them.
use Prim.Native.Nat.{ℕ, ◌+◌, ◌<◌, ◌≤◌, min}
use mathlib.Core.Path.{◌≡◌, refl, sym, ap, subst, ◌∙◌}
use mathlib.Core.Bool.{Bool, false}
use mathlib.Core.List.{List, [], ◌∷◌, ◌++◌, map, foldl}
use native.Mathlib.Omega.{arith}
use lib.ListN.{length, get_or, set, take, length-map, length-set, length-take}
use lib.Seq.{take_all, take-length}
use lib.Ieee.{Float, nan}
use Rattle.steps.specs.declared.Entry.{Entry}
use Rattle.steps.specs.Slices.{over}
use Rattle.steps.specs.Times.{max_entries, base_of}
use Rattle.std.proofs.lemmas.List.{get_or-map}
use Rattle.steps.proofs.Lists.{front, front-more, front-all, part_at}
use Rattle.completions.specs.Columns.{most_entries, ends_in}
use Rattle.clock.specs.declared.Clock.{Clock}
use Rattle.track.specs.declared.track.Track.{Track}
use Rattle.track.specs.declared.track.Playhead.{Playhead}
use Rattle.track.specs.Tracks.{live, marked, marks, with_marks, with_only, track_base}
use Rattle.track.specs.Columns.{entry_of, first_of, track_of, with_clock_at, trimmed, laid_over}
use Rattle.track.specs.Answers.{LaysOut}
use Rattle.track.specs.Claims.{put_back}
use Rattle.track.proofs.Marks.{no_entry}
use Rattle.track.proofs.Columns.{roomy, own, first_at, based}
use Rattle.float32.specs.Helpers.{zero_f, max_f}

-- ---- one column, as the loop fills it

-- the part f of the first i of the entries es stands over the front of a column that has room for them all
pub record Column {A : Type 0} (f : Entry → A) (es : List Entry) (i : ℕ) (old out : List A) : Type 0 where
  pub room : length es ≤ length old
  pub same : length out ≡ length old
  pub held : out ≡ front i (map f es) old

module _ {A : Type 0} (f : Entry → A) (es : List Entry) where
  pub column-none : (old : List A) → length es ≤ length old → Column f es 0 old old
  column-none old h = record { room = h; same = refl; held = refl }

  -- a turn stores the part of the next entry
  pub column-more : (i : ℕ) (old out : List A) (e : Entry) (none : A) → i < length es → e ≡ get_or es i no_entry → Column f es i old out → Column f es (i + 1) old (set out i (f e))
  column-more i old out e none h p c =
      let here : f e ≡ get_or (map f es) i none = ap f p ∙ sym (get_or-map f es i no_entry none h) in
      record {
        room = c.room;
        same = length-set out i (f e) ∙ c.same;
        held = front-more i (map f es) old out (f e) none (omega (arith, length-map es f)) (omega (arith, c.room)) here c.held;
      }

  pub column-all : (i : ℕ) (old out : List A) → i ≡ length es → Column f es i old out → out ≡ over (map f es) old
  column-all i old out e c = front-all i (map f es) old out (e ∙ sym (length-map es f)) c.held

-- ---- entries laid out in columns

-- the columns have the entries, with the marks that stand there
laid_marks : (es : List Entry) (s d : List Float) (m : List Bool) → first_of (length es) (map (λ (e : Entry). e.start) es ++ s) (map (λ (e : Entry). e.duration) es ++ d) m ≡ marks es m
laid_marks [] s d m = refl
laid_marks (e ∷ es) s d [] = refl
laid_marks (e ∷ es) s d (x ∷ m) = ap (λ (t : List Entry). marked e x ∷ t) (laid_marks es s d m)

-- their own, where these were laid out
own_marks : (es : List Entry) (m : List Bool) → marks es (map (λ (e : Entry). e.done) es ++ m) ≡ es
own_marks [] m = refl
own_marks (e ∷ es) m = ap (λ (t : List Entry). e ∷ t) (own_marks es m)

-- the track of the columns is that of the entries
pub laid : (k : Track) (es : List Entry) (h : Playhead) (s₀ s d₀ d : List Float) (m₀ m : List Bool) → length es ≤ most_entries
    → h ≡ record { count = length es; clock = k.clock; looping = k.looping }
    → s ≡ over (map (λ (e : Entry). e.start) es) s₀
    → d ≡ over (map (λ (e : Entry). e.duration) es) d₀
    → m ≡ over (map (λ (e : Entry). e.done) es) m₀
    → track_of h s d m ≡ with_only k es
unfolding track_of
laid k es h s₀ s d₀ d m₀ m few e₀ e₁ e₂ e₃ =
    let most : min (length es) most_entries ≡ length es = omega arith in
    rw (e₀, e₁, e₂, e₃, most, laid_marks es _ _ _, own_marks es _)

-- every live entry is laid out, where the columns take as many as the array has
pub all_laid : (k : Track) → length k.entries ≡ max_entries → {n : ℕ} → n ≡ max_entries → {q : Track} → q ≡ with_only k (take n (live k)) → q ≡ trimmed k
all_laid k l {n} en e = e ∙ ap (with_only k) (take_all n (live k) (omega (arith, l, en, length-take k.count k.entries)))

-- columns of as many places as an array has take every live entry
pub laid-all : {k : Track} {h : Playhead} {s₀ s d₀ d : List Float} {m₀ m : List Bool} → length s₀ ≡ max_entries → length d₀ ≡ max_entries → length m₀ ≡ max_entries
    → LaysOut k (take (min (length s₀) (min (length d₀) (length m₀))) (live k)) h s₀ s d₀ d m₀ m → LaysOut k (take max_entries (live k)) h s₀ s d₀ d m₀ m
laid-all {k} {h} {s₀} {s} {d₀} {d} {m₀} {m} es ed em w =
    let e : min (length s₀) (min (length d₀) (length m₀)) ≡ max_entries = omega (arith, es, ed, em) in
    subst (λ (n : ℕ). LaysOut k (take n (live k)) h s₀ s d₀ d m₀ m) e w

-- what is asked in columns that take all of the track's entries is asked of the trimmed track
pub asked : {A : Type 0} (f : Track → A) (k : Track) → length k.entries ≡ max_entries → {h : Playhead} {s₀ s d₀ d : List Float} {m₀ m : List Bool} → LaysOut k (take max_entries (live k)) h s₀ s d₀ d m₀ m
    → {ss ds : List Float} → ss ≡ s → ds ≡ d → {x : A} → x ≡ f (track_of h ss ds m) → x ≡ f (trimmed k)
asked f k l w es ed e = (rw (es, ed) at e) ∙ ap f (all_laid k l refl w.track)

-- and its base is that of the track
pub base-trimmed : (k : Track) → track_base (trimmed k) ≡ track_base k
base-trimmed k = ap base_of (take-length (live k))

-- the base of the columns is that of the track, where they take all of its entries
pub laid_base : (k : Track) (room : ℕ) {h : Playhead} {s₀ s d₀ d : List Float} {m₀ m : List Bool} {base : Float} → length (live k) ≤ room
    → LaysOut k (take room (live k)) h s₀ s d₀ d m₀ m → base ≡ foldl max_f zero_f (ends_in h.count s d) → base ≡ track_base k
laid_base k room {h = h} {s = s} {d = d} {m = m} l w e =
    let es = take room (live k) in
    let all : h.count ≡ length (live (track_of h s d m)) =
    ap (λ (x : Playhead). x.count) w.head ∙ sym (ap (λ (x : Track). length (live x)) w.track ∙ ap length (take-length es)) in
    based h s d m h.count all e ∙ ap track_base w.track ∙ ap base_of (take-length es ∙ take_all room (live k) l)

-- what a call leaves in the columns, put back into the track that was laid out there: its clock and its marks
pub marks-back : (k : Track) (room : ℕ) {h : Playhead} {s₀ s d₀ d : List Float} {m₀ m : List Bool} → length (live k) ≤ room → length (live k) ≤ most_entries
    → LaysOut k (take room (live k)) h s₀ s d₀ d m₀ m → (c : Clock) (ms : List Bool) → put_back k (track_of (with_clock_at h c) s d ms) ≡ with_marks k c ms
unfolding track_of
marks-back k room l few w c ms =
    let es = take room (live k) in
    let all : es ≡ live k = take_all room (live k) l in
    let most : min (length es) most_entries ≡ length es = omega (arith, few, ap length all) in
    rw (w.head, w.starts, w.durations, most, laid_marks es _ _ ms, all)

-- ---- entries gathered from columns

module _ (h : Playhead) (ss ds : List Float) (ms : List Bool) where
  abbrev pub gathers : List Entry
  gathers = take max_entries (live (track_of h ss ds ms))

  -- one of them, as a turn makes it
  pub gathers-at : (n : ℕ) → n ≡ length (live (track_of h ss ds ms)) → (i : ℕ) → i < length gathers → entry_of (get_or ss i nan) (get_or ds i nan) (get_or ms i false) ≡ get_or gathers i no_entry
  gathers-at n all i l =
      let es = live (track_of h ss ds ms) in
      let room = roomy h ss ds ms n all in
      let below : i < n = omega (arith, all, length-take max_entries es) in
      sym (part_at max_entries es i no_entry l
      ∙ ap (λ (t : List Entry). get_or t i no_entry) (sym (own h ss ds ms n all))
      ∙ first_at n ss ds ms i below room.0 room.1 room.2)

  -- all of them, over the entries of a track
  pub gathered : (k : Track) (n : ℕ) (entries : List Entry) → n ≡ length gathers → entries ≡ over gathers k.entries
      → record { count = n; entries = entries; clock = h.clock; looping = h.looping } ≡ laid_over k (track_of h ss ds ms)
  unfolding track_of laid_over
  gathered k n entries e₀ e₁ = rw (e₀, e₁)
