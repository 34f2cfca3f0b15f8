-- Worked cases of `ticked`, as one table that antt computes.
use Rattle.std.specs.Prelude.{ℕ, Bool, true, false, not, ◌&&◌, cond, List, [], ◌∷◌, eqb, Float}
use Rattle.std.specs.Float.{nan, binary32}
use Rattle.std.specs.Float.Ieee.{of_bits, to_bits}
use Rattle.float32.specs.Helpers.{zero_f, one_f, infinity_f}
use Rattle.steps.specs.declared.Entry.{Entry}
use Rattle.steps.specs.declared.Stepped.{Stepped}
use Rattle.steps.specs.Times.{two_f}
use Rattle.steps.specs.Rows.{ticked}

-- the step from prev to next, the entry, its leaf's reply; and the row that it is sent, and the mark that it leaves
pub record Case : Type 0 where
  pub prev : Float
  pub next : Float
  pub entry : Entry
  pub reply : ℕ
  pub kind : ℕ
  pub amount : Float
  pub place : Float
  pub done : Bool

-- the two have the same bits: 0.0 and -0.0 have not
abbrev pub same_bits : Float → Float → Bool
same_bits x y = eqb (to_bits binary32 x) (to_bits binary32 y)

-- the row and the mark are those of the case
unfoldable pub gives : Stepped → Case → Bool
gives s k =
    eqb s.row.kind k.kind && (same_bits s.row.amount k.amount && (same_bits s.row.place k.place && cond s.done k.done (not k.done)))

-- the definition gives what the case says
unfoldable pub case_holds : Case → Bool
case_holds k = gives (ticked k.prev k.next k.entry k.reply) k

-- of every case
unfoldable pub all_hold : List Case → Bool
all_hold [] = true
all_hold (k ∷ ks) = case_holds k && all_hold ks

-- 0.5, 1.5, 3 and 4
abbrev half_f : Float
half_f = of_bits binary32 0x3f000000

abbrev one_half_f : Float
one_half_f = of_bits binary32 0x3fc00000

abbrev three_f : Float
three_f = of_bits binary32 0x40400000

abbrev four_f : Float
four_f = of_bits binary32 0x40800000

-- an entry at 1 s of this length, with this mark
abbrev lasting : Float → Bool → Entry
lasting duration done = record { start = one_f; duration = duration; done = done }

-- from 1 s to 3 s, without the mark and with it
abbrev running : Entry
running = lasting two_f false

abbrev finished : Entry
finished = lasting two_f true

-- of no length, and without end
abbrev instant : Entry
instant = lasting zero_f false

abbrev endless : Entry
endless = lasting infinity_f false

-- a case, of its parts
abbrev case : Float → Float → Entry → ℕ → ℕ → Float → Float → Bool → Case
case prev next e reply kind amount place mark =
    record { prev = prev; next = next; entry = e; reply = reply; kind = kind; amount = amount; place = place; done = mark }

-- the cases, worked from the Rust by hand: the step, the entry, the reply; the kind, the amount, the place, the mark
unfoldable pub table : List Case
table =
    -- the step ends before the start: a reset, which takes the mark away
    case zero_f half_f running 1 1 zero_f zero_f false
    ∷ case zero_f half_f finished 0 1 zero_f zero_f false
    -- it starts before the start and ends after it: a reset, an update by what follows the start
    ∷ case zero_f two_f running 1 5 one_f zero_f false
    -- it ends exactly at the start: a reset, and nothing to update
    ∷ case zero_f one_f running 1 1 zero_f zero_f false
    -- the next one starts exactly there: a reset again, and an update
    ∷ case one_f two_f running 1 5 one_f zero_f false
    -- it lies inside the run
    ∷ case one_half_f two_f running 1 4 half_f zero_f false
    -- it ends exactly at the end: an update, then a seek to the end
    ∷ case two_f three_f running 1 12 one_f one_f true
    -- it goes over the whole entry: all three
    ∷ case zero_f four_f running 1 13 two_f one_f true
    -- it starts at the end: a seek to the end, whatever the mark and the reply
    ∷ case three_f four_f running 1 8 zero_f one_f true
    ∷ case three_f four_f finished 0 8 zero_f one_f true
    -- an entry of no length: inside the step, exactly at its end, behind it, before it
    ∷ case zero_f two_f instant 1 9 zero_f one_f true
    ∷ case zero_f one_f instant 1 9 zero_f one_f true
    ∷ case two_f three_f instant 1 8 zero_f one_f true
    ∷ case zero_f half_f instant 1 1 zero_f zero_f false
    -- the leaf stops in its update: the entry is done before its end
    ∷ case one_half_f two_f running 0 4 half_f zero_f true
    ∷ case zero_f two_f running 0 5 one_f zero_f true
    -- a reply without an update does not count
    ∷ case zero_f one_f running 0 1 zero_f zero_f false
    ∷ case two_f two_f running 0 0 zero_f zero_f false
    -- the mark stays, where there is no reset
    ∷ case one_half_f two_f finished 1 4 half_f zero_f true
    -- and goes with a reset, though the step goes on into the entry
    ∷ case zero_f two_f finished 1 5 one_f zero_f false
    -- a step of length 0: inside nothing is sent; at the start a reset; at the end a seek
    ∷ case two_f two_f running 1 0 zero_f zero_f false
    ∷ case two_f two_f finished 1 0 zero_f zero_f true
    ∷ case one_f one_f running 1 1 zero_f zero_f false
    ∷ case three_f three_f running 1 8 zero_f one_f true
    -- an entry without end ends at infinity only
    ∷ case zero_f four_f endless 1 5 three_f zero_f false
    ∷ case two_f infinity_f endless 1 12 infinity_f one_f true
    -- next is NaN: no comparison holds, and `min` passes it over, so the update goes to the end and no seek follows
    ∷ case zero_f nan running 1 4 two_f zero_f false
    ∷ case zero_f nan instant 1 0 zero_f zero_f false
    -- prev is NaN: no reset, and `max` passes it over
    ∷ case nan two_f finished 1 4 one_f zero_f true
    ∷ []
