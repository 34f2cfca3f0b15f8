-- The timeline that a description builds, and the reader's answer. Definitions only.
use Rattle.std.specs.Prelude.{ℕ, cond, List, [], ◌∷◌, eqb, ltb, length, get_or}
use Rattle.float32.specs.Helpers.{from_bits}
use Rattle.label.specs.Label.{text, no_label}
use Rattle.track.specs.Calls.{Looping, SetTimeScale}
use Rattle.timeline.specs.declared.timeline.At.{At}
use Rattle.timeline.specs.declared.timeline.At.TheVariants.{Absolute as AtSecond, Start as AtStart, End as AtEnd, Offset as AfterEnd}
use Rattle.timeline.specs.declared.timeline.Timeline.{Timeline}
use Rattle.timeline.specs.Placements.{empty}
use Rattle.timeline.specs.Calls.{Call, Add, AddAtLabel, On, after}
use Rattle.sheet_rules.specs.declared.record.Placement.{Placement}
use Rattle.sheet_rules.specs.declared.record.Placement.TheVariants.{Absolute, Start, End, Label as Labeled, Offset}
use Rattle.sheet_format.specs.declared.description.Item.{Item}
use Rattle.sheet_format.specs.declared.description.Description.{Description}
use Rattle.sheet_format.specs.Check.{check_number}
use Rattle.sheet_format.specs.Descriptions.{items_in, empty_description, description_in}
use Rattle.refusal.specs.Refusal.{number_if}
use Rattle.sheet.specs.declared.Reading.{Reading}

-- a placement, with floats; a label that is not found is the end
abbrev pub at_of : Placement → At
at_of (Absolute seconds) = AtSecond (from_bits seconds)
at_of Start = AtStart
at_of End = AtEnd
at_of (Labeled k) = AtEnd
at_of (Offset seconds) = AfterEnd (from_bits seconds)

-- what is read past the last entry
abbrev pub no_item : Item
no_item = record { duration = 0; at = Absolute 0; label = no_label }

-- the call that adds an entry at its own placement
abbrev pub placed_call : Item → Call
placed_call x = Add (text x.label) (at_of x.at) (from_bits x.duration)

-- "an entry number below n for kind 3, whose label is then looked for among earlier entries"
abbrev pub named_call : List Item → ℕ → Item → Call
named_call items k x =
    cond (ltb k (length items)) (AddAtLabel (text x.label) (text (get_or items k no_item).label) (from_bits x.duration)) (placed_call x)

-- the call that adds an entry, by its placement
abbrev pub call_at : List Item → Placement → Item → Call
call_at items (Absolute seconds) x = placed_call x
call_at items Start x = placed_call x
call_at items End x = placed_call x
call_at items (Labeled k) x = named_call items k x
call_at items (Offset seconds) x = placed_call x

-- the calls that add entries, in turn; `items` are all entries of the sheet
unfoldable pub calls_from : List Item → List Item → List Call
calls_from items [] = []
calls_from items (x ∷ xs) = call_at items x.at x ∷ calls_from items xs

-- "the panel that `add` and the setters build from it": the calls
unfoldable pub calls_of : Description → List Call
calls_of d = On (Looping d.looping) ∷ On (SetTimeScale (from_bits d.time_scale)) ∷ calls_from (items_in d) (items_in d)

-- the timeline that a description builds
abbrev pub built : Description → Timeline
built d = after empty (calls_of d)

-- the calls that make what is read from any bytes: none where they are refused
unfoldable pub read_calls : List ℕ → List Call
read_calls s = cond (eqb (check_number s) 0) (calls_of (description_in s)) []

-- what the reader answers: the number by which the bytes are refused, the description and the timeline
pub record NumberedReading : Type 0 where
  pub refusal : ℕ
  pub described : Description
  pub timeline : Timeline

-- the reader's answer, by the number of its refusal
abbrev pub numbered_reading : Reading → NumberedReading
numbered_reading r = record { refusal = number_if r.refusal; described = r.described; timeline = r.timeline }

-- the reader's answer for any bytes: "a refusing reader .. hands out the empty panel, `Once`, scale 1"
unfoldable pub reading_of : List ℕ → NumberedReading
reading_of s =
    cond (eqb (check_number s) 0)
    (record { refusal = 0; described = description_in s; timeline = built (description_in s) })
    (record { refusal = check_number s; described = empty_description; timeline = empty })
