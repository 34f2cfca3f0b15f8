-- The numbers by which a call is refused (paper 01, "Refusals"). 0 means accepted.
use Rattle.std.specs.Prelude.{ℕ, Bool, cond, eqb, Option, Some, None, Result, Ok, Err}
use Rattle.refusal.specs.declared.Refusal.{Refusal}
use Rattle.refusal.specs.declared.Refusal.TheVariants.{TimelineFull, LabelTooLong, RowsTooShort, BadReplies, ListTooShort, SheetVersion, SheetLength, SheetCount, SheetLoop, SheetPlacement, SheetPair, SheetZero, GridTooLarge, BadCall, RoomTooShort, BadCaption}

-- no refusal
abbrev pub accepted : ℕ
accepted = 0

-- an entry past the last that a timeline can hold
abbrev pub timeline_full : ℕ
timeline_full = 1

-- an entry's own label is too long
abbrev pub label_too_long : ℕ
label_too_long = 2

-- one of the three row slices is shorter than the entries
abbrev pub rows_too_short : ℕ
rows_too_short = 3

-- the reply slice is shorter than the entries, or one of those replies is above 1
abbrev pub bad_replies : ℕ
bad_replies = 4

-- the update's completions outnumber the lent list
abbrev pub list_too_short : ℕ
list_too_short = 5

-- the sheet's version is not 1
abbrev pub sheet_version : ℕ
sheet_version = 6

-- the sheet's length is wrong
abbrev pub sheet_length : ℕ
sheet_length = 7

-- the count is above the most that a timeline can hold
abbrev pub sheet_count : ℕ
sheet_count = 8

-- the loop mode is above 4, or has a number that it does not take
abbrev pub sheet_loop : ℕ
sheet_loop = 9

-- a placement's kind is above 4, or its target is wrong
abbrev pub sheet_placement : ℕ
sheet_placement = 10

-- a pair is out of place, or its label is too long
abbrev pub sheet_pair : ℕ
sheet_pair = 11

-- a byte that must be 0 is not
abbrev pub sheet_zero : ℕ
sheet_zero = 12

-- a grid side is above 65,535
abbrev pub grid_too_large : ℕ
grid_too_large = 13

-- an unknown call byte, or 1 to 4 bytes left over
abbrev pub bad_call : ℕ
bad_call = 14

-- the room for a written sheet is too short
abbrev pub room_too_short : ℕ
room_too_short = 15

-- a venue list of another shape, or an entry number that is not below the sheet's count
abbrev pub bad_caption : ℕ
bad_caption = 16

-- ---- order: "First met refuses"

-- a check: the number where it refuses, else what comes after it
abbrev pub refused_if : Bool → ℕ → ℕ → ℕ
refused_if refused number next = cond refused number next

-- two parts in turn
abbrev pub in_turn : ℕ → ℕ → ℕ
in_turn first second = cond (eqb first accepted) second first

-- ---- answers

-- paper 01's number for each refusal
abbrev pub number : Refusal → ℕ
number TimelineFull = timeline_full
number LabelTooLong = label_too_long
number RowsTooShort = rows_too_short
number BadReplies = bad_replies
number ListTooShort = list_too_short
number SheetVersion = sheet_version
number SheetLength = sheet_length
number SheetCount = sheet_count
number SheetLoop = sheet_loop
number SheetPlacement = sheet_placement
number SheetPair = sheet_pair
number SheetZero = sheet_zero
number GridTooLarge = grid_too_large
number BadCall = bad_call
number RoomTooShort = room_too_short
number BadCaption = bad_caption

-- the number that an answer gives: 0 means accepted
abbrev pub number_in : {A : Type 0} → Result A Refusal → ℕ
number_in (Ok x) = accepted
number_in (Err r) = number r

-- the number of a refusal, where there is one
abbrev pub number_if : Option Refusal → ℕ
number_if None = accepted
number_if (Some r) = number r

-- what an accepted answer holds; of a refused one, what is given beside it
abbrev pub held_or : {A : Type 0} → A → Result A Refusal → A
held_or x (Ok y) = y
held_or x (Err r) = x
