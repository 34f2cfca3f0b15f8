-- The numbers of a description fit their types, as those of every value of the struct do: what owning one tells.
use Prim.Native.Nat.{ℕ, zero, suc, ◌^◌, ◌<◌}
use mathlib.Core.Path.{◌≡◌, refl}
use mathlib.Core.List.{List, [], ◌∷◌}
use lib.Dec.{lit<}
use lib.ListN.{length, get_or}
use mir.Val.{Val}
use denote.Laws.{Is}
use denote.Array.{each}
use denote.Shadow.{shadow}
use Rattle.steps.specs.Times.{max_entries}
use Rattle.label.specs.Label.{max_label}
use Rattle.tween.specs.declared.loop_mode.Loop.{Loop}
use Rattle.tween.specs.declared.loop_mode.Loop.TheVariants.{Once, Times, Forever, PingPong, PingPongTimes}
use Rattle.tween.specs.contracts.loop_mode.Loop as L
use Rattle.sheet_rules.specs.declared.record.Placement.{Placement}
use Rattle.sheet_rules.specs.declared.record.Placement.TheVariants.{Absolute, Start, End, Label as Labeled, Offset}
use Rattle.sheet_format.specs.declared.description.Item.{Item}
use Rattle.sheet_format.specs.declared.description.Description.{Description}
use Rattle.sheet_format.specs.Descriptions.{blank_item}
use Rattle.tween.specs.LoopMode.{number_of}
use Rattle.sheet_rules.specs.Placements.{seconds_of}
use Rattle.sheet_rules.specs.contracts.record.Placement as P
use Rattle.sheet_format.specs.contracts.description.Item as I
use Rattle.sheet_format.specs.contracts.description.Description as D

-- of an entry
pub record TypedItem (x : Item) : Type 0 where
  pub duration : x.duration < 2 ^ 32
  pub seconds : seconds_of x.at < 2 ^ 32
  pub bytes : length x.label.bytes ≡ max_label

-- of a description
pub record Typed (d : Description) : Type 0 where
  pub number : number_of d.looping < 2 ^ 32
  pub scale : d.time_scale < 2 ^ 32
  pub slots : length d.items ≡ max_entries
  pub each : (i : ℕ) → TypedItem (get_or d.items i blank_item)

-- of the number that a mode or a placement carries
loop_typed : (m : Loop) (vs : List Val) → Is L.the_row m vs → number_of m < 2 ^ 32
loop_typed Once vs g = lit< tt
loop_typed (Times n) vs g = g.1.1.1.1.0.1
loop_typed Forever vs g = lit< tt
loop_typed PingPong vs g = lit< tt
loop_typed (PingPongTimes n) vs g = g.1.1.1.1.0.1

placement_typed : (m : Placement) (vs : List Val) → Is P.the_row m vs → seconds_of m < 2 ^ 32
placement_typed (Absolute s) vs g = g.1.1.1.1.0.1
placement_typed Start vs g = lit< tt
placement_typed End vs g = lit< tt
placement_typed (Labeled k) vs g = lit< tt
placement_typed (Offset s) vs g = g.1.1.1.1.0.1

item_typed : (x : Item) (vs : List Val) → Is I.the_row x vs → TypedItem x
item_typed x vs g =
    record { duration = g.1.1.0.1; seconds = placement_typed x.at _ g.1.1.1.0; bytes = g.1.1.1.1.0.1.1.0.1.0.1 }

pub blank-typed : TypedItem blank_item
blank-typed = record { duration = lit< tt; seconds = lit< tt; bytes = refl }

items_typed : (xs : List Item) (us : List Val) → shadow (each (I.the_row).Denot (I.the_row).own_val xs us) → (i : ℕ) → TypedItem (get_or xs i blank_item)
items_typed [] us g i = blank-typed
items_typed (x ∷ xs) [] g i = absurd g
items_typed (x ∷ xs) (u ∷ us) g zero = item_typed x (u ∷ []) g.0
items_typed (x ∷ xs) (u ∷ us) g (suc i) = items_typed xs us g.1 i

pub typed : (d : Description) (vs : List Val) → Is D.the_row d vs → Typed d
typed d vs g =
    let items = g.1.1.1.1.1.0 in
    record {
      number = loop_typed d.looping _ g.1.1.1.0;
      scale = g.1.1.1.1.0.1;
      slots = items.1.0.1;
      each = items_typed d.items items.0 items.1.1;
    }
