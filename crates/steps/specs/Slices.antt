-- What a list of values leaves in a lent slice. Definitions only.
use Rattle.std.specs.Prelude.{List, ◌++◌, length, drop}

-- xs over the front of old: "the list beyond that count is untouched", "Rows beyond the entries are not written"
abbrev pub over : {A : Type 0} → List A → List A → List A
over xs old = xs ++ drop (length xs) old
