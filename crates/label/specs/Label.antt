-- What a label's text is, and which label is found. Definitions only.
use Rattle.std.specs.Prelude.{ℕ, ◌+◌, ◌-◌, Bool, true, false, cond, ◌&&◌, List, [], ◌∷◌, ◌++◌, eqb, ltb, length, take, get_or, replicate, Option, Some, None}
use Rattle.label.specs.declared.Label.{Label}

-- whether the label that was looked for was found
abbrev pub is_found : Option ℕ → Bool
is_found (Some i) = true
is_found None = false

-- the number of the entry that has it, 0 where nothing was found
abbrev pub entry_found : Option ℕ → ℕ
entry_found (Some i) = i
entry_found None = 0

-- "a label has 0 to 24 bytes of any content"
abbrev pub max_label : ℕ
max_label = 24

-- the text of a label: the bytes that count
abbrev pub text : Label → List ℕ
text l = take l.len l.bytes

-- the label with this text, and zero beyond it
abbrev pub with_text : List ℕ → Label
with_text t = record { bytes = t ++ replicate (max_label - length t) 0; len = length t }

-- the label whose text is the first 24 of these bytes
abbrev pub label_of : List ℕ → Label
label_of label = with_text (take max_label label)

-- "equal labels": `entry.label == label`, byte by byte
unfoldable pub same_text : List ℕ → List ℕ → Bool
same_text [] [] = true
same_text [] (y ∷ ys) = false
same_text (x ∷ xs) [] = false
same_text (x ∷ xs) (y ∷ ys) = eqb x y && same_text xs ys

-- the number of the first label with this text, in a list whose first label has number i
unfoldable pub first_from : ℕ → List ℕ → List Label → Option ℕ
first_from i target [] = None
first_from i target (l ∷ ls) = cond (same_text (text l) target) (Some i) (first_from (i + 1) target ls)

-- "the first entry with that label": `find` in `resolve_start`
abbrev pub first_with : List ℕ → List Label → Option ℕ
first_with target ls = first_from 0 target ls

-- what is read past the last label
abbrev pub no_label : Label
no_label = record { bytes = []; len = 0 }

-- the first label with the text of label k; nothing where there is no label k
unfoldable pub first_like : ℕ → List Label → Option ℕ
first_like k ls = cond (ltb k (length ls)) (first_with (text (get_or ls k no_label)) ls) None
