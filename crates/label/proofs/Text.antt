-- The text of a label that is made from bytes.
use Prim.Native.Nat.{ℕ, ◌≤◌}
use mathlib.Core.Path.{◌≡◌, ◌∙◌}
use mathlib.Core.List.{List}
use native.Mathlib.Omega.{arith}
use lib.ListN.{length, take, length-take}
use lib.Seq.{take-append_seam, take_all}
use Rattle.label.specs.declared.Label.{Label}
use Rattle.label.specs.Label.{max_label, text, label_of}

-- what is beyond 24 bytes is cut
pub text_of : (label : List ℕ) → text (label_of label) ≡ take max_label label
text_of label = take-append_seam (take max_label label) _

-- up to 24 bytes are kept whole
pub text-whole : (label : List ℕ) → length label ≤ max_label → text (label_of label) ≡ label
text-whole label h = text_of label ∙ take_all max_label label h

-- a text is no longer than its label's storage
pub text-fits : (l : Label) → length (text l) ≤ length l.bytes
text-fits l = simp length-take (omega arith)
