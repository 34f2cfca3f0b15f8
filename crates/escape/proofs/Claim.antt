-- Texts of bytes are printable and read back.
use Prim.Native.Nat.{ℕ, zero, suc, ◌≤◌, ◌<◌}
use mathlib.Core.Path.{◌≡◌, refl, sym, ap, ◌∙◌}
use mathlib.Core.Bool.{Bool, true, false}
use mathlib.Core.List.{List, [], ◌∷◌, ◌++◌}
use native.Mathlib.Nat.{not-suc-le-zero, le_of_suc-le-suc}
use native.Mathlib.Omega.{arith}
use borrow.Author.Tests.{ltb-true, ltb-false}
use lib.Dec.{ltb, lit<, lit≤}
use lib.ListN.{length, get_or}
use Rattle.digits.specs.Digits.{code_of, digits, hex_text}
use Rattle.digits.proofs.Length.{length_digits}
use Rattle.digits.proofs.Claim.{each, hex_reads}
use Rattle.escape.specs.Escape.{plain, escaped_byte, escaped, unescaped_from, unescaped}
use Rattle.escape.specs.Claim.{Printable, Reads, Tells, Worked, Claim}
use Rattle.escape.proofs.Plain.{plain-within, plain_other}
use Rattle.escape.proofs.Text.{byte_plain, byte_other}

-- ---- printable

abbrev Print : ℕ → Type 0
Print c = (32 ≤ c) × (c ≤ 126)

abbrev Prints : List ℕ → Type 0
Prints text = (i : ℕ) → i < length text → Print (get_or text i 0)

none : Prints []
none i h = absurd (not-suc-le-zero h)

cons : (c : ℕ) (text : List ℕ) → Print c → Prints text → Prints (c ∷ text)
cons c text p ps zero h = p
cons c text p ps (suc i) h = ps i (le_of_suc-le-suc h)

append : (xs ys : List ℕ) → Prints xs → Prints ys → Prints (xs ++ ys)
append [] ys p q = q
append (x ∷ xs) ys p q = cons x (xs ++ ys) (p 0 (omega arith)) (append xs ys (λ i h. p (suc i) (omega arith)) q)

code_prints : (d : ℕ) → d < 16 → Print (code_of d)
unfolding code_of
code_prints d h = go (ltb d 10) refl
  where
    go : (t : Bool) → ltb d 10 ≡ t → Print (code_of d)
    go true e = let s = ltb-true d 10 e in rw e (omega arith, omega arith)
    go false e = let l = ltb-false d 10 e in rw e (omega arith, omega arith)

hex_prints : (b : ℕ) → Prints (hex_text 2 b)
hex_prints b i h = each 16 (lit< tt) (lit≤ tt) Print code_prints 2 b i (omega (arith, length_digits 16 2 b))

byte_prints : (b : ℕ) → Prints (escaped_byte b)
byte_prints b = go (plain b) refl
  where
    go : (t : Bool) → plain b ≡ t → Prints (escaped_byte b)
    go true e = rw (byte_plain b e) (cons b [] (plain-within b e) none)
    go false e = rw (byte_other b e) (cons 92 (120 ∷ hex_text 2 b) (lit≤ tt, lit≤ tt) (cons 120 (hex_text 2 b) (lit≤ tt, lit≤ tt) (hex_prints b)))

printable : Printable
unfolding escaped
printable [] = none
printable (b ∷ s) = append (escaped_byte b) (escaped s) (byte_prints b) (printable s)

-- ---- read back

plain-reads : (b : ℕ) (text : List ℕ) → plain b ≡ true → unescaped (b ∷ text) ≡ b ∷ unescaped text
unfolding unescaped_from
plain-reads b text e = rw (plain_other b e)

hex_passed : (b : ℕ) (text : List ℕ) → b < 256 → unescaped (92 ∷ 120 ∷ (hex_text 2 b ++ text)) ≡ b ∷ unescaped text
unfolding unescaped_from digits
hex_passed b text h = ap (λ (n : ℕ). n ∷ unescaped text) (hex_reads 2 b h)

byte_reads : (b : ℕ) (text : List ℕ) → b < 256 → unescaped (escaped_byte b ++ text) ≡ b ∷ unescaped text
byte_reads b text h = go (plain b) refl
  where
    go : (t : Bool) → plain b ≡ t → unescaped (escaped_byte b ++ text) ≡ b ∷ unescaped text
    go true e = rw (byte_plain b e) (plain-reads b text e)
    go false e = rw (byte_other b e) (hex_passed b text h)

reads : Reads
unfolding escaped unescaped_from
reads [] h = refl
reads (b ∷ s) h = byte_reads b (escaped s) (h 0) ∙ ap (b ∷◌) (reads s (λ i. h (suc i)))

tells : Tells
tells s t g h e = sym (reads s g) ∙ ap unescaped e ∙ reads t h

worked : Worked
unfolding escaped escaped_byte code_of digits
worked = (refl, refl, refl)

pub claim : Claim
claim = record { printable = printable; reads = reads; tells = tells; worked = worked }
