-- Texts of digits read back, and have digits only: at any base up to 16, and so in decimal and in hex.
use Prim.Native.Nat.{ℕ, zero, suc, ◌+◌, ◌-◌, ◌*◌, ◌/◌, ◌%◌, ◌^◌, ◌≤◌, ◌<◌}
use mathlib.Core.Path.{◌≡◌, refl, sym, ap, ◌∙◌}
use mathlib.Core.Logic.{inl, inr}
use mathlib.Core.Bool.{Bool, true, false}
use mathlib.Core.List.{List, [], ◌∷◌, ◌++◌, foldl-append}
use native.Mathlib.Nat.{pow-zero, pow-suc, mod-lt, div-add-mod', div-lt_iff_lt-mul, eq-or-lt_of_le, not-suc-le-zero}
use native.Mathlib.Omega.{arith}
use borrow.Author.Tests.{lt-ltb, le-ltb, ltb-true, ltb-false}
use lib.Dec.{ltb, lit<, lit≤}
use lib.ListN.{length, get_or, get_or-append}
use lib.Seq.{get_or_at}
use Rattle.digits.specs.Digits.{code_of, digits, decimal, decimal_places_from, decimal_places, digit_of, from_digits}
use Rattle.digits.specs.Claim.{DecimalReads, DecimalTells, DecimalSome, DecimalLeast, DecimalWord, DecimalBytes, HexReads, HexWide, Worked, Claim}
use Rattle.digits.proofs.Length.{length_digits}
use Rattle.digits.proofs.Places.{places_pos, places_enough, places_least}

-- ---- a digit

code_small : (d : ℕ) → d < 10 → code_of d ≡ 48 + d
unfolding code_of
code_small d h = rw (lt-ltb d 10 h)

code_large : (d : ℕ) → 10 ≤ d → code_of d ≡ 87 + d
unfolding code_of
code_large d h = rw (le-ltb d 10 h)

digit_small : (c : ℕ) → c < 97 → digit_of c ≡ c - 48
unfolding digit_of
digit_small c h = rw (lt-ltb c 97 h)

digit_large : (c : ℕ) → 97 ≤ c → digit_of c ≡ c - 87
unfolding digit_of
digit_large c h = rw (le-ltb c 97 h)

digit_code : (d : ℕ) → d < 16 → digit_of (code_of d) ≡ d
digit_code d h = go (ltb d 10) refl
  where
    go : (t : Bool) → ltb d 10 ≡ t → digit_of (code_of d) ≡ d
    go true e = let s = ltb-true d 10 e in rw (code_small d s, digit_small (48 + d) (omega arith)) (omega arith)
    go false e = let l = ltb-false d 10 e in rw (code_large d l, digit_large (87 + d) (omega arith)) (omega arith)

-- ---- a text in base b

module _ (b : ℕ) (some : 0 < b) (most : b ≤ 16) where
  read-snoc : (text : List ℕ) (c : ℕ) → from_digits b (text ++ (c ∷ [])) ≡ from_digits b text * b + digit_of c
  unfolding from_digits
  read-snoc text c = foldl-append (λ v x. v * b + digit_of x) 0 text (c ∷ [])

  pub reads : (w n : ℕ) → n < b ^ w → from_digits b (digits b w n) ≡ n
  unfolding digits from_digits
  reads zero n h = omega (arith, pow-zero b)
  reads (suc w) n h =
      let k : n < b ^ w * b = rw pow-suc at h in
      rw (read-snoc (digits b w (n / b)) (code_of (n % b)), reads w (n / b) ((div-lt_iff_lt-mul some).1 k), digit_code (n % b) (omega (arith, mod-lt n some)))
      (div-add-mod' n b)

  -- what holds of the code of each digit holds of each byte
  pub each : (P : ℕ → Type 0) → ((d : ℕ) → d < b → P (code_of d)) → (w n i : ℕ) → i < w → P (get_or (digits b w n) i 0)
  unfolding digits
  each P p zero n i h = absurd (not-suc-le-zero h)
  each P p (suc w) n i h =
      let l = length_digits b w (n / b) in
      elim (eq-or-lt_of_le h) [
        | inl e ↦ rw (get_or_at (digits b w (n / b)) (code_of (n % b)) [] 0 i (omega arith)) (p (n % b) (mod-lt n some))
        | inr k ↦ rw (get_or-append (digits b w (n / b)) (code_of (n % b) ∷ []) 0 i (omega arith)) (each P p w (n / b) i (omega arith))
      ]

-- ---- decimal

pub length-decimal : (n : ℕ) → length (decimal n) ≡ decimal_places n
unfolding decimal
length-decimal n = length_digits 10 (decimal_places n) n

pub decimal-reads : DecimalReads
unfolding decimal
decimal-reads n = reads 10 (lit< tt) (lit≤ tt) (decimal_places n) n (places_enough n)

pub decimal-tells : DecimalTells
decimal-tells m n e = sym (decimal-reads m) ∙ ap (from_digits 10) e ∙ decimal-reads n

pub decimal-some : DecimalSome
decimal-some n = rw (length-decimal n) (places_pos n)

pub decimal-least : DecimalLeast
decimal-least n k p h = rw (length-decimal n) (places_least n k p h)

pub decimal-word : DecimalWord
decimal-word n h = decimal-least n 20 (lit≤ tt) (omega arith)

pub decimal-bytes : DecimalBytes
unfolding decimal
decimal-bytes n i h =
    each 10 (lit< tt) (lit≤ tt) (λ c. (48 ≤ c) × (c ≤ 57))
    (λ d k. let e = code_small d k in (omega arith, omega arith))
    (decimal_places n) n i (omega (arith, length-decimal n))

-- ---- hex

pub hex_reads : HexReads
hex_reads w n h = reads 16 (lit< tt) (lit≤ tt) w n h

pub hex_wide : HexWide
hex_wide w n = length_digits 16 w n

worked : Worked
unfolding code_of digits decimal_places_from decimal_places decimal
worked = (refl, refl, refl, refl)

pub claim : Claim
claim =
    record {
      decimal-reads = decimal-reads;
      decimal-tells = decimal-tells;
      decimal-some = decimal-some;
      decimal-least = decimal-least;
      decimal-word = decimal-word;
      decimal-bytes = decimal-bytes;
      hex_reads = hex_reads;
      hex_wide = hex_wide;
      worked = worked;
    }
