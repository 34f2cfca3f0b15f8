-- The machine's `^` on words is the definition's, which goes bit by bit.
use mathlib.Core.Path.{◌≡◌, sym, ap₂, ◌∙◌}
use Prim.Native.Nat.{ℕ, zero, suc, ◌+◌, ◌*◌, ◌/◌, ◌%◌, ◌^◌, ◌<◌}
use native.Mathlib.Nat.{div-add-mod', div-le_self, lt_of_le_of_lt}
use native.Mathlib.Omega.{arith}
use lib.Bits.{bit_xor, xor_add_and, xor_shr, xor_lt}
use Rattle.tween.specs.StaggerPattern.{xor, wrapping_mul, hash}

-- the lowest bit is that of the sum
xor_low : (a b : ℕ) → bit_xor a b % 2 ≡ (a + b) % 2
xor_low a b = omega (arith, xor_add_and a b)

-- words of any number of bits
pub xor_same : (bits : ℕ) {a b : ℕ} → a < 2 ^ bits → b < 2 ^ bits → bit_xor a b ≡ xor bits a b
unfolding xor
xor_same zero {a} {b} ha hb =
    let p : a ≡ 0 = omega arith in
    let q : b ≡ 0 = omega arith in
    rw (p, q)
xor_same (suc k) {a} {b} ha hb =
    sym (div-add-mod' (bit_xor a b) 2)
    ∙ ap₂ (λ (x y : ℕ). x * 2 + y) (xor_shr a b 1 ∙ xor_same k (omega arith) (omega arith)) (xor_low a b)

-- `x ^ x >> k`
pub fold_same : (bits k : ℕ) {x : ℕ} → x < 2 ^ bits → bit_xor x (x / 2 ^ k) ≡ xor bits x (x / 2 ^ k)
fold_same bits k {x} h = xor_same bits h (lt_of_le_of_lt (div-le_self x (2 ^ k)) h)

-- a product keeps the low 32 bits
wrapped : (a b : ℕ) → wrapping_mul a b < 2 ^ 32
wrapped a b = omega arith

-- the hash by the machine's `^`
pub hash_same :
    {seed : ℕ} (index : ℕ) → seed < 2 ^ 32 →
    let a = bit_xor seed (wrapping_mul index 0x9e37_79b9) in
    let b = wrapping_mul (bit_xor a (a / 2 ^ 16)) 0x7feb_352d in
    let c = wrapping_mul (bit_xor b (b / 2 ^ 15)) 0x846c_a68b in
    bit_xor c (c / 2 ^ 16) ≡ hash seed index
unfolding hash
hash_same {seed} index h =
    let m = wrapped index 0x9e37_79b9 in
    let a = bit_xor seed (wrapping_mul index 0x9e37_79b9) in
    let b = wrapping_mul (bit_xor a (a / 2 ^ 16)) 0x7feb_352d in
    rw (
      fold_same 32 16 (wrapped (bit_xor b (b / 2 ^ 15)) 0x846c_a68b),
      fold_same 32 15 (wrapped (bit_xor a (a / 2 ^ 16)) 0x7feb_352d),
      fold_same 32 16 (xor_lt 32 _ _ h m),
      xor_same 32 h m,
    )
