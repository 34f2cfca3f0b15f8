-- The unread bytes after a reading behind them.
use Rattle.std.proofs.Common.{◌≡◌, ℕ, ◌+◌, ◌-◌, ◌≤◌, List, ◌++◌, length, take, drop, refl, ap, ◌∙◌, arith}
use Rattle.std.proofs.lemmas.List.{append-nil, take_at, drop_at, take-append-le, drop-append-le, drop-take, length-take-le, length-drop}
use lib.Seq.{take-add}

-- the first n of what is put behind the unread bytes are unread, too
pub grown : (xs ys rest : List ℕ) (from to n : ℕ) → from ≤ to → to ≤ length xs → n ≤ length ys
    → take (to + n - from) (drop from (take to xs ++ (ys ++ rest))) ≡ take (to - from) (drop from xs) ++ take n ys
grown xs ys rest from to n ordered within fits =
    let front = length-take-le to xs within in
    let held = drop from (take to xs) in
    let len : length held ≡ to - from = omega (arith, length-drop from (take to xs)) in
    let sum : to + n - from ≡ (to - from) + n = omega arith in
    let parts : to ≡ from + (to - from) = omega arith in
    let same : held ≡ take (to - from) (drop from xs) = ap (λ j. drop from (take j xs)) parts ∙ drop-take from (to - from) xs in
    let after = ys ++ rest in
    ap (take (to + n - from)) (drop-append-le from (take to xs) after (omega arith))
    ∙ ap (λ j. take j (held ++ after)) sum ∙ take-add (to - from) n (held ++ after)
    ∙ (rw (take_at held after _ len, drop_at held after _ len, take-append-le n ys rest fits, same) refl)

-- what is put behind the unread bytes leaves them
pub kept : (xs ys rest : List ℕ) (from to : ℕ) → from ≤ to → to ≤ length xs
    → take (to - from) (drop from (take to xs ++ (ys ++ rest))) ≡ take (to - from) (drop from xs)
kept xs ys rest from to ordered within =
    let none : to ≡ to + 0 = omega arith in
    ap (λ j. take (j - from) (drop from (take to xs ++ (ys ++ rest)))) none ∙ grown xs ys rest from to 0 ordered within (omega arith) ∙ append-nil _
