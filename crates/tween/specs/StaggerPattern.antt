-- Delays of staggered starts (stagger_pattern.rs; paper 01, part 3). Definitions only.
use Rattle.std.specs.Prelude.{ℕ, zero, suc, ◌+◌, ◌-◌, ◌*◌, ◌/◌, ◌%◌, ◌^◌, min, max, ◌||◌, cond, leb, ltb, eqb, Float, Option, Some, None, Result, Ok, Err}
use Rattle.std.specs.Int.{abs_diff}
use Rattle.std.specs.Float.{binary32}
use Rattle.std.specs.Float.Ieee.{add, sub, mul, div}
use Rattle.float32.specs.Helpers.{zero_f, max_f, finite_f, from_u32}
use Rattle.refusal.specs.declared.Refusal.{Refusal}
use Rattle.refusal.specs.declared.Refusal.TheVariants.{GridTooLarge}
use Rattle.tween.specs.declared.stagger_pattern.GridOrigin.{GridOrigin}
use Rattle.tween.specs.declared.stagger_pattern.GridOrigin.TheVariants.{TopLeft, TopRight, BottomLeft, BottomRight, Center, Top, Bottom, Left, Right}
use Rattle.tween.specs.declared.stagger_pattern.StaggerPattern.{StaggerPattern}
use Rattle.tween.specs.declared.stagger_pattern.StaggerPattern.TheVariants.{Grid, Random, CenterOut, EdgesIn}

-- the origins in their order, from 0 on
unfoldable pub origin_of : ℕ → Option GridOrigin
origin_of n =
    cond (eqb n 0) (Some TopLeft)
    (cond (eqb n 1) (Some TopRight)
    (cond (eqb n 2) (Some BottomLeft)
    (cond (eqb n 3) (Some BottomRight)
    (cond (eqb n 4) (Some Center)
    (cond (eqb n 5) (Some Top)
    (cond (eqb n 6) (Some Bottom)
    (cond (eqb n 7) (Some Left)
    (cond (eqb n 8) (Some Right) None))))))))

-- "grid sides reach 65,535"
abbrev pub max_side : ℕ
max_side = 65535

-- `finite_or`
abbrev pub finite_or : Float → Float → Float
finite_or value fallback = cond (finite_f value) value fallback

-- `distance as f32 * finite_or(step, 0.0).max(0.0)`
unfoldable pub distance_delay : ℕ → Float → Float
distance_delay distance step = mul binary32 (from_u32 distance) (max_f (finite_or step zero_f) zero_f)

-- in `center_distance` and the arm `Center`: the distance from the nearer of the two middles of `count`
abbrev pub from_middle : ℕ → ℕ → ℕ
from_middle index count = min (abs_diff index ((count - 1) / 2)) (abs_diff index (count / 2))

-- `center_distance`
abbrev pub center_distance : ℕ → ℕ → ℕ
center_distance index count = cond (leb count 1) 0 (from_middle index count)

-- the `match` of `grid_delay`: how far the cell in column x and row y is from the origin
abbrev pub grid_distance : GridOrigin → ℕ → ℕ → ℕ → ℕ → ℕ
grid_distance TopLeft cols rows x y = x + y
grid_distance TopRight cols rows x y = (cols - 1 - x) + y
grid_distance BottomLeft cols rows x y = x + (rows - 1 - y)
grid_distance BottomRight cols rows x y = (cols - 1 - x) + (rows - 1 - y)
grid_distance Center cols rows x y = from_middle x cols + from_middle y rows
grid_distance Top cols rows x y = y
grid_distance Bottom cols rows x y = rows - 1 - y
grid_distance Left cols rows x y = x
grid_distance Right cols rows x y = cols - 1 - x

-- `grid_delay`, once neither side is 0 and the index is that of a cell
abbrev pub cell_delay : ℕ → ℕ → GridOrigin → Float → ℕ → Float
cell_delay cols rows origin step index = distance_delay (grid_distance origin cols rows (index % cols) (index / cols)) step

-- `grid_delay`: a side of 0 counts as 1, an index past the last cell as the last
unfoldable pub grid_delay : ℕ → ℕ → GridOrigin → Float → ℕ → Float
grid_delay cols rows origin step index =
    cell_delay (max cols 1) (max rows 1) origin step (min index (max cols 1 * max rows 1 - 1))

-- `a ^ b` on numbers of so many bits: each pair of bits is added without a carry
unfoldable pub xor : ℕ → ℕ → ℕ → ℕ
xor zero a b = 0
xor (suc bits) a b = xor bits (a / 2) (b / 2) * 2 + (a + b) % 2

-- `wrapping_mul`: "multiplies modulo 2^32 and keeps the low 32 bits"
abbrev pub wrapping_mul : ℕ → ℕ → ℕ
wrapping_mul a b = (a * b) % 2 ^ 32

-- `x ^= x >> k`
abbrev pub fold : ℕ → ℕ → ℕ
fold k x = xor 32 x (x / 2 ^ k)

-- the hash of `random_delay`
unfoldable pub hash : ℕ → ℕ → ℕ
hash seed index =
    let a = xor 32 seed (wrapping_mul index 0x9e37_79b9) in
    let b = wrapping_mul (fold 16 a) 0x7feb_352d in
    let c = wrapping_mul (fold 15 b) 0x846c_a68b in
    fold 16 c

-- `random_delay`
unfoldable pub random_delay : ℕ → Float → Float → ℕ → Float
random_delay seed min_delay max_delay index =
    let lo = max_f (finite_or min_delay zero_f) zero_f in
    let hi = max_f (finite_or max_delay lo) lo in
    let share = div binary32 (from_u32 (hash seed index)) (from_u32 0xffff_ffff) in
    add binary32 lo (mul binary32 (sub binary32 hi lo) share)

-- `CenterOut`: an index past the last counts as the last
unfoldable pub center_out : ℕ → Float → ℕ → Float
center_out count step index = distance_delay (center_distance (min index (count - 1)) count) step

-- `EdgesIn`, likewise: the steps to the nearer end; no item at all gives 0.0
unfoldable pub edges_in : ℕ → Float → ℕ → Float
edges_in count step index =
    let i = min index (count - 1) in
    cond (eqb count 0) zero_f (distance_delay (min i (count - 1 - i)) step)

-- `StaggerPattern::delay`; refusal 13: "a grid side above 65,535"
abbrev pub delay_of : StaggerPattern → ℕ → Result Float Refusal
delay_of (Grid cols rows origin step) index =
    cond (ltb max_side cols || ltb max_side rows) (Err GridTooLarge) (Ok (grid_delay cols rows origin step index))
delay_of (Random seed min_delay max_delay) index = Ok (random_delay seed min_delay max_delay index)
delay_of (CenterOut count step) index = Ok (center_out count step index)
delay_of (EdgesIn count step) index = Ok (edges_in count step index)
