-- Pairs: "u16 offset and u16 length" of a part of the bytes in which they stand (paper 01, "The sheet"; paper 02, S-1). Definitions only.
use Rattle.std.specs.Prelude.{ℕ, zero, suc, ◌+◌, Bool, not, ◌&&◌, List, eqb, take, drop}
use Rattle.refusal.specs.Refusal.{accepted, refused_if}
use Rattle.words.specs.declared.Pair.{Pair}
use Rattle.words.specs.Words.{word}

-- bytes of a pair
abbrev pub pair_size : ℕ
pair_size = 4

-- the offset and the length of the pair at the front
abbrev pub offset_in : List ℕ → ℕ
offset_in pairs = word 2 pairs

abbrev pub length_in : List ℕ → ℕ
length_in pairs = word 2 (drop 2 pairs)

abbrev pub pair_in : List ℕ → Pair
pair_in pairs = record { offset = offset_in pairs; len = length_in pairs }

-- the bytes that a pair names: a part of s, cut where it ends
abbrev pub part_by : List ℕ → Pair → List ℕ
part_by s pair = take pair.len (drop pair.offset s)

-- those that the pair at the front names
abbrev pub part_of : List ℕ → List ℕ → List ℕ
part_of s pairs = part_by s (pair_in pairs)

-- Pairs in turn: of k pairs the first starts at this offset, "each next where the one before ends", each length fits, and the last
-- ends all `len` bytes. A pair that is not so has one number, another end has the other.
unfoldable pub pairs_in_turn : (ℕ → Bool) → ℕ → ℕ → ℕ → ℕ → ℕ → List ℕ → ℕ
pairs_in_turn fits bad_pair bad_end len offset zero pairs = refused_if (not (eqb offset len)) bad_end accepted
pairs_in_turn fits bad_pair bad_end len offset (suc k) pairs =
    refused_if (not (eqb (offset_in pairs) offset && fits (length_in pairs))) bad_pair
    (pairs_in_turn fits bad_pair bad_end len (offset + length_in pairs) k (drop pair_size pairs))
