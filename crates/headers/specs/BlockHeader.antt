-- The block header (document 000, section 4.4; document 01, "Block header").
use Rattle.std.specs.Prelude.{ℕ, Bool, List, [], ◌∷◌, eqb}
use Rattle.laws.specs.Lists.{part}
use Rattle.endian.specs.Number.{le, number_at}
use Rattle.headers.specs.declared.block_header.BlockHeader.{BlockHeader}

-- in bytes
abbrev pub block_header_size : ℕ
block_header_size = 14

-- the header of its own bytes
unfoldable pub block_header_of : List ℕ → BlockHeader
block_header_of s = record {
  mark = number_at 4 s 0;
  id = number_at 2 s 4;
  initial = number_at 4 s 6;
  total = number_at 4 s 10;
}

abbrev pub block_header_at : List ℕ → ℕ → BlockHeader
block_header_at s at = block_header_of (part s at block_header_size)

-- 7E 42 4B 00
unfoldable pub is_marked : BlockHeader → Bool
is_marked h = eqb h.mark (le 4 (126 ∷ 66 ∷ 75 ∷ 0 ∷ []))
