-- Where a kind of block is judged: behind its header, which is present, in an input within the limit. The judges require it. And a block whose
-- chunk is there too.
use Rattle.std.specs.Prelude.{ℕ, ◌+◌, ◌≤◌, ◌≡◌, List, length}
use Rattle.limits.specs.Limits.{input_limit}
use Rattle.headers.specs.BlockHeader.{block_header_size, block_header_at}

pub record Headed (s : List ℕ) (at level : ℕ) : Type 0 where
  pub small : length s ≤ input_limit
  pub present : at + block_header_size ≤ length s
  pub nesting : level ≤ 2

-- its header has this id, and the chunk of so many bytes behind it is all there
pub record Chunked (s : List ℕ) (at id size : ℕ) : Type 0 where
  pub is : (block_header_at s at).id ≡ id
  pub present : at + block_header_size + size ≤ length s
