-- What the listing promises a view of the blocks of an id.
use Rattle.std.specs.Prelude.{ℕ, ◌+◌, ◌≤◌, ◌≡◌, true, List, length}
use Rattle.entry.specs.declared.Entry.{Entry}
use Rattle.entry.specs.Entry.{is_kind}
use Rattle.headers.specs.BlockHeader.{block_header_size}
use Rattle.listing.specs.Right.{Right}

-- where such a block is listed, header and chunk lie inside the input
abbrev pub Whole : ℕ → ℕ → Type 0
Whole id size =
    (s : List ℕ) (before : List Entry) (e : Entry) → Right s before e → is_kind id e ≡ true → e.block.place + (block_header_size + size) ≤ length s
