-- Where the parts that every file has stand: the file header, then the image block, since id 0 comes first (document 01, "Place rules").
use Rattle.std.specs.Prelude.{ℕ, ◌+◌}
use Rattle.headers.specs.BlockHeader.{block_header_size}
use Rattle.headers.specs.FileHeader.{file_header_size}

-- the image block: 36
abbrev pub image_place : ℕ
image_place = file_header_size

-- its chunk: 50
abbrev pub image_chunk_place : ℕ
image_chunk_place = image_place + block_header_size
