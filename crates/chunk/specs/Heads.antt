-- The head of a block: its header and its chunk, which the entries of a palette or the content of a channel follow (document 01, "Bytes owned").
use Rattle.std.specs.Prelude.{ℕ, ◌+◌}
use Rattle.headers.specs.BlockHeader.{block_header_size}
use Rattle.attributes.specs.ImageAttributes.{image_size}
use Rattle.chunk.specs.AlphaBankInformation.{alpha_bank_size}
use Rattle.chunk.specs.AlphaInformation.{alpha_size}
use Rattle.chunk.specs.ChannelInformation.{channel_size}
use Rattle.chunk.specs.ColorPalette.{palette_size}
use Rattle.chunk.specs.LayerInformation.{layer_size}
use Rattle.chunk.specs.SelectionInformation.{selection_size}

-- 52
abbrev pub image_head : ℕ
image_head = block_header_size + image_size

-- 18
abbrev pub palette_head : ℕ
palette_head = block_header_size + palette_size

-- 389
abbrev pub layer_head : ℕ
layer_head = block_header_size + layer_size

-- 26
abbrev pub channel_head : ℕ
channel_head = block_header_size + channel_size

-- 50
abbrev pub selection_head : ℕ
selection_head = block_header_size + selection_size

-- 16
abbrev pub alpha_bank_head : ℕ
alpha_bank_head = block_header_size + alpha_bank_size

-- 306
abbrev pub alpha_head : ℕ
alpha_head = block_header_size + alpha_size
