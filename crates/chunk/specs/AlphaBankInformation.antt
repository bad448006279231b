-- The alpha bank information chunk (document 000, section 5.11). No rule judges its count (document 02, request vii).
use Rattle.std.specs.Prelude.{ℕ, List}
use Rattle.laws.specs.Lists.{part}
use Rattle.endian.specs.Number.{number_at}
use Rattle.chunk.specs.declared.alpha_bank_information.AlphaBankChunk.{AlphaBankChunk}

-- in bytes
abbrev pub alpha_bank_size : ℕ
alpha_bank_size = 2

-- the chunk of its own bytes
unfoldable pub alpha_bank_of : List ℕ → AlphaBankChunk
alpha_bank_of s = record { count = number_at 2 s 0 }

abbrev pub alpha_bank_at : List ℕ → ℕ → AlphaBankChunk
alpha_bank_at s at = alpha_bank_of (part s at alpha_bank_size)
