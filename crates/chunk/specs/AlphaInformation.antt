-- The alpha channel information chunk (document 000, section 5.11) and its rule (document 02, request vii).
use Rattle.std.specs.Prelude.{ℕ, ◌+◌, List, Option}
use Rattle.laws.specs.Lists.{part}
use Rattle.attributes.specs.Fault.{Field}
use Rattle.chunk.specs.declared.alpha_information.AlphaChunk.{AlphaChunk}
use Rattle.chunk.specs.Mask.{mask_size, mask_at, mask_fault, mask_rule}

-- 292 bytes
abbrev pub alpha_size : ℕ
alpha_size = 256 + mask_size

-- the chunk of its own bytes
unfoldable pub alpha_of : List ℕ → AlphaChunk
alpha_of s = record { name = part s 0 256; mask = mask_at s 256 }

abbrev pub alpha_at : List ℕ → ℕ → AlphaChunk
alpha_at s at = alpha_of (part s at alpha_size)

-- its rectangles and counts stand behind the name
abbrev pub alpha_fault : AlphaChunk → Option ℕ
alpha_fault c = mask_fault 256 c.mask

-- the rule, by the chunk's bytes
abbrev pub alpha_rule : List ℕ → List Field
alpha_rule = mask_rule 256
