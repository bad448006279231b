-- The selection information chunk (document 000, section 5.10) and its rule (document 02, request vii).
use Rattle.std.specs.Prelude.{ℕ, List, Option}
use Rattle.laws.specs.Lists.{part}
use Rattle.attributes.specs.Fault.{Field}
use Rattle.chunk.specs.declared.selection_information.SelectionChunk.{SelectionChunk}
use Rattle.chunk.specs.Mask.{mask_size, mask_at, mask_fault, mask_rule}

-- 36 bytes
abbrev pub selection_size : ℕ
selection_size = mask_size

-- the chunk of its own bytes
unfoldable pub selection_of : List ℕ → SelectionChunk
selection_of s = record { mask = mask_at s 0 }

abbrev pub selection_at : List ℕ → ℕ → SelectionChunk
selection_at s at = selection_of (part s at selection_size)

abbrev pub selection_fault : SelectionChunk → Option ℕ
selection_fault c = mask_fault 0 c.mask

-- the rule, by the chunk's bytes
abbrev pub selection_rule : List ℕ → List Field
selection_rule = mask_rule 0
