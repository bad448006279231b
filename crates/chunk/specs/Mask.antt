-- Two rectangles and two counts, which the chunks of a selection and of an alpha channel have alike (document 000, sections 5.10 and 5.11), and
-- their rule (document 02, request vii).
use Rattle.std.specs.Prelude.{ℕ, ◌+◌, List, [], ◌∷◌, eqb, Option}
use Rattle.endian.specs.Number.{number_at}
use Rattle.rect.specs.Rect.{is_proper, is_saved}
use Rattle.attributes.specs.Fault.{Field, field, earliest}
use Rattle.chunk.specs.declared.mask.Mask.{Mask}
use Rattle.chunk.specs.Area.{area_at}

-- in bytes
abbrev pub mask_size : ℕ
mask_size = 36

unfoldable pub mask_at : List ℕ → ℕ → Mask
mask_at s at = record { area = area_at s at; bitmaps = number_at 2 s (at + 32); channels = number_at 2 s (at + 34) }

-- from an offset of the chunk on: one bitmap, and one channel
abbrev pub mask_fields : ℕ → Mask → List Field
mask_fields from c =
    field from 16 (is_proper c.area.border)
    ∷ field (from + 16) 16 (is_saved c.area.saved c.area.border)
    ∷ field (from + 32) 2 (eqb c.bitmaps 1)
    ∷ field (from + 34) 2 (eqb c.channels 1)
    ∷ []

unfoldable pub mask_fault : ℕ → Mask → Option ℕ
mask_fault from c = earliest (mask_fields from c)

-- the rule, by the chunk's bytes
abbrev pub mask_rule : ℕ → List ℕ → List Field
mask_rule from chunk = mask_fields from (mask_at chunk from)
