-- The color palette information chunk (document 000, section 4.5) and its rule (document 01, "Palette, id 2").
use Rattle.std.specs.Prelude.{ℕ, ◌^◌, ◌&&◌, List, [], ◌∷◌, leb, Option}
use Rattle.endian.specs.Number.{number_at}
use Rattle.laws.specs.Lists.{part}
use Rattle.chunk.specs.declared.color_palette.PaletteChunk.{PaletteChunk}
use Rattle.attributes.specs.Fault.{Field, field, earliest}

-- in bytes
abbrev pub palette_size : ℕ
palette_size = 4

-- the chunk of its own bytes
unfoldable pub palette_of : List ℕ → PaletteChunk
palette_of s = record { count = number_at 4 s 0 }

abbrev pub palette_at : List ℕ → ℕ → PaletteChunk
palette_at s at = palette_of (part s at palette_size)

-- 1 to 2 to the depth
abbrev pub palette_fields : ℕ → PaletteChunk → List Field
palette_fields depth c = field 0 4 (leb 1 c.count && leb c.count (2 ^ depth)) ∷ []

unfoldable pub palette_fault : ℕ → PaletteChunk → Option ℕ
palette_fault depth c = earliest (palette_fields depth c)

-- the rule, by the chunk's bytes
abbrev pub palette_rule : ℕ → List ℕ → List Field
palette_rule depth chunk = palette_fields depth (palette_of chunk)
