-- The layer information chunk (document 000, section 5.9) and the rule of its fields (document 01, "Layer, id 4").
use Rattle.std.specs.Prelude.{ℕ, ◌+◌, Bool, ◌&&◌, not, List, [], ◌∷◌, eqb, leb, Option}
use Rattle.endian.specs.Number.{number_at}
use Rattle.laws.specs.Lists.{part}
use Rattle.rect.specs.Rect.{is_proper, is_saved}
use Rattle.chunk.specs.declared.layer_information.LayerChunk.{LayerChunk}
use Rattle.chunk.specs.Area.{area_at}
use Rattle.attributes.specs.Depth.{colour_channels}
use Rattle.attributes.specs.Fault.{Field, field, earliest}

-- off (zero) or on
abbrev pub flag_at : List ℕ → ℕ → Bool
flag_at s at = not (eqb (number_at 1 s at) 0)

-- in bytes
abbrev pub layer_size : ℕ
layer_size = 375

-- the chunk of its own bytes
unfoldable pub layer_of : List ℕ → LayerChunk
layer_of s = record {
  name = part s 0 256;
  kind = number_at 1 s 256;
  image = area_at s 257;
  opacity = number_at 1 s 289;
  blending = number_at 1 s 290;
  visible = flag_at s 291;
  protected = flag_at s 292;
  group = number_at 1 s 293;
  mask = area_at s 294;
  linked = flag_at s 326;
  disabled = flag_at s 327;
  inverted = flag_at s 328;
  blends = number_at 2 s 329;
  ranges = part s 331 40;
  bitmaps = number_at 2 s 371;
  channels = number_at 2 s 373;
}

abbrev pub layer_at : List ℕ → ℕ → LayerChunk
layer_at s at = layer_of (part s at layer_size)

-- in an image of this depth; channels are c + b - 1
abbrev pub layer_fields : ℕ → LayerChunk → List Field
layer_fields depth c =
    field 256 1 (leb c.kind 1)
    ∷ field 257 16 (is_proper c.image.border)
    ∷ field 273 16 (is_saved c.image.saved c.image.border)
    ∷ field 294 16 (is_proper c.mask.border)
    ∷ field 310 16 (is_saved c.mask.saved c.mask.border)
    ∷ field 329 2 (leb c.blends 5)
    ∷ field 371 2 (leb 1 c.bitmaps && leb c.bitmaps 3)
    ∷ field 373 2 (eqb (c.channels + 1) (colour_channels depth + c.bitmaps))
    ∷ []

unfoldable pub layer_fault : ℕ → LayerChunk → Option ℕ
layer_fault depth c = earliest (layer_fields depth c)

-- the rule, by the chunk's bytes
abbrev pub layer_rule : ℕ → List ℕ → List Field
layer_rule depth chunk = layer_fields depth (layer_of chunk)
