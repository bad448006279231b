-- The general image attributes chunk (document 000, section 5.3) and the rule of its fields (document 01, "Image, id 0").
use Rattle.std.specs.Prelude.{ℕ, ◌^◌, Bool, ◌&&◌, ◌||◌, not, List, [], ◌∷◌, eqb, leb, ltb, ℤ, pos, Option}
use Rattle.std.specs.Int.Signed.{le_z}
use Rattle.endian.specs.Number.{number_at, signed_at}
use Rattle.laws.specs.Lists.{part}
use Rattle.limits.specs.Limits.{side_limit, layer_limit}
use Rattle.attributes.specs.declared.image_attributes.ImageChunk.{ImageChunk}
use Rattle.attributes.specs.Depth.{is_depth}
use Rattle.attributes.specs.Fault.{Field, field, earliest}
use Rattle.attributes.specs.Resolution.{resolution_at, is_resolution}

-- in bytes
abbrev pub image_size : ℕ
image_size = 38

-- the chunk of its own bytes
unfoldable pub image_of : List ℕ → ImageChunk
image_of s = record {
  width = signed_at s 0;
  height = signed_at s 4;
  bits = number_at 8 s 8;
  resolution = resolution_at s 8;
  compression = number_at 2 s 17;
  depth = number_at 2 s 19;
  planes = number_at 2 s 21;
  colours = number_at 4 s 23;
  grey = number_at 1 s 27;
  total = number_at 4 s 28;
  active = signed_at s 32;
  layers = number_at 2 s 36;
}

abbrev pub image_at : List ℕ → ℕ → ImageChunk
image_at s at = image_of (part s at image_size)

-- 1 to the limit
abbrev pub is_side : ℤ → Bool
is_side z = le_z (pos 1) z && le_z z (pos side_limit)

-- depth below 24 without grey
abbrev pub is_paletted : ImageChunk → Bool
is_paletted c = ltb c.depth 24 && eqb c.grey 0

abbrev pub image_fields : ImageChunk → List Field
image_fields c =
    field 0 4 (is_side c.width)
    ∷ field 4 4 (is_side c.height)
    ∷ field 16 1 (is_resolution c.resolution)
    ∷ field 17 2 (leb c.compression 2)
    ∷ field 19 2 (is_depth c.depth)
    ∷ field 21 2 (eqb c.planes 1)
    ∷ field 23 4 (eqb c.colours (2 ^ c.depth))
    ∷ field 27 1 (eqb c.grey 0 || (eqb c.grey 1 && eqb c.depth 8))
    ∷ field 36 2 (leb 1 c.layers && leb c.layers layer_limit && (not (is_paletted c) || eqb c.layers 1))
    ∷ []

unfoldable pub image_fault : ImageChunk → Option ℕ
image_fault c = earliest (image_fields c)

-- the rule, by the chunk's bytes
abbrev pub image_rule : List ℕ → List Field
image_rule chunk = image_fields (image_of chunk)
