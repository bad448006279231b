-- The channel information chunk (document 000, section 4.6) and its rule (document 01, "Channel, id 5"; document 02, request i: the plane length).
use Rattle.std.specs.Prelude.{ℕ, List, [], ◌∷◌, leb, Option}
use Rattle.endian.specs.Number.{number_at}
use Rattle.laws.specs.Lists.{part}
use Rattle.rect.specs.declared.planes.Shape.{Shape}
use Rattle.rect.specs.Rows.{is_plane}
use Rattle.chunk.specs.declared.channel_information.ChannelChunk.{ChannelChunk}
use Rattle.attributes.specs.Fault.{Field, field, earliest}

-- in bytes
abbrev pub channel_size : ℕ
channel_size = 12

-- the chunk of its own bytes
unfoldable pub channel_of : List ℕ → ChannelChunk
channel_of s = record {
  stored = number_at 4 s 0;
  plane = number_at 4 s 4;
  bitmap = number_at 2 s 8;
  channel = number_at 2 s 10;
}

abbrev pub channel_at : List ℕ → ℕ → ChannelChunk
channel_at s at = channel_of (part s at channel_size)

-- the codes come before the plane length
abbrev pub codes_fields : ChannelChunk → List Field
codes_fields c = field 8 2 (leb c.bitmap 5) ∷ field 10 2 (leb c.channel 3) ∷ []

unfoldable pub codes_fault : ChannelChunk → Option ℕ
codes_fault c = earliest (codes_fields c)

-- for planes of this shape
abbrev pub plane_fields : Shape → ChannelChunk → List Field
plane_fields shape c = field 4 4 (is_plane shape c.plane) ∷ []

unfoldable pub plane_fault : Shape → ChannelChunk → Option ℕ
plane_fault shape c = earliest (plane_fields shape c)

-- the two rules, by the chunk's bytes
abbrev pub codes_rule : List ℕ → List Field
codes_rule chunk = codes_fields (channel_of chunk)

abbrev pub plane_rule : Shape → List ℕ → List Field
plane_rule shape chunk = plane_fields shape (channel_of chunk)
