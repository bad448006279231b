-- A layer, and the channels of a layer, a selection or an alpha channel, once a header has passed: the chunk and the other units, in document
-- 01's order of tests ("Units, and when they are judged"). `at` is the header's place.
use Rattle.std.specs.Prelude.{ℕ, ◌+◌, Bool, ◌&&◌, not, List, eqb}
use Rattle.rect.specs.declared.planes.Shape.{Shape}
use Rattle.rect.specs.declared.planes.Size.{Size}
use Rattle.rect.specs.Rows.{size_of}
use Rattle.answer.specs.declared.Refusal.TheVariants.{WrongLength, NotExpected}
use Rattle.entry.specs.declared.Entry.{Entry}
use Rattle.entry.specs.Entry.{block, code, content, ranked}
use Rattle.walk.specs.Walk.{Stop, Leaf}
use Rattle.walk.specs.Unit.{unit}
use Rattle.headers.specs.BlockHeader.{block_header_size}
use Rattle.chunk.specs.declared.channel_information.ChannelChunk.{ChannelChunk}
use Rattle.chunk.specs.Heads.{layer_head, channel_head}
use Rattle.chunk.specs.LayerInformation.{layer_size, layer_of, layer_fault}
use Rattle.chunk.specs.ChannelInformation.{channel_size, channel_of, codes_fault, plane_fault}
use Rattle.memory.specs.declared.parent.Parent.{Parent}
use Rattle.memory.specs.declared.state.State.{State}
use Rattle.memory.specs.Codes.{is_expected, has_codes}
use Rattle.memory.specs.State.{with_layer, with_channel, shape_for}
use Rattle.kinds.specs.Blocks.{Judged, unless, permitted, nest_block}

-- ### Layer, id 4: its header and its chunk

unfoldable pub layer_block : List ℕ → State → ℕ → ℕ → ℕ → Judged
layer_block s st total at level =
    nest_block s total at layer_size (λ chunk. layer_fault st.image.depth (layer_of chunk)) (ranked (block 4 0 level at layer_head) st.members.found)
    (λ chunk. with_layer (layer_of chunk) st)

-- ### Channel, id 5: the total by the stored length, the codes, expected and not twice, the plane length, the content

-- by what holds it
abbrev pub is_awaited : State → Parent → ChannelChunk → Bool
is_awaited st parent c =
    is_expected parent st.image.depth c.bitmap c.channel && not (has_codes st.current.codes c.bitmap c.channel)

-- channels fill every part of their entry: level, header place, layer number, its chunk, its size
abbrev pub channel_entry : ℕ → ℕ → ℕ → ChannelChunk → Size → Entry
channel_entry level at layer c size = record {
  block = block 5 0 level at (channel_head + c.stored);
  layer = layer;
  code = code c.bitmap c.channel;
  content = content (at + channel_head) c.stored;
  size = size;
}

abbrev pub channel_read : List ℕ → State → ℕ → ℕ → ChannelChunk → Size → Judged
channel_read s st at level c size =
    unit s (at + channel_head) c.stored (λ _.
    Leaf (channel_entry level at st.current.number c size) (at + channel_head + c.stored) (with_channel c st))

-- once it is expected
unfoldable pub channel_sized : List ℕ → State → ℕ → ℕ → ChannelChunk → Shape → Judged
channel_sized s st at level c shape =
    permitted (plane_fault shape c) (at + block_header_size) (channel_read s st at level c (size_of shape c.plane))

-- once its total is good
unfoldable pub channel_coded : List ℕ → State → Parent → ℕ → ℕ → ChannelChunk → Judged
channel_coded s st parent at level c =
    permitted (codes_fault c) (at + block_header_size)
    (unless (is_awaited st parent c) (Stop NotExpected at)
    (channel_sized s st at level c (shape_for st.current st.image.depth c.bitmap)))

abbrev pub channel_judged : List ℕ → State → Parent → ℕ → ℕ → ℕ → ChannelChunk → Judged
channel_judged s st parent total at level c = unless (eqb total (channel_size + c.stored)) (Stop WrongLength at) (channel_coded s st parent at level c)

unfoldable pub channel_block : List ℕ → State → Parent → ℕ → ℕ → ℕ → Judged
channel_block s st parent total at level =
    unit s (at + block_header_size) channel_size (λ chunk. channel_judged s st parent total at level (channel_of chunk))
