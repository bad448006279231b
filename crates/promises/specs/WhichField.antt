-- Document 02, request (vi): answer 8 says which field. Of the block that was judged last, its chunk all there, it names the field whose rule
-- fails; every field that is judged before it satisfies its own.
use Rattle.std.specs.Prelude.{◌≡◌, true, List, [], ◌∷◌, ℕ, ◌+◌, ◌≤◌, take, None}
use Rattle.laws.specs.All.{All}
use Rattle.laws.specs.Lists.{part}
use Rattle.entry.specs.declared.Entry.{Entry}
use Rattle.entry.specs.Entry.{code}
use Rattle.walk.specs.Promised.{Tiles}
use Rattle.walk.specs.Parents.{holds, holder}
use Rattle.headers.specs.BlockHeader.{block_header_size}
use Rattle.headers.specs.FileHeader.{file_header_size}
use Rattle.attributes.specs.Fault.{Field, earliest, Names}
use Rattle.attributes.specs.ImageAttributes.{image_size, image_rule}
use Rattle.chunk.specs.AlphaInformation.{alpha_size, alpha_rule}
use Rattle.chunk.specs.ChannelInformation.{channel_size, channel_of, codes_rule, plane_rule}
use Rattle.chunk.specs.ColorPalette.{palette_size, palette_rule}
use Rattle.chunk.specs.LayerInformation.{layer_size, layer_rule}
use Rattle.chunk.specs.Rules.{CodesRules}
use Rattle.chunk.specs.SelectionInformation.{selection_size, selection_rule}
use Rattle.memory.specs.declared.parent.Parent.{Parent}
use Rattle.memory.specs.declared.parent.Parent.TheVariants.{Bank, AlphaBank}
use Rattle.memory.specs.Parent.{is_host}
use Rattle.kinds.specs.Headed.{Chunked}
use Rattle.listing.specs.Right.{parent_of, codes_in, depth_of, Awaited, shape_in}

-- the chunk of so many bytes behind the header at a place
abbrev pub chunk_of : List ℕ → ℕ → ℕ → List ℕ
chunk_of s at size = part s (at + block_header_size) size

-- a block is judged inside another: the last one of a level, which is such a parent, and holds these
pub record Inside (kind : Parent) (level : ℕ) (es : List Entry) (parent : Entry) (others : List Entry) : Type 0 where
  pub held_by : holder level es ≡ holds parent others
  pub is : parent_of parent ≡ kind

-- a channel's codes are permitted, and expected among these
pub record Expected (s : List ℕ) (kind : Parent) (at : ℕ) (others : List Entry) : Type 0 where
  pub permitted : CodesRules (channel_of (chunk_of s at channel_size))
  pub awaited :
      let c = channel_of (chunk_of s at channel_size) in Awaited kind (depth_of s) (codes_in others) (code c.bitmap c.channel)

-- The field at an offset of the chunk is named, behind these entries, by the rule of its kind of block. A channel has two rules: bitmap and
-- channel come first; then, once they are expected, the plane length, though that stands in front of them.
pub data Named (s : List ℕ) (es : List Entry) (at offset : ℕ) : Type 0 where
  of_image : Chunked s at 0 image_size → es ≡ [] → Names image_rule (chunk_of s at image_size) offset → Named s es at offset
  of_palette :
      Chunked s at 2 palette_size → (depth_of s ≡ 24 → ⊥) → Names (palette_rule (depth_of s)) (chunk_of s at palette_size) offset
      → Named s es at offset
  of_layer :
      {bank : Entry} {others : List Entry} → Chunked s at 4 layer_size → Inside Bank 0 es bank others
      → Names (layer_rule (depth_of s)) (chunk_of s at layer_size) offset → Named s es at offset
  of_selection : Chunked s at 6 selection_size → Names selection_rule (chunk_of s at selection_size) offset → Named s es at offset
  of_alpha :
      {bank : Entry} {others : List Entry} → Chunked s at 8 alpha_size → Inside AlphaBank 0 es bank others
      → Names alpha_rule (chunk_of s at alpha_size) offset → Named s es at offset
  of_codes :
      {kind : Parent} {level : ℕ} {parent : Entry} {others : List Entry} → Chunked s at 5 channel_size → is_host kind ≡ true
      → Inside kind level es parent others → Names codes_rule (chunk_of s at channel_size) offset → Named s es at offset
  of_plane :
      {kind : Parent} {level : ℕ} {parent : Entry} {others : List Entry} → Chunked s at 5 channel_size → is_host kind ≡ true
      → Inside kind level es parent others → Expected s kind at others
      → Names (plane_rule (shape_in s kind parent.block.place (channel_of (chunk_of s at channel_size)).bitmap)) (chunk_of s at channel_size) offset
      → Named s es at offset

-- of a listing that answers 8 at a place: the block stands right behind the last entry, and the place is the field's
pub record WhichField (s : List ℕ) (es : List Entry) (place : ℕ) : Type 0 where
  pub at : ℕ
  pub behind : Tiles file_header_size es at
  pub offset : ℕ
  pub is : place ≡ at + block_header_size + offset
  pub named : Named s es at offset

-- ### Of a fault between two fields it is the later one

-- where a chunk that is the same in front of a field is permitted, the field that is named is this one, or one behind it: an earlier one that
-- is good with some value of this one is not named
abbrev pub Later : (List ℕ → List Field) → ℕ → Type 0
Later rule place =
    (chunk other : List ℕ) (offset : ℕ) → Names rule chunk offset → take place other ≡ take place chunk → earliest (rule other) ≡ None → place ≤ offset

-- request (vi)'s pairs, by the later field: the metric with its resolution, the colours with the depth, grey with the depth, the layer count
-- with the palette (which an image without grey and below depth 24 has); the saved rectangles with their borders, the channels with the bitmaps.
-- A selection and an alpha channel have one such pair
abbrev pub image_pairs : List ℕ
image_pairs = 16 ∷ 23 ∷ 27 ∷ 36 ∷ []

abbrev pub layer_pairs : List ℕ
layer_pairs = 273 ∷ 310 ∷ 373 ∷ []

pub record LaterNamed : Type 0 where
  pub image : All (Later image_rule) image_pairs
  pub layer : (depth : ℕ) → All (Later (layer_rule depth)) layer_pairs
  pub selection : Later selection_rule 16
  pub alpha : Later alpha_rule 272
