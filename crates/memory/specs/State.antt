-- What the rules remember from block to block.
use Rattle.std.specs.Prelude.{ℕ, ◌+◌, ◌-◌, Bool, true, false, ◌&&◌, ◌||◌, not, eqb, leb}
use Rattle.laws.specs.Choice.{pick}
use Rattle.rect.specs.declared.planes.Shape.{Shape}
use Rattle.rect.specs.Rows.{sides_of, shape_of, no_sides}
use Rattle.attributes.specs.declared.image_attributes.ImageChunk.{ImageChunk}
use Rattle.attributes.specs.Depth.{colour_bits, colour_short}
use Rattle.attributes.specs.ImageAttributes.{is_paletted}
use Rattle.chunk.specs.declared.alpha_bank_information.AlphaBankChunk.{AlphaBankChunk}
use Rattle.chunk.specs.declared.alpha_information.AlphaChunk.{AlphaChunk}
use Rattle.chunk.specs.declared.channel_information.ChannelChunk.{ChannelChunk}
use Rattle.chunk.specs.declared.layer_information.LayerChunk.{LayerChunk}
use Rattle.chunk.specs.declared.mask.Mask.{Mask}
use Rattle.chunk.specs.declared.selection_information.SelectionChunk.{SelectionChunk}
use Rattle.memory.specs.declared.parent.Open.TheVariants as opens
use Rattle.memory.specs.declared.parent.Parent.{Parent}
use Rattle.memory.specs.declared.parent.Parent.TheVariants.{Main, Bank, Layer, Selection, AlphaBank, Alpha}
use Rattle.memory.specs.declared.state.State.{State}
use Rattle.memory.specs.declared.state.Announced.{Announced}
use Rattle.memory.specs.declared.state.Current.{Current}
use Rattle.memory.specs.declared.state.Members.{Members}
use Rattle.memory.specs.declared.state.Met.{Met}
use Rattle.memory.specs.Codes.{no_codes, with_codes, has_colours}

-- before any block. Nothing is open there, and what `opened` says is not asked for
abbrev pub nothing_announced : Announced
nothing_announced = record { depth = 0; paletted = false; layers = 0 }

abbrev pub nothing_met : Met
nothing_met = record { palette = false; bank = false; selection = false; alphas = false }

abbrev pub no_current : Current
no_current = record { number = 0; left = 0; codes = no_codes; image = no_sides; mask = no_sides }

-- a bank's members: so many are announced, and none was found
abbrev pub members_of : ℕ → Members
members_of announced = record { announced = announced; found = 0 }

abbrev pub start : State
start = record { image = nothing_announced; met = nothing_met; opened = opens.Layers; members = members_of 0; current = no_current }

-- after the image block: what it announces
abbrev pub announced_by : ImageChunk → Announced
announced_by c = record { depth = c.depth; paletted = is_paletted c; layers = c.layers }

abbrev pub with_image : ImageChunk → State → State
with_image c st = record { image = announced_by c; met = st.met; opened = st.opened; members = st.members; current = st.current }

-- ### A block that comes once was met

abbrev pub met_palette : Met → Met
met_palette m = record { palette = true; bank = m.bank; selection = m.selection; alphas = m.alphas }

abbrev pub met_bank : Met → Met
met_bank m = record { palette = m.palette; bank = true; selection = m.selection; alphas = m.alphas }

abbrev pub met_selection : Met → Met
met_selection m = record { palette = m.palette; bank = m.bank; selection = true; alphas = m.alphas }

abbrev pub met_alphas : Met → Met
met_alphas m = record { palette = m.palette; bank = m.bank; selection = m.selection; alphas = true }

abbrev pub with_palette : State → State
with_palette st = record { image = st.image; met = met_palette st.met; opened = st.opened; members = st.members; current = st.current }

-- ### A bank is entered: its members count from 0

abbrev pub with_bank : State → State
with_bank st = record {
  image = st.image;
  met = met_bank st.met;
  opened = opens.Layers;
  members = members_of st.image.layers;
  current = st.current;
}

abbrev pub with_alpha_bank : AlphaBankChunk → State → State
with_alpha_bank c st = record {
  image = st.image;
  met = met_alphas st.met;
  opened = opens.Alphas;
  members = members_of c.count;
  current = st.current;
}

-- ### What holds channels is entered: its rank, its channel count, no code yet, the sides of its saved rectangles

abbrev pub layer_by : LayerChunk → ℕ → Current
layer_by c number = record {
  number = number;
  left = c.channels;
  codes = no_codes;
  image = sides_of c.image.saved;
  mask = sides_of c.mask.saved;
}

-- a selection or an alpha channel has one saved rectangle
abbrev pub mask_by : Mask → ℕ → Current
mask_by c number = record {
  number = number;
  left = c.channels;
  codes = no_codes;
  image = sides_of c.area.saved;
  mask = sides_of c.area.saved;
}

abbrev pub with_selection : SelectionChunk → State → State
with_selection c st = record {
  image = st.image;
  met = met_selection st.met;
  opened = opens.Mask;
  members = st.members;
  current = mask_by c.mask 0;
}

-- one member of the open bank more, whose number is its rank there
abbrev pub found_one : Members → Members
found_one m = record { announced = m.announced; found = m.found + 1 }

abbrev pub with_member : Current → State → State
with_member current st = record { image = st.image; met = st.met; opened = st.opened; members = found_one st.members; current = current }

abbrev pub with_layer : LayerChunk → State → State
with_layer c st = with_member (layer_by c st.members.found) st

abbrev pub with_alpha : AlphaChunk → State → State
with_alpha c st = with_member (mask_by c.mask st.members.found) st

-- ### A channel has come

abbrev pub channel_by : ChannelChunk → Current → Current
channel_by c l = record {
  number = l.number;
  left = l.left - 1;
  codes = with_codes l.codes c.bitmap c.channel;
  image = l.image;
  mask = l.mask;
}

abbrev pub with_channel : ChannelChunk → State → State
with_channel c st = record { image = st.image; met = st.met; opened = st.opened; members = st.members; current = channel_by c st.current }

-- the shape of a bitmap's planes. Bitmap 2 has the saved mask rectangle, the others have the saved image rectangle, or the one saved
-- rectangle of a selection or an alpha channel. Colours, bitmap 0, have the bits of the image's depth, and may have short rows at depth 8 and
-- 24; masks have 8 bits, and may have short rows at any depth
unfoldable pub shape_for : Current → ℕ → ℕ → Shape
shape_for l depth bitmap =
    pick (eqb bitmap 0) (shape_of l.image (colour_bits depth) (colour_short depth))
    (shape_of (pick (eqb bitmap 2) l.mask l.image) 8 true)

-- ### One too many, and what is missing

-- one layer (id 4), alpha channel (id 8) or channel (id 5) more than announced
abbrev pub is_surplus : State → ℕ → Bool
is_surplus st id =
    ((eqb id 4 || eqb id 8) && leb st.members.announced st.members.found) || (eqb id 5 && eqb st.current.left 0)

-- at the end of what holds a place: a file has its bank and, where it is paletted, its palette; a bank its layer count, an alpha bank its alpha
-- count; a layer its channel count and all colour channels; a selection and an alpha channel their channel
abbrev pub is_full : State → Parent → Bool
is_full st Main = st.met.bank && (not st.image.paletted || st.met.palette)
is_full st Bank = eqb st.members.found st.members.announced
is_full st Layer = eqb st.current.left 0 && has_colours st.current.codes st.image.depth
is_full st Selection = eqb st.current.left 0
is_full st AlphaBank = eqb st.members.found st.members.announced
is_full st Alpha = eqb st.current.left 0
