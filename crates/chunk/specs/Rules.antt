-- What a palette, layer, channel, selection or alpha channel chunk without a fault satisfies: the documents' rules, by name.
use Rattle.std.specs.Prelude.{ℕ, ◌+◌, ◌^◌, ◌≤◌, ◌≡◌, true, ◌||◌}
use Rattle.rect.specs.Rect.{Proper, Sized, is_empty, is_inside}
use Rattle.attributes.specs.Depth.{colour_channels}
use Rattle.chunk.specs.declared.channel_information.ChannelChunk.{ChannelChunk}
use Rattle.chunk.specs.declared.color_palette.PaletteChunk.{PaletteChunk}
use Rattle.chunk.specs.declared.layer_information.LayerChunk.{LayerChunk}
use Rattle.chunk.specs.declared.mask.Mask.{Mask}

pub record PaletteRules (depth : ℕ) (c : PaletteChunk) : Type 0 where
  pub low : 1 ≤ c.count
  pub high : c.count ≤ 2 ^ depth

pub record LayerRules (depth : ℕ) (c : LayerChunk) : Type 0 where
  pub kind : c.kind ≤ 1
  pub image : Proper c.image.border
  pub saved_image : Sized c.image.saved
  pub image_inside : (is_empty c.image.saved || is_inside c.image.saved c.image.border) ≡ true
  pub mask : Proper c.mask.border
  pub saved_mask : Sized c.mask.saved
  pub mask_inside : (is_empty c.mask.saved || is_inside c.mask.saved c.mask.border) ≡ true
  pub blends : c.blends ≤ 5
  pub bitmaps_low : 1 ≤ c.bitmaps
  pub bitmaps_high : c.bitmaps ≤ 3
  pub channels : c.channels + 1 ≡ colour_channels depth + c.bitmaps

pub record CodesRules (c : ChannelChunk) : Type 0 where
  pub bitmap : c.bitmap ≤ 5
  pub channel : c.channel ≤ 3

pub record MaskRules (c : Mask) : Type 0 where
  pub border : Proper c.area.border
  pub saved : Sized c.area.saved
  pub inside : (is_empty c.area.saved || is_inside c.area.saved c.area.border) ≡ true
  pub bitmaps : c.bitmaps ≡ 1
  pub channels : c.channels ≡ 1
