-- What stands in a record of facts where there is nothing to tell: zeros, flags that are off, arrays of zeros.
use Rattle.std.specs.Prelude.{false, pos, replicate}
use Rattle.std.specs.Float.{fin}
use Rattle.rect.specs.declared.Rect.{Rect}
use Rattle.chunk.specs.declared.area.Area.{Area}
use Rattle.attributes.specs.declared.image_attributes.ImageChunk.{ImageChunk}
use Rattle.chunk.specs.declared.layer_information.LayerChunk.{LayerChunk}

unfoldable pub no_image : ImageChunk
no_image = record {
  width = pos 0;
  height = pos 0;
  bits = 0;
  resolution = record { value = fin false 0 (pos 0); metric = 0 };
  compression = 0;
  depth = 0;
  planes = 0;
  colours = 0;
  grey = 0;
  total = 0;
  active = pos 0;
  layers = 0;
}

abbrev pub no_rect : Rect
no_rect = record { left = pos 0; top = pos 0; right = pos 0; bottom = pos 0 }

unfoldable pub no_area : Area
no_area = record { border = no_rect; saved = no_rect }

unfoldable pub no_layer : LayerChunk
no_layer = record {
  name = replicate 256 0;
  kind = 0;
  image = no_area;
  opacity = 0;
  blending = 0;
  visible = false;
  protected = false;
  group = 0;
  mask = no_area;
  linked = false;
  disabled = false;
  inverted = false;
  blends = 0;
  ranges = replicate 40 0;
  bitmaps = 0;
  channels = 0;
}
