-- A chunk without a fault satisfies its rules.
use mathlib.Core.Path.{◌≡◌}
use mathlib.Core.Bool.{true}
use Prim.Native.Nat.{ℕ}
use borrow.Author.Tests.{leb-true, eqb-true}
use lib.Dec.{leb}
use Rattle.std.specs.Prelude.{None}
use Rattle.laws.proofs.Tests.{both}
use Rattle.rect.specs.declared.planes.Shape.{Shape}
use Rattle.rect.specs.Rows.{is_plane}
use Rattle.rect.proofs.Tests.{proper_yes, saved_sized, saved_inside}
use Rattle.attributes.proofs.Earliest.{kept}
use Rattle.chunk.specs.declared.channel_information.ChannelChunk.{ChannelChunk}
use Rattle.chunk.specs.declared.color_palette.PaletteChunk.{PaletteChunk}
use Rattle.chunk.specs.declared.layer_information.LayerChunk.{LayerChunk}
use Rattle.chunk.specs.declared.mask.Mask.{Mask}
use Rattle.chunk.specs.ChannelInformation.{codes_fields, codes_fault, plane_fields, plane_fault}
use Rattle.chunk.specs.ColorPalette.{palette_fields, palette_fault}
use Rattle.chunk.specs.LayerInformation.{layer_fields, layer_fault}
use Rattle.chunk.specs.Mask.{mask_fields, mask_fault}
use Rattle.chunk.specs.Rules.{PaletteRules, LayerRules, CodesRules, MaskRules}

pub palette_rules : (depth : ℕ) (c : PaletteChunk) → palette_fault depth c ≡ None → PaletteRules depth c
unfolding palette_fault
palette_rules depth c fault =
    let count = both _ _ (kept (palette_fields depth c) fault).0 in
    record { low = leb-true _ _ count.0; high = leb-true _ _ count.1 }

pub layer_rules : (depth : ℕ) (c : LayerChunk) → layer_fault depth c ≡ None → LayerRules depth c
unfolding layer_fault
layer_rules depth c fault =
    let k = kept (layer_fields depth c) fault in
    let image = c.image in
    let mask = c.mask in
    let k₄ = k.1.1.1 in
    let bitmaps = both (leb 1 c.bitmaps) _ k₄.1.1.1.0 in
    record {
      kind = leb-true _ _ k.0;
      image = proper_yes image.border k.1.0;
      saved_image = saved_sized image.saved image.border k.1.1.0;
      image_inside = saved_inside image.saved image.border k.1.1.0;
      mask = proper_yes mask.border k₄.0;
      saved_mask = saved_sized mask.saved mask.border k₄.1.0;
      mask_inside = saved_inside mask.saved mask.border k₄.1.0;
      blends = leb-true _ _ k₄.1.1.0;
      bitmaps_low = leb-true _ _ bitmaps.0;
      bitmaps_high = leb-true _ _ bitmaps.1;
      channels = eqb-true _ _ k₄.1.1.1.1.0;
    }

pub codes_rules : (c : ChannelChunk) → codes_fault c ≡ None → CodesRules c
unfolding codes_fault
codes_rules c fault =
    let k = kept (codes_fields c) fault in
    record { bitmap = leb-true _ _ k.0; channel = leb-true _ _ k.1.0 }

pub plane_rule_lem : (shape : Shape) (c : ChannelChunk) → plane_fault shape c ≡ None → is_plane shape c.plane ≡ true
unfolding plane_fault
plane_rule_lem shape c fault = (kept (plane_fields shape c) fault).0

-- a selection's or an alpha channel's
pub mask_rules : (from : ℕ) (c : Mask) → mask_fault from c ≡ None → MaskRules c
unfolding mask_fault
mask_rules from c fault =
    let k = kept (mask_fields from c) fault in
    record {
      border = proper_yes c.area.border k.0;
      saved = saved_sized c.area.saved c.area.border k.1.0;
      inside = saved_inside c.area.saved c.area.border k.1.0;
      bitmaps = eqb-true _ _ k.1.1.0;
      channels = eqb-true _ _ k.1.1.1.0;
    }
