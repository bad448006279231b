use Rattle.view.specs.Zeros.{no_layer}
use Rattle.view.proofs.Zeros.{all_zero, area_zero}
use Rattle.view.proofs.facts.LayerFactsFromResultLayerChunkNotShown.from.Goals as goal

pub returns-in-Err : goal.returns-in-Err
unfolding no_layer
returns-in-Err c =
    let l = c.default.result in
    let z = c.default.ensures in
    let name = all_zero l.name 256 z.0 in
    let image = area_zero l.image z.1.1.0 in
    let mask = area_zero l.mask z.1.1.1.1.1.1.1.1.0 in
    let ranges = all_zero l.ranges 40 z.1.1.1.1.1.1.1.1.1.1.1.1.1.0 in
    rw c.in-Err.is
    (λ i. record {
      number = c.into.ensures i;
      layer = record {
        name = name i;
        kind = z.1.0 i;
        image = image i;
        opacity = z.1.1.1.0 i;
        blending = z.1.1.1.1.0 i;
        visible = z.1.1.1.1.1.0 i;
        protected = z.1.1.1.1.1.1.0 i;
        group = z.1.1.1.1.1.1.1.0 i;
        mask = mask i;
        linked = z.1.1.1.1.1.1.1.1.1.0 i;
        disabled = z.1.1.1.1.1.1.1.1.1.1.0 i;
        inverted = z.1.1.1.1.1.1.1.1.1.1.1.0 i;
        blends = z.1.1.1.1.1.1.1.1.1.1.1.1.0 i;
        ranges = ranges i;
        bitmaps = z.1.1.1.1.1.1.1.1.1.1.1.1.1.1.0 i;
        channels = z.1.1.1.1.1.1.1.1.1.1.1.1.1.1.1 i;
      };
    })
