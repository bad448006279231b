use Rattle.view.proofs.Zeros.{all_zero, area_zero}
use Rattle.mask_view.specs.Facts.{no_alpha}
use Rattle.mask_view.proofs.facts.AlphaFactsFromResultAlphaChunkNotShown.from.Goals as goal

pub returns-in-Err : goal.returns-in-Err
unfolding no_alpha
returns-in-Err c =
    let a = c.default.result in
    let z = c.default.ensures in
    let name = all_zero a.name 256 z.0 in
    let area = area_zero a.mask.area z.1.0 in
    rw c.in-Err.is
    (λ i. record {
      number = c.into.ensures i;
      alpha = record { name = name i; mask = record { area = area i; bitmaps = z.1.1.0 i; channels = z.1.1.1 i } };
    })
