use Rattle.view.proofs.Zeros.{area_zero}
use Rattle.mask_view.proofs.facts.SelectionFactsFromResultSelectionChunkNotShown.from.Goals as goal

pub returns-in-Err : goal.returns-in-Err
returns-in-Err c =
    let z = c.default.ensures in
    let area = area_zero c.default.result.mask.area z.0 in
    rw c.in-Err.is
    (λ i. record { number = c.into.ensures i; selection = record { mask = record { area = area i; bitmaps = z.1.0 i; channels = z.1.1 i } } })
