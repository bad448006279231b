-- The count fits the table and the records, which then hold the listing's entries.
use Rattle.psp.proofs.Listed.{fits_table, fits_records, recorded}
use Rattle.psp.proofs.recorded.list_records.Goals as goal

pub fill-requires : goal.fill-requires
fill-requires c =
    let t = c.from-told.ensures in
    let e = c.list_up_to.ensures in
    (fits_table _ _ _ _ _ _ t e c.list_up_to.auto.table, fits_records _ _ _ _ _ _ t e)

pub returns : goal.returns
returns c = recorded _ _ _ _ _ _ c.from-told.ensures c.list_up_to.ensures _ c.fill.ensures
