-- The i-th chunk of the table has its i-th entry.
use mathlib.Core.Path.{◌∙◌}
use Rattle.psp.proofs.Records.{chunk_entry, records_next}
use Rattle.psp.proofs.recorded.fill.Goals as goal

pub loop-i-preserved : goal.loop-i-preserved
loop-i-preserved c =
    records_next _ _ _ _ _ c.loop-i.invariant (c.from.ensures ∙ chunk_entry _ _ _ _ _ c.as_chunks.ensures.front c.as_chunks.ensures.front_len c.loop-i-test.true)
