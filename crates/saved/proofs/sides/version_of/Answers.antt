-- `saved::sides::version_of` meets its contract. The loop's invariant: `large` tells of the first i entries.
use Rattle.saved.proofs.Versions.{any_none, any_next}
use Rattle.saved.proofs.sides.version_of.Goals as goal

pub loop-i-init : goal.loop-i-init
loop-i-init g c = any_none _

pub loop-i-preserved : goal.loop-i-preserved
loop-i-preserved g c =
    any_next _ _ _ _ _ _ c.loop-i.invariant c.is_large-large.ensures c.number.ensures c.number-in-loop-i.ensures
