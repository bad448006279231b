use mathlib.Core.Path.{◌∙◌, ap}
use native.Mathlib.Omega.{arith}
use lib.ListN.{length}
use Rattle.laws.specs.Lists.{over}
use Rattle.laws.proofs.Stored.{stored_first, stored_next, stored_last}
use Rattle.entry.proofs.put.Goals as goal

pub loop-i-init : goal.loop-i-init
loop-i-init c = stored_first _ _ _ (omega (arith, c.requires, ap length c.into-numbers.ensures))

pub loop-i-preserved : goal.loop-i-preserved
loop-i-preserved c = stored_next _ _ _ _ _ c.loop-i.invariant 0 (omega (arith, ap length c.into-numbers.ensures))

pub returns : goal.returns
returns c = stored_last _ _ _ _ _ c.loop-i.invariant (omega (arith, ap length c.into-numbers.ensures)) ∙ ap (over c.args.table.now c.args.used) c.into-numbers.ensures
