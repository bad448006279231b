-- One block more in each iteration.
use native.Mathlib.Omega.{arith}
use Rattle.packer.specs.Packing.{three}
use Rattle.packer.proofs.Reach.{clear_join}
use Rattle.packer.proofs.three.plain_blocks.Goals as goal

pub loop-to-init : goal.loop-to-init
loop-to-init c = (omega arith, λ k above below. absurd (omega arith))

pub loop-to-preserved : goal.loop-to-preserved
loop-to-preserved c =
    (omega arith, clear_join three c.args.rest.now 0 c.loop-to.to _ c.loop-to.invariant.1 (c.any_three.ensures c.if-not-any_three.true))

pub returns-after-loop-to : goal.returns-after-loop-to
returns-after-loop-to c = record { within = c.loop-to.invariant.0; before = λ k below. c.loop-to.invariant.1 k (omega arith) below }

pub returns-else-not-any_three : goal.returns-else-not-any_three
returns-else-not-any_three c = record { within = c.loop-to.invariant.0; before = λ k below. c.loop-to.invariant.1 k (omega arith) below }
