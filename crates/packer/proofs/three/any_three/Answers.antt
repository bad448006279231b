-- One place more in each iteration.
use native.Mathlib.Omega.{arith}
use Rattle.packer.proofs.Passing.{plain_more}
use Rattle.packer.proofs.three.any_three.Goals as goal

pub loop-i-init : goal.loop-i-init
loop-i-init c _ k above below = absurd (omega arith)

pub loop-i-preserved : goal.loop-i-preserved
loop-i-preserved c = plain_more c.args.rest.now c.args.at c.loop-i.i c.loop-i.any _ c.loop-i.invariant c.three_at-any.ensures

pub returns : goal.returns
returns c plain k above below = c.loop-i.invariant plain k above (omega arith)
