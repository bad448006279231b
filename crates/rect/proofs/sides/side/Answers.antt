use native.Mathlib.Omega.{arith}
use Rattle.rect.proofs.Axis.{near, fits, side_is}
use Rattle.rect.proofs.sides.side.Goals as goal

pub overflow_sub-result : goal.overflow_sub-result
overflow_sub-result c = fits c.args.from c.args.to c.ranges.from c.ranges.to c.requires

pub overflow_cast-result : goal.overflow_cast-result
overflow_cast-result c =
    simp (side_is c.args.from c.args.to c.ranges.from c.ranges.to c.requires)
    (tt, record { fits = omega (arith, near c.args.from c.args.to c.requires) })

pub returns : goal.returns
returns c =
    let is = side_is c.args.from c.args.to c.ranges.from c.ranges.to c.requires in
    (simp is, simp is (near c.args.from c.args.to c.requires))
