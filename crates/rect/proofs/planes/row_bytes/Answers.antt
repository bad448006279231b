use mathlib.Core.Path.{refl}
use native.Mathlib.Omega.{arith}
use Rattle.rect.specs.Rows.{row_of}
use Rattle.rect.proofs.Rows.{pixels}
use Rattle.rect.proofs.planes.row_bytes.Goals as goal

pub overflow_mul-result : goal.overflow_mul-result
overflow_mul-result c = omega (arith, pixels c.args.w c.args.bits c.requires.0 c.requires.1)

pub overflow_add-result : goal.overflow_add-result
overflow_add-result c = omega (arith, pixels c.args.w c.args.bits c.requires.0 c.requires.1)

pub overflow_mul-result-2 : goal.overflow_mul-result-2
overflow_mul-result-2 c = omega (arith, pixels c.args.w c.args.bits c.requires.0 c.requires.1)

pub returns : goal.returns
unfolding row_of
returns c = (refl, omega (arith, pixels c.args.w c.args.bits c.requires.0 c.requires.1))
