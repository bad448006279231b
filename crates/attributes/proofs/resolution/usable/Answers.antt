use mathlib.Core.Path.{sym, ap, ◌∙◌}
use mathlib.Core.Bool.{Bool, false, ◌&&◌}
use lib.Ieee.{of_bits, div, lt, inf}
use Rattle.attributes.specs.Resolution.{is_usable}
use Rattle.attributes.proofs.resolution.usable.Goals as goal

pub returns-then-x : goal.returns-then-x
unfolding is_usable of_bits div
returns-then-x c = sym (ap (λ (b : Bool). b && lt c.args.x (inf false)) c.if-x.true)

pub returns-else-x : goal.returns-else-x
unfolding is_usable of_bits div
returns-else-x c = c.if-x.false ∙ sym (ap (λ (b : Bool). b && lt c.args.x (inf false)) c.if-x.false)
