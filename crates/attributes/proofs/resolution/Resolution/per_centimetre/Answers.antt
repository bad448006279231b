use mathlib.Core.Path.{sym, ◌∙◌}
use lib.Ieee.{of_bits, round}
use Rattle.laws.specs.Choice.{pick}
use Rattle.laws.proofs.Choice.{pick_yes}
use Rattle.attributes.specs.Resolution.{density_of}
use Rattle.attributes.proofs.resolution.Resolution.per_centimetre.Goals as goal

pub returns-in-1 : goal.returns-in-1
unfolding density_of pick of_bits round
returns-in-1 c = sym (pick_yes _ _ _ (sym c.usable.ensures ∙ c.if-not-usable.false) ∙ rw c.in-1.is)
