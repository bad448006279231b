use mathlib.Core.Path.{◌∙◌}
use Rattle.view.specs.Name.{name_in}
use Rattle.view.proofs.Zero.{name_length}
use Rattle.view.proofs.names.named.Goals as goal

pub returns : goal.returns
unfolding name_in
returns c =
    let at = c.args.at in
    λ i. record { start = at; length = (c.before_zero.ensures ∙ name_length _ at) i }
