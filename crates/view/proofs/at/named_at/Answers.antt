use mathlib.Core.Path.{sym, ◌∙◌}
use native.Mathlib.Omega.{arith}
use Rattle.view.proofs.Here.{here_inside}
use Rattle.view.proofs.at.named_at.Goals as goal

pub named-requires : goal.named-requires
named-requires g c =
    omega (arith, here_inside _ _ _ _ _ c.in_ok-at.at (sym c.place_of.ensures ∙ c.in_ok-at.was), g.met.C.Named.name_inside)
