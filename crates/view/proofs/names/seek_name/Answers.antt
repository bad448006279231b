use mathlib.Core.Path.{sym, ◌∙◌}
use native.Mathlib.Omega.{arith}
use Rattle.view.proofs.Accepted.{chunk_inside}
use Rattle.view.proofs.names.seek_name.Goals as goal

pub named-requires : goal.named-requires
named-requires g c =
    omega (arith, chunk_inside _ _ _ _ _ _ g.met.C.Viewed.whole c.in_ok-at.at (sym c.seek_place.ensures ∙ c.in_ok-at.was), g.met.C.Named.name_inside)
