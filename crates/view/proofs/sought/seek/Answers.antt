use mathlib.Core.Path.{sym, ◌∙◌}
use Rattle.view.proofs.Accepted.{chunk_inside}
use Rattle.view.proofs.sought.seek.Goals as goal

pub decode-requires : goal.decode-requires
decode-requires g c = chunk_inside _ _ _ _ _ _ g.met.C.Viewed.whole c.in_ok-at.at (sym c.seek_place.ensures ∙ c.in_ok-at.was)
