use Rattle.view.proofs.Place.{part_of}
use Rattle.view.proofs.shown.Span.of.Goals as goal

pub returns : goal.returns
returns c = part_of _ _ _
