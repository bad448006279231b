-- Its two tests joined.
use Rattle.packer.proofs.Places.{three_tested}
use Rattle.packer.proofs.three.three_at.Goals as goal

pub returns : goal.returns
returns c = three_tested _ _ c.requires
