use mathlib.Core.Path.{sym}
use Rattle.saved.proofs.Form.{numbers_at_length}
use Rattle.saved.proofs.sides.InBytesNumbers.count.Goals as goal

pub returns : goal.returns
returns c = sym (numbers_at_length _ _ 0)
