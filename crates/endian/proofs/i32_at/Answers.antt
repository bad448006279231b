use mathlib.Core.Path.{◌∙◌, ap}
use Rattle.endian.specs.Number.{signed}
use Rattle.endian.proofs.Signed.{back, signed_is}
use Rattle.endian.proofs.Width.{le_at}
use Rattle.endian.proofs.i32_at.Goals as goal

pub returns : goal.returns
returns c =
    back c.from_le_bytes.result c.from_le_bytes.type_inv
    (c.from_le_bytes.ensures ∙ signed_is _ ∙ ap signed (le_at 3 c.args.s.now c.bytes_at.result c.args.at c.bytes_at.ensures))
