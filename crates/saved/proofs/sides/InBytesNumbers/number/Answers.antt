use mathlib.Core.Path.{sym, ◌∙◌}
use Prim.Native.Nat.{◌/◌}
use native.Mathlib.Omega.{arith}
use lib.ListN.{length}
use Rattle.saved.proofs.Form.{numbers_at_length, number_front}
use Rattle.saved.proofs.sides.InBytesNumbers.number.Goals as goal

pub u32_at-requires : goal.u32_at-requires
u32_at-requires c = let bytes = c.args.self.now.0.now in omega (arith, numbers_at_length (length bytes / 4) bytes 0)

pub returns : goal.returns
returns c =
    let bytes = c.args.self.now.0.now in
    let n = length bytes / 4 in
    c.u32_at.ensures.value ∙ sym (number_front n bytes c.args.i (omega (arith, numbers_at_length n bytes 0)))

pub overflow_mul-i : goal.overflow_mul-i
overflow_mul-i c = let bytes = c.args.self.now.0.now in record { fits = omega (arith, numbers_at_length (length bytes / 4) bytes 0) }
