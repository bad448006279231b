-- `saved::writer::put_numbers` meets its contract. The loop's invariant: i numbers are written.
use native.Mathlib.Omega.{arith}
use Rattle.saved.proofs.Form.{put_first, put_length, put_next, put_last}
use Rattle.saved.proofs.writer.put_numbers.Goals as goal

pub loop-i-init : goal.loop-i-init
loop-i-init c = put_first _ _ c.requires

pub put_u32-requires : goal.put_u32-requires
put_u32-requires c = omega (arith, c.requires, put_length _ _ _ _ c.loop-i.invariant)

pub loop-i-preserved : goal.loop-i-preserved
loop-i-preserved c = put_next _ _ _ _ c.loop-i.invariant _ c.loop-i-test.true c.put_u32.ensures

pub returns : goal.returns
returns c = put_last _ _ _ _ c.loop-i.invariant (omega arith)
