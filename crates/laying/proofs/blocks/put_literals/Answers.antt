-- `laying::blocks::put_literals` meets its contract: each block is at least as long as what is laid.
use native.Mathlib.Omega.{arith}
use Rattle.laying.proofs.Laid.{literals_front}
use Rattle.laying.proofs.blocks.put_literals.Goals as goal

pub returns-then-n-le32 : goal.returns-then-n-le32
returns-then-n-le32 c = literals_front _ _ _ 32 (omega arith) (omega arith) _ (omega arith) c.copy_block.ensures

pub returns-then-n-le64 : goal.returns-then-n-le64
returns-then-n-le64 c = literals_front _ _ _ 64 (omega arith) (omega arith) _ (omega arith) c.copy_block-then-n-le64.ensures

pub returns-else-n-le64 : goal.returns-else-n-le64
returns-else-n-le64 c = literals_front _ _ _ 128 (omega arith) (omega arith) _ (omega arith) c.copy_block-else-n-le64.ensures
