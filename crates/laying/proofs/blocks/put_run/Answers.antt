-- `laying::blocks::put_run` meets its contract: each block is at least as long as what is laid.
use native.Mathlib.Omega.{arith}
use Rattle.laying.proofs.Laid.{run_front}
use Rattle.laying.proofs.blocks.put_run.Goals as goal

pub returns-then-n-le16 : goal.returns-then-n-le16
returns-then-n-le16 c = run_front _ _ _ 16 (omega arith) (omega arith) _ c.fill_block.ensures

pub returns-then-n-le32 : goal.returns-then-n-le32
returns-then-n-le32 c = run_front _ _ _ 32 (omega arith) (omega arith) _ c.fill_block-then-n-le32.ensures

pub returns-then-n-le64 : goal.returns-then-n-le64
returns-then-n-le64 c = run_front _ _ _ 64 (omega arith) (omega arith) _ c.fill_block-then-n-le64.ensures

pub returns-else-n-le64 : goal.returns-else-n-le64
returns-else-n-le64 c = run_front _ _ _ 128 (omega arith) (omega arith) _ c.fill_block-else-n-le64.ensures
