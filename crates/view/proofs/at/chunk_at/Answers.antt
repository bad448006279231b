use mathlib.Core.Path.{sym, ap, ◌∙◌}
use native.Mathlib.Omega.{arith}
use Rattle.std.specs.Prelude.{Err}
use Rattle.view.proofs.Here.{block_whole, stands, stands_not}
use Rattle.view.proofs.at.chunk_at.Goals as goal

pub overflow_add-result : goal.overflow_add-result
overflow_add-result c = omega (arith, block_whole _ _ _ _ (sym c.is_block.ensures ∙ c.if-is_block.true))

pub returns-then-is_block : goal.returns-then-is_block
returns-then-is_block c = sym (stands _ _ _ _ _ (sym c.is_block.ensures ∙ c.if-is_block.true))

pub returns-else-is_block : goal.returns-else-is_block
returns-else-is_block c = ap Err c.into.ensures ∙ sym (stands_not _ _ _ _ _ (sym c.is_block.ensures ∙ c.if-is_block.false))
