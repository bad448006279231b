use Rattle.std.specs.Prelude.{None}
use Rattle.entry.specs.Entry.{block, plain}
use Rattle.chunk.specs.AlphaBankInformation.{alpha_bank_size}
use Rattle.chunk.specs.Heads.{alpha_bank_head}
use Rattle.memory.specs.State.{with_alpha_bank}
use Rattle.kinds.specs.Blocks.{permitted}
use Rattle.kinds.proofs.Judging.{handed_on, nest_judged}
use Rattle.masks.specs.Masks.{alpha_bank_block}
use Rattle.masks.proofs.alpha_bank.alpha_bank_block.Goals as goal

pub returns-in_err-c : goal.returns-in_err-c
unfolding alpha_bank_block permitted
returns-in_err-c c = handed_on _ c.from_residual.ensures.1 (c.in_err-c.ensures (λ x. let a = c.args in nest_judged a.total a.here.at alpha_bank_size (plain (block 7 0 a.here.level a.here.at alpha_bank_head)) None (with_alpha_bank x a.st)))

pub returns : goal.returns
unfolding alpha_bank_block permitted
returns c = rw (← c.in_ok-c.ensures (λ x. let a = c.args in nest_judged a.total a.here.at alpha_bank_size (plain (block 7 0 a.here.level a.here.at alpha_bank_head)) None (with_alpha_bank x a.st)), ← c.with_alpha_bank.ensures) c.nest.ensures
