use mathlib.Core.Path.{sym, ◌∙◌}
use Rattle.entry.specs.Entry.{block, ranked}
use Rattle.chunk.specs.Heads.{alpha_head}
use Rattle.chunk.specs.AlphaInformation.{alpha_size, alpha_fault}
use Rattle.chunk.proofs.Rules.{mask_rules}
use Rattle.memory.specs.State.{with_alpha}
use Rattle.kinds.proofs.Judging.{handed_on, nest_judged}
use Rattle.masks.specs.Masks.{alpha_block}
use Rattle.masks.proofs.alpha.alpha_block.Goals as goal

pub returns-in_err-c : goal.returns-in_err-c
unfolding alpha_block
returns-in_err-c c = handed_on _ c.from_residual.ensures.1 (c.in_err-c.ensures (λ x. let a = c.args in nest_judged a.total a.here.at alpha_size (ranked (block 8 0 a.here.level a.here.at alpha_head) a.st.members.found) (alpha_fault x) (with_alpha x a.st)))

pub returns-in_err-permitted : goal.returns-in_err-permitted
unfolding alpha_block
returns-in_err-permitted c =
    handed_on _ c.from_residual-in_err-permitted.ensures.1
    (rw (← c.in_ok-c.ensures (λ x. let a = c.args in nest_judged a.total a.here.at alpha_size (ranked (block 8 0 a.here.level a.here.at alpha_head) a.st.members.found) (alpha_fault x) (with_alpha x a.st)), ← c.judge.ensures) (c.in_err-permitted.ensures.judged _))

pub with_alpha-requires : goal.with_alpha-requires
with_alpha-requires c = (mask_rules _ _ (sym c.judge.ensures ∙ c.in_ok-permitted.ensures.good), c.requires)

pub returns : goal.returns
unfolding alpha_block
returns c = rw (← c.in_ok-c.ensures (λ x. let a = c.args in nest_judged a.total a.here.at alpha_size (ranked (block 8 0 a.here.level a.here.at alpha_head) a.st.members.found) (alpha_fault x) (with_alpha x a.st)), ← c.judge.ensures, ← c.in_ok-permitted.ensures.judged _, ← c.with_alpha.ensures) c.nest.ensures
