use mathlib.Core.Path.{sym, ◌∙◌}
use Rattle.entry.specs.Entry.{block, plain}
use Rattle.chunk.specs.Heads.{selection_head}
use Rattle.chunk.specs.SelectionInformation.{selection_size, selection_fault}
use Rattle.chunk.proofs.Rules.{mask_rules}
use Rattle.memory.specs.State.{with_selection}
use Rattle.kinds.proofs.Judging.{handed_on, nest_judged}
use Rattle.masks.specs.Masks.{selection_block}
use Rattle.masks.proofs.selection.selection_block.Goals as goal

pub returns-in_err-c : goal.returns-in_err-c
unfolding selection_block
returns-in_err-c c = handed_on _ c.from_residual.ensures.1 (c.in_err-c.ensures (λ x. let a = c.args in nest_judged a.total a.here.at selection_size (plain (block 6 0 a.here.level a.here.at selection_head)) (selection_fault x) (with_selection x a.st)))

pub returns-in_err-permitted : goal.returns-in_err-permitted
unfolding selection_block
returns-in_err-permitted c =
    handed_on _ c.from_residual-in_err-permitted.ensures.1
    (rw (← c.in_ok-c.ensures (λ x. let a = c.args in nest_judged a.total a.here.at selection_size (plain (block 6 0 a.here.level a.here.at selection_head)) (selection_fault x) (with_selection x a.st)), ← c.judge.ensures) (c.in_err-permitted.ensures.judged _))

pub with_selection-requires : goal.with_selection-requires
with_selection-requires c = mask_rules _ _ (sym c.judge.ensures ∙ c.in_ok-permitted.ensures.good)

pub returns : goal.returns
unfolding selection_block
returns c = rw (← c.in_ok-c.ensures (λ x. let a = c.args in nest_judged a.total a.here.at selection_size (plain (block 6 0 a.here.level a.here.at selection_head)) (selection_fault x) (with_selection x a.st)), ← c.judge.ensures, ← c.in_ok-permitted.ensures.judged _, ← c.with_selection.ensures) c.nest.ensures
