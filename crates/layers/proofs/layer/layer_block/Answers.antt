use mathlib.Core.Path.{sym, ◌∙◌}
use Rattle.entry.specs.Entry.{block, ranked}
use Rattle.chunk.specs.Heads.{layer_head}
use Rattle.chunk.specs.LayerInformation.{layer_size, layer_fault}
use Rattle.chunk.proofs.Rules.{layer_rules}
use Rattle.memory.specs.State.{with_layer}
use Rattle.kinds.proofs.Judging.{handed_on, nest_judged}
use Rattle.layers.specs.Layers.{layer_block}
use Rattle.layers.proofs.layer.layer_block.Goals as goal

pub returns-in_err-c : goal.returns-in_err-c
unfolding layer_block
returns-in_err-c c = handed_on _ c.from_residual.ensures.1 (c.in_err-c.ensures (λ x. let a = c.args in nest_judged a.total a.here.at layer_size (ranked (block 4 0 a.here.level a.here.at layer_head) a.st.members.found) (layer_fault a.st.image.depth x) (with_layer x a.st)))

pub returns-in_err-permitted : goal.returns-in_err-permitted
unfolding layer_block
returns-in_err-permitted c =
    handed_on _ c.from_residual-in_err-permitted.ensures.1
    (rw (← c.in_ok-c.ensures (λ x. let a = c.args in nest_judged a.total a.here.at layer_size (ranked (block 4 0 a.here.level a.here.at layer_head) a.st.members.found) (layer_fault a.st.image.depth x) (with_layer x a.st)), ← c.judge.ensures) (c.in_err-permitted.ensures.judged _))

pub with_layer-requires : goal.with_layer-requires
with_layer-requires c = (layer_rules _ _ (sym c.judge.ensures ∙ c.in_ok-permitted.ensures.good), c.requires)

pub returns : goal.returns
unfolding layer_block
returns c = rw (← c.in_ok-c.ensures (λ x. let a = c.args in nest_judged a.total a.here.at layer_size (ranked (block 4 0 a.here.level a.here.at layer_head) a.st.members.found) (layer_fault a.st.image.depth x) (with_layer x a.st)), ← c.judge.ensures, ← c.in_ok-permitted.ensures.judged _, ← c.with_layer.ensures) c.nest.ensures
