-- The step of the place, by what is known before a header is read.
use mathlib.Core.Path.{sym, ap, ◌∙◌}
use Rattle.std.specs.Prelude.{Ok}
use Rattle.kinds.proofs.Judging.{handed_on}
use Rattle.block.proofs.Edges.{edge_known}
use Rattle.block.proofs.looking.look.Goals as goal

pub returns-in_err-edge_at : goal.returns-in_err-edge_at
returns-in_err-edge_at c = handed_on _ c.from_residual.ensures.1 (edge_known _ _ _ _ _ (sym c.in_err-edge_at.ensures))

pub returns-in-End : goal.returns-in-End
returns-in-End c = edge_known _ _ _ _ _ (sym c.in_ok-edge_at.ensures ∙ ap (λ e. Ok e) c.in-End.is)

pub returns-in-Block : goal.returns-in-Block
returns-in-Block c = c.block.ensures ∙ edge_known _ _ _ _ _ (sym c.in_ok-edge_at.ensures ∙ ap (λ e. Ok e) c.in-Block.is)
