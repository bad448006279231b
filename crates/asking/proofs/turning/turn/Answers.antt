-- A turn is what the rule of the place makes of it.
use mathlib.Core.Path.{◌≡◌, sym, ap, ap₂, ◌∙◌}
use mathlib.Core.List.{List}
use Prim.Native.Nat.{ℕ}
use native.Mathlib.Omega.{arith}
use Rattle.std.specs.Prelude.{Result, Ok}
use Rattle.block.specs.declared.looking.Edge.{Edge}
use Rattle.kinds.specs.declared.answers.Stop.{Stop}
use Rattle.block.specs.Step.{step_at}
use Rattle.block.specs.Edge.{edge_of, edged}
use Rattle.block.proofs.Edges.{edge_known}
use Rattle.pencil.specs.declared.paper.Paper.{Paper}
use Rattle.pencil.specs.Pencil.{end_of, levels_of, turn_by, turn_at}
use Rattle.pencil.proofs.Stands.{levels_low}
use Rattle.asking.proofs.turning.turn.Goals as goal

-- a turn is made by what stands at the paper's place, of which it is known what it is before a header is read
by :
    (s : List ℕ) (room k : ℕ) (paper : Paper) {end levels : ℕ} {edge e : Result Edge Stop} → end ≡ end_of paper.inside → levels ≡ levels_of paper.inside
    → edge ≡ edge_of s paper.state paper.place end levels → edge ≡ e
    → turn_by room k paper (edged s paper.state paper.place end levels e) ≡ turn_at s room k paper
unfolding turn_at
by s room k paper ends levels at is =
    ap (turn_by room k paper)
    (edge_known _ _ _ _ _ (sym at ∙ is) ∙ ap₂ (λ (end levels : ℕ). step_at s paper.state paper.place end levels) ends levels)

pub block-requires : goal.block-requires
block-requires c =
    omega (arith, c.requires, c.end-end.ensures, c.levels-levels.ensures, levels_low c.args.paper.inside)

pub returns-in-Ok-End : goal.returns-in-Ok-End
unfolding turn_by turn_at
returns-in-Ok-End c = c.out.ensures ∙ by c.args.s.now c.args.room c.args.k c.args.paper c.end-end.ensures c.levels-levels.ensures c.edge_at.ensures (c.in-Ok-End.is ∙ ap Ok c.in-Ok-End.field-0-is)

pub returns-in-Err : goal.returns-in-Err
unfolding turn_by turn_at
returns-in-Err c = c.stopped.ensures ∙ by c.args.s.now c.args.room c.args.k c.args.paper c.end-end.ensures c.levels-levels.ensures c.edge_at.ensures c.in-Err.is

pub returns-in-Ok-Block : goal.returns-in-Ok-Block
unfolding turn_at
returns-in-Ok-Block c =
    let a = c.args in
    c.by.ensures
    ∙ ap (turn_by a.room a.k a.paper) c.block.ensures
    ∙ by a.s.now a.room a.k a.paper c.end-end.ensures c.levels-levels.ensures c.edge_at.ensures (c.in-Ok-Block.is ∙ ap Ok c.in-Ok-Block.field-0-is)
