-- The length is asked first, so that the header may be read.
use mathlib.Core.Path.{sym, ap, ◌∙◌}
use mathlib.Core.Bool.{◌&&◌}
use native.Mathlib.Omega.{arith}
use lib.Dec.{eqb}
use Rattle.view.specs.At.{is_header_of}
use Rattle.view.proofs.Here.{cut_short, by_header}
use Rattle.view.proofs.at.is_block.Goals as goal

pub returns-then-input-saturating_add : goal.returns-then-input-saturating_add
returns-then-input-saturating_add c = sym (cut_short _ _ _ _ (omega arith))

pub returns : goal.returns
returns c =
    let a = c.args in
    (λ i. (c.marked.ensures i && eqb c.decode-h.result.id a.id) && c.lengths.ensures i)
    ∙ ap (is_header_of a.id) c.decode-h.ensures
    ∙ sym (by_header _ _ _ _ (omega arith))
