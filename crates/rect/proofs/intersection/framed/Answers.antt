use mathlib.Core.Path.{sym, ◌∙◌}
use Rattle.laws.proofs.Choice.{pick_yes, pick_no}
use Rattle.rect.specs.Shared.{framed_of}
use Rattle.rect.proofs.Moved.{moved, tested}
use Rattle.rect.proofs.intersection.framed.Goals as goal
use Rattle.rect.proofs.intersection.framed.Goals.{else-left-right-via-then-left-right+else-top-bottom, else-left-right-via-else-left-right}

pub returns-then-top-bottom : goal.returns-then-top-bottom
unfolding framed_of
returns-then-top-bottom c =
    let s = c in
    let a = s.args in
    let across = tested a.left a.right s.ranges.left s.ranges.right c.if-left-right.true in
    let down = tested a.top a.bottom s.ranges.top s.ranges.bottom c.if-top-bottom.true in
    (λ i. record {
      left = moved a.left s.ranges.left i;
      top = moved a.top s.ranges.top i;
      right = moved a.right s.ranges.right i;
      bottom = moved a.bottom s.ranges.bottom i;
    })
    ∙ sym (pick_yes _ _ _ across ∙ pick_yes _ _ _ down)

pub returns : goal.returns
unfolding framed_of
returns c =
    let s = c in
    let a = s.args in
    let zeros = c.default.ensures in
    (λ i. record { left = zeros.0 i; top = zeros.1.0 i; right = zeros.1.1.0 i; bottom = zeros.1.1.1 i })
    ∙ elim c.else-left-right.branch [
      | else-left-right-via-then-left-right+else-top-bottom w ↦
          sym (pick_yes _ _ _ (tested a.left a.right s.ranges.left s.ranges.right w.if-left-right.true)
          ∙ pick_no _ _ _ (tested a.top a.bottom s.ranges.top s.ranges.bottom w.if-top-bottom.false))
      | else-left-right-via-else-left-right w ↦
          sym (pick_no _ _ _ (tested a.left a.right s.ranges.left s.ranges.right w.if-left-right.false))
    ]
