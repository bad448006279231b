use mathlib.Core.Path.{◌∙◌}
use borrow.Author.Rules.{rules}
use Rattle.std.specs.Int.{int_max, int_min}
use Rattle.rect.specs.Shared.{framed_of}
use Rattle.rect.proofs.Clipping.{greater_is, lesser_is}
use Rattle.rect.proofs.Moved.{called}
use Rattle.rect.proofs.Rect.intersect.Goals as goal

pub returns : goal.returns
returns c =
    let a = c.args.self in
    let b = c.args.other in
    let left = called int_max c.max.result a.left b.left c.max.type_inv (search rules) (search rules) c.max.ensures.value ∙ greater_is a.left b.left in
    let top = called int_max c.max-2.result a.top b.top c.max-2.type_inv (search rules) (search rules) c.max-2.ensures.value ∙ greater_is a.top b.top in
    let right = called int_min c.min.result a.right b.right c.min.type_inv (search rules) (search rules) c.min.ensures.value ∙ lesser_is a.right b.right in
    let bottom = called int_min c.min-2.result a.bottom b.bottom c.min-2.type_inv (search rules) (search rules) c.min-2.ensures.value ∙ lesser_is a.bottom b.bottom in
    c.framed.ensures ∙ λ i. framed_of (left i) (top i) (right i) (bottom i)
