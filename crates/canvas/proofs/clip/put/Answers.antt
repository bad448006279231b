use mathlib.Core.Path.{sym, ◌∙◌}
use Rattle.canvas.proofs.Clipped.{clipping_of, none_shared, canvas_spans, plane_spans, shared_proper, rows_room, rows_place}
use Rattle.canvas.proofs.clip.put.Goals as goal

pub returns-then-is_empty : goal.returns-then-is_empty
returns-then-is_empty c =
    none_shared (clipping_of c.requires c.frame-whole.ensures c.intersect-shared.ensures) (sym c.is_empty.ensures ∙ c.if-is_empty.true)

pub rows_in-on-requires : goal.rows_in-on-requires
rows_in-on-requires c =
    canvas_spans (clipping_of c.requires c.frame-whole.ensures c.intersect-shared.ensures) (sym c.is_empty.ensures ∙ c.if-is_empty.false)

pub rows_in-of-requires : goal.rows_in-of-requires
rows_in-of-requires c =
    plane_spans (clipping_of c.requires c.frame-whole.ensures c.intersect-shared.ensures) (sym c.is_empty.ensures ∙ c.if-is_empty.false)

pub width-w-requires : goal.width-w-requires
width-w-requires c =
    shared_proper (clipping_of c.requires c.frame-whole.ensures c.intersect-shared.ensures) (sym c.is_empty.ensures ∙ c.if-is_empty.false)

pub height-h-requires : goal.height-h-requires
height-h-requires c =
    shared_proper (clipping_of c.requires c.frame-whole.ensures c.intersect-shared.ensures) (sym c.is_empty.ensures ∙ c.if-is_empty.false)

pub put_rows-requires : goal.put_rows-requires
put_rows-requires c =
    rows_room (clipping_of c.requires c.frame-whole.ensures c.intersect-shared.ensures) (sym c.is_empty.ensures ∙ c.if-is_empty.false)
    _ _ _ _ c.rows_in-on.ensures c.rows_in-of.ensures c.width-w.ensures.0 c.height-h.ensures.0

pub returns : goal.returns
returns c =
    c.put_rows.ensures
    ∙ rows_place (clipping_of c.requires c.frame-whole.ensures c.intersect-shared.ensures) (sym c.is_empty.ensures ∙ c.if-is_empty.false)
    _ _ _ _ c.rows_in-on.ensures c.rows_in-of.ensures c.width-w.ensures.0 c.height-h.ensures.0
