-- The loop's invariant: the first i rows are on the canvas, and it is as long as it was.
use mathlib.Core.Path.{◌≡◌}
use lib.ListN.{length}
use Rattle.canvas.specs.Blocks.{rows_of}
use Rattle.canvas.proofs.rows.put_rows.Given as goal

abbrev pub invariant-loop-i : goal.invariant-loop-i
invariant-loop-i l =
    (l.canvas ≡ rows_of l.plane l.of.apart l.of.first l.w l.initial.canvas l.on.apart l.on.first l.i) × (length l.canvas ≡ length l.initial.canvas)
