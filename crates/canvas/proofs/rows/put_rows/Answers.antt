-- One row more in each iteration.
use mathlib.Core.Path.{refl, sym, ap, ◌∙◌}
use mathlib.Core.List.{List}
use Prim.Native.Nat.{ℕ, ◌+◌, ◌≤◌}
use native.Mathlib.Omega.{arith}
use native.Mathlib.Numerals.{add-one}
use lib.ListN.{length}
use Rattle.laws.specs.Lists.{over, part}
use Rattle.laws.proofs.Part.{part_length, copied_whole}
use Rattle.laws.proofs.Over.{over_length}
use Rattle.canvas.specs.Blocks.{rows_of}
use Rattle.canvas.proofs.rows.put_rows.Goals as goal

pub loop-i-init : goal.loop-i-init
unfolding rows_of
loop-i-init c = (refl, refl)

pub loop-i-preserved : goal.loop-i-preserved
unfolding rows_of
loop-i-preserved c =
    let a = c.args in
    let i = c.loop-i.i in
    let on = c.start-to.ensures in
    let of = c.start-from.ensures in
    let there : c.start-to.result + a.w ≤ length c.loop-i.canvas = omega (arith, c.requires.there i c.loop-i-test.true) in
    let here : c.start-from.result + a.w ≤ length a.plane.now = omega (arith, c.requires.here i c.loop-i-test.true) in
    let copied = copied_whole c.loop-i.canvas a.plane.now c.copy_row.new.to c.start-to.result c.start-from.result a.w there here c.copy_row.ensures in
    let long = part_length a.plane.now c.start-from.result a.w here in
    let row : ℕ → ℕ → List ℕ → List ℕ = λ to from l. over l to (part a.plane.now from a.w) in
    let rows = rows_of a.plane.now a.of.apart a.of.first a.w a.canvas.now a.on.apart a.on.first in (
      copied ∙ (λ j. row (on j) (of j) (c.loop-i.invariant.0 j)) ∙ ap rows (sym (add-one i)),
      ap length copied
          ∙ over_length c.loop-i.canvas c.start-to.result (part a.plane.now c.start-from.result a.w) (omega arith)
          ∙ c.loop-i.invariant.1,
    )
