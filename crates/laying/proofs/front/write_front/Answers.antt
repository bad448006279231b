-- `laying::front::write_front` meets its contract: the packet at each place lies inside the stream and the plane, and is laid.
use mathlib.Core.Path.{◌∙◌}
use Prim.Native.Nat.{◌-◌}
use native.Mathlib.Omega.{arith}
use lib.Seq.{take-take}
use Rattle.laying.proofs.Laid.{written}
use Rattle.laying.proofs.Laying.{laying_first, laying_literals, laying_run}
use Rattle.laying.proofs.front.write_front.Goals as goal

pub loop-at-init : goal.loop-at-init
loop-at-init c =
    let f = c.first-from.ensures in
    laying_first _ c.first-from.result _ f.0 f.1 f.2 f.3

pub loop-at-preserved-then-count-lt128 : goal.loop-at-preserved-then-count-lt128
loop-at-preserved-then-count-lt128 c =
    let l = c.loop-at in
    let n = c.from-count.result in
    let put = c.put_literals.ensures in
    laying_literals l.invariant c.requires (omega arith) n c.from-count.ensures _ (omega arith)
    (written l.dest _ _ l.done n _ (omega arith) (omega (arith, l.invariant.long)) put.0 (put.1 ∙ take-take n _ _ (omega arith)))

pub loop-at-preserved : goal.loop-at-preserved
loop-at-preserved c =
    let l = c.loop-at in
    let n = c.from-count.result in
    let put = c.put_run.ensures in
    laying_run l.invariant c.requires (omega arith) n c.from-count.ensures _ (omega arith)
    (written l.dest _ _ l.done (n - 128) _ (omega arith) (omega (arith, l.invariant.long)) put.0 put.1)
