-- `laying::rest::write_rest` meets its contract: the packet at each place lies inside the stream and the plane, and is laid.
use mathlib.Core.Path.{ap, ◌∙◌}
use Prim.Native.Nat.{◌+◌, ◌-◌}
use native.Mathlib.Omega.{arith}
use lib.ListN.{take, drop, length-drop}
use lib.Seq.{length-take-le, take-take}
use Rattle.std.proofs.lemmas.List.{take-replicate}
use Rattle.laying.proofs.Laid.{written}
use Rattle.laying.proofs.Laying.{literals_fit, laying_literals, run_fits, laying_run, laying_last}
use Rattle.laying.proofs.rest.write_rest.Goals as goal

pub slice_bounds-literals-end : goal.slice_bounds-literals-end
slice_bounds-literals-end c =
    let fits = literals_fit c.loop-at.invariant c.requires.accepted (omega arith) c.from-count.result c.from-count.ensures (omega arith) in
    omega (arith, fits)

pub slice_bounds-copy_from_slice-end : goal.slice_bounds-copy_from_slice-end
slice_bounds-copy_from_slice-end c =
    let fits = literals_fit c.loop-at.invariant c.requires.accepted (omega arith) c.from-count.result c.from-count.ensures (omega arith) in
    omega (arith, fits, c.loop-at.invariant.long)

pub loop-at-preserved-then-count-lt128 : goal.loop-at-preserved-then-count-lt128
loop-at-preserved-then-count-lt128 c =
    let l = c.loop-at in
    let n = c.from-count.result in
    let fits = literals_fit l.invariant c.requires.accepted (omega arith) n c.from-count.ensures (omega arith) in
    laying_literals l.invariant c.requires.accepted (omega arith) n c.from-count.ensures _ (omega arith)
    (written l.dest c.copy_from_slice.new.self _ l.done n _ (omega (arith, fits, l.invariant.long)) (omega arith) c.copy_from_slice.ensures.len
    (ap (take n) c.copy_from_slice.ensures.after ∙ take-take n _ _ (omega arith)))

pub slice_bounds-fill-end : goal.slice_bounds-fill-end
slice_bounds-fill-end c =
    let fits = run_fits c.loop-at.invariant c.requires.accepted (omega arith) c.from-count.result c.from-count.ensures (omega arith) in
    omega (arith, fits, c.loop-at.invariant.long)

pub bounds-stream-at-else-count-lt128 : goal.bounds-stream-at-else-count-lt128
bounds-stream-at-else-count-lt128 c =
    let fits = run_fits c.loop-at.invariant c.requires.accepted (omega arith) c.from-count.result c.from-count.ensures (omega arith) in
    omega (arith, fits)

pub loop-at-preserved : goal.loop-at-preserved
loop-at-preserved c =
    let l = c.loop-at in
    let n = c.from-count.result in
    let fits = run_fits l.invariant c.requires.accepted (omega arith) n c.from-count.ensures (omega arith) in
    let there = length-take-le (l.done + (n - 128) - l.done) (drop l.done l.dest) (omega (arith, fits, l.invariant.long, length-drop l.done l.dest)) in
    laying_run l.invariant c.requires.accepted (omega arith) n c.from-count.ensures _ (omega arith)
    (written l.dest c.fill.new.self _ l.done (n - 128) _ (omega (arith, fits, l.invariant.long)) (omega arith) c.fill.ensures.len
    (ap (take (n - 128)) (c.fill.ensures.after (λ y e. e)) ∙ take-replicate (n - 128) _ _ (omega (arith, there))))

pub returns : goal.returns
returns c = laying_last c.loop-at.invariant c.requires.accepted (omega arith)
