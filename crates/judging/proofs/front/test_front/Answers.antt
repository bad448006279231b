-- `judging::front::test_front` meets its contract. The loop's invariant: the stream is judged as what is left of it. The measure is the
-- bytes of the stream that are left.
use mathlib.Core.Path.{◌≡◌, ◌∙◌}
use native.Mathlib.Omega.{arith}
use Rattle.judging.proofs.Judged.{judged_past, judged_literals, judged_run}
use Rattle.judging.proofs.front.test_front.Goals as goal

pub loop-at-preserved-then-count-gt128 : goal.loop-at-preserved-then-count-gt128
loop-at-preserved-then-count-gt128 c =
    (omega arith, judged_run c.loop-at.invariant.1 c.from-count.result c.from-count.ensures (omega arith) (omega arith) (omega arith) (omega arith))

pub loop-at-preserved-then-count-lt127 : goal.loop-at-preserved-then-count-lt127
loop-at-preserved-then-count-lt127 c =
    (omega arith, judged_literals c.loop-at.invariant.1 c.from-count.result c.from-count.ensures (omega arith) (omega arith) (omega arith) (omega arith))

pub loop-at-preserved : goal.loop-at-preserved
loop-at-preserved c =
    let full : 127 ≡ c.from-count.result = omega arith in
    let first = judged_literals c.loop-at.invariant.1 127 (full ∙ c.from-count.ensures) (omega arith) (omega arith) (omega arith) (omega arith) in
    let past = c.past_full-past.ensures in
    (omega (arith, past.2, c.moved.ensures.2), judged_past c.moved.result c.past_full-past.result first c.moved.ensures past)
