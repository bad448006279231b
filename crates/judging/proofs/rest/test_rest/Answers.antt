-- `judging::rest::test_rest` meets its contract. The loop's invariant: what was left of the stream is judged as what is left of it now. The
-- measure is the bytes of the stream that are left.
use native.Mathlib.Omega.{arith}
use Rattle.judging.proofs.Judged.{judged_literals, judged_run, stop_full, stop_128, stop_data, stop_literals, stop_byte, stop_run, stop_whole, stop_short}
use Rattle.judging.proofs.rest.test_rest.Goals as goal

pub returns-then-left-eq0 : goal.returns-then-left-eq0
returns-then-left-eq0 c = stop_full c.loop-at.invariant (omega arith) c.if-left-eq0.true

pub returns-then-count-eq128 : goal.returns-then-count-eq128
returns-then-count-eq128 c = stop_128 c.loop-at.invariant (omega arith) c.if-left-eq0.false _ c.from-count.ensures c.if-count-eq128.true

pub returns-then-rest-count : goal.returns-then-rest-count
returns-then-rest-count c =
    stop_data c.loop-at.invariant (omega arith) c.if-left-eq0.false _ c.from-count.ensures c.if-count-eq128.false c.if-count-lt128.true c.if-rest-count.true

pub returns-then-left-count : goal.returns-then-left-count
returns-then-left-count c =
    stop_literals c.loop-at.invariant (omega arith) c.if-left-eq0.false _ c.from-count.ensures c.if-count-eq128.false
    c.if-count-lt128.true c.if-rest-count.false c.if-left-count.true

pub loop-at-preserved-then-count-lt128 : goal.loop-at-preserved-then-count-lt128
loop-at-preserved-then-count-lt128 c =
    judged_literals c.loop-at.invariant c.from-count.result c.from-count.ensures (omega arith) (omega arith) (omega arith) (omega arith)

pub returns-then-rest-eq0 : goal.returns-then-rest-eq0
returns-then-rest-eq0 c =
    stop_byte c.loop-at.invariant (omega arith) c.if-left-eq0.false _ c.from-count.ensures c.if-count-eq128.false c.if-count-lt128.false c.if-rest-eq0.true

pub returns-then-left-count-2 : goal.returns-then-left-count-2
returns-then-left-count-2 c =
    stop_run c.loop-at.invariant (omega arith) c.if-left-eq0.false _ c.from-count.ensures c.if-count-eq128.false
    c.if-count-lt128.false c.if-rest-eq0.false c.if-left-count-2.true

pub loop-at-preserved : goal.loop-at-preserved
loop-at-preserved c =
    judged_run c.loop-at.invariant c.from-count.result c.from-count.ensures (omega arith) (omega arith) (omega arith) (omega arith)

pub returns-then-done-plane : goal.returns-then-done-plane
returns-then-done-plane c = stop_short c.loop-at.invariant (omega arith) (λ e. omega arith)

pub returns : goal.returns
returns c = stop_whole c.loop-at.invariant (omega arith) (omega (arith, c.loop-at.invariant.room))
