-- `judging::front::past_full` meets its contract. The loop's invariant: what was left of the stream is judged as what is left of it now.
use mathlib.Core.Path.{sym}
use native.Mathlib.Omega.{arith}
use Rattle.judging.proofs.Judged.{judged_literals}
use Rattle.judging.proofs.front.past_full.Goals as goal

pub loop-at-preserved : goal.loop-at-preserved
loop-at-preserved c =
    let j = c.loop-at.invariant.1 in
    (omega arith, judged_literals j 127 (sym c.if-from-at-eq127.true) (omega arith) (omega arith) (omega arith) (omega arith))
