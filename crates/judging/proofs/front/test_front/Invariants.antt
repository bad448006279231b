-- `judging::front::test_front` meets its contract. The loop's invariant: the stream is judged as what is left of it. The measure is the
-- bytes of the stream that are left.
use Prim.Native.Nat.{◌-◌, ◌≤◌}
use lib.ListN.{length}
use Rattle.packet.specs.Standing.{ahead}
use Rattle.judging.proofs.Judged.{Judged}
use Rattle.judging.proofs.front.test_front.Given as goal

abbrev pub invariant-loop-at : goal.invariant-loop-at
invariant-loop-at l = (l.from.at ≤ l.at) × Judged l.from.stream.now l.from.plane (ahead l.from) l.at l.done

abbrev pub decreases-loop-at : goal.decreases-loop-at
decreases-loop-at l = length l.from.stream.now - l.at
