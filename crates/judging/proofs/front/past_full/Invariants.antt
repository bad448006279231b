-- `judging::front::past_full` meets its contract. The loop's invariant: what was left of the stream is judged as what is left of it now.
use Prim.Native.Nat.{◌-◌, ◌≤◌}
use lib.ListN.{length}
use Rattle.packet.specs.Standing.{ahead}
use Rattle.judging.proofs.Judged.{Judged}
use Rattle.judging.proofs.front.past_full.Given as goal

abbrev pub invariant-loop-at : goal.invariant-loop-at
invariant-loop-at l = (l.from.at ≤ l.at) × Judged l.from.stream.now l.from.plane (ahead l.from) l.at l.done

abbrev pub decreases-loop-at : goal.decreases-loop-at
decreases-loop-at l = length l.from.stream.now - l.at
