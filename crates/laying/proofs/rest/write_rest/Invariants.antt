-- `laying::rest::write_rest` meets its contract. The loop's invariant: what is written stands in front of what the rest of the stream means.
-- The measure is the bytes of the stream that are left.
use Prim.Native.Nat.{◌-◌}
use lib.ListN.{length}
use Rattle.laying.proofs.Laying.{Laying}
use Rattle.laying.proofs.rest.write_rest.Given as goal

abbrev pub invariant-loop-at : goal.invariant-loop-at
invariant-loop-at l = Laying l.from.stream.now l.from.plane l.at l.done l.dest

abbrev pub decreases-loop-at : goal.decreases-loop-at
decreases-loop-at l = length l.from.stream.now - l.at
