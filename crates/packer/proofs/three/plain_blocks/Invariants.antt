-- The loop's invariant: three equal bytes started nowhere so far.
use Prim.Native.Nat.{◌-◌, ◌≤◌}
use lib.ListN.{length}
use Rattle.packer.specs.Packing.{three}
use Rattle.packer.proofs.Reach.{Clear}
use Rattle.packer.proofs.three.plain_blocks.Given as goal

abbrev pub invariant-loop-to : goal.invariant-loop-to
invariant-loop-to l = (l.to ≤ length l.rest) × Clear three l.rest 0 l.to

abbrev pub decreases-loop-to : goal.decreases-loop-to
decreases-loop-to l = length l.rest - l.to
