-- The loop's invariant: what is left is behind bytes that are all this one.
use lib.ListN.{length}
use Rattle.packer.specs.Packing.{other_than}
use Rattle.packer.proofs.Reach.{Behind}
use Rattle.packer.proofs.equal.equal_blocks.Given as goal

abbrev pub invariant-loop-block : goal.invariant-loop-block
invariant-loop-block l = Behind (other_than l.byte) l.rest l.left

abbrev pub decreases-loop-block : goal.decreases-loop-block
decreases-loop-block l = length l.left
