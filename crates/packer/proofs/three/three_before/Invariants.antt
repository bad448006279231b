-- The loop's invariant: one or two equal bytes have just gone by, and three equal ones start nowhere before them.
use Prim.Native.Nat.{◌+◌}
use lib.ListN.{length}
use Rattle.packer.proofs.Passing.{Passing}
use Rattle.packer.proofs.three.three_before.Given as goal

abbrev pub invariant-loop-i : goal.invariant-loop-i
invariant-loop-i l = Passing l.rest 0 (length l.rest) l.byte l.same (l.i + 1)
