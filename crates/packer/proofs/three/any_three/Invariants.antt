-- The loop's invariant: if `any` is false, three equal bytes started nowhere so far.
use mathlib.Core.Path.{◌≡◌}
use mathlib.Core.Bool.{false}
use Prim.Native.Nat.{◌+◌}
use Rattle.packer.specs.Packing.{three}
use Rattle.packer.proofs.Reach.{Clear}
use Rattle.packer.proofs.three.any_three.Given as goal

abbrev pub invariant-loop-i : goal.invariant-loop-i
invariant-loop-i l = l.any ≡ false → Clear three l.rest l.at (l.at + l.i)
