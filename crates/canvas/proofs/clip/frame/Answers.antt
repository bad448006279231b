use mathlib.Core.Path.{◌≡◌}
use Prim.Native.Nat.{ℕ, ◌≤◌}
use native.Mathlib.Omega.{arith}
use borrow.Author.Tests.{lt-ltb}
use lib.IntN.{pos}
use mir.Syntax.{w32}
use mir.Val.{to_z}
use Rattle.limits.specs.Limits.{side_limit}
use Rattle.canvas.proofs.clip.frame.Goals as goal

small : (n : ℕ) → n ≤ side_limit → to_z w32 n ≡ pos n
small n h = simp (lt-ltb n 2147483648 (omega arith))

pub returns : goal.returns
returns c =
    λ i. record {
      left = pos 0;
      top = pos 0;
      right = small c.args.width c.requires.0 i;
      bottom = small c.args.height c.requires.1 i;
    }
