-- Counts of 32 bits against 2 to a depth that 32 bits do not hold.
use mathlib.Core.Path.{◌≡◌}
use mathlib.Core.Bool.{true, false}
use Prim.Native.Nat.{ℕ, ◌^◌, ◌<◌, ◌≤◌}
use native.Mathlib.Omega.{arith}
use borrow.Author.Tests.{ne_eqb, le-leb}
use lib.Dec.{eqb, leb}
use lib.Pow.{pow_mono}

module _ (count depth : ℕ) (small : count < 2 ^ 32) (large : 32 ≤ depth) where
  below : count < 2 ^ depth
  below = let far : 2 ^ 32 ≤ 2 ^ depth = pow_mono large in omega arith

  pub not_full : eqb count (2 ^ depth) ≡ false
  not_full = ne_eqb count (2 ^ depth) (λ (e : count ≡ 2 ^ depth). omega (arith, below))

  pub all_within : leb count (2 ^ depth) ≡ true
  all_within = le-leb count (2 ^ depth) (omega (arith, below))
