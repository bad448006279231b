-- Two's complement: the library's signed reading of 32 bits is `signed`.
use mathlib.Core.Path.{◌≡◌, ap, ◌∙◌}
use mathlib.Core.Bool.{cond}
use Prim.Native.Nat.{ℕ, suc, ◌-◌, ◌^◌, ◌<◌}
use native.Mathlib.Omega.{arith}
use lib.Dec.{ltb}
use lib.IntN.{ℤ, pos, negsuc}
use lib.Signed.{mag}
use mir.Syntax.{w32}
use mir.Val.{to_z, of_z}
use mir.ValLaws.{to_z-of_z}
use Rattle.endian.specs.Number.{signed}

-- a signed value that the code moves shows as its bits read back: it is the value
pub back : (r : ℤ) {x : ℤ} → mag r < 2 ^ 31 → r ≡ x → to_z w32 (of_z w32 r) ≡ x
back r fits e = to_z-of_z w32 r (record { sfits = fits }) ∙ e

pub signed_is : (n : ℕ) → to_z w32 n ≡ signed n
unfolding signed
signed_is n = let same : 4294967296 - suc n ≡ 4294967295 - n = omega arith in ap (λ (m : ℕ). cond (ltb n 2147483648) (pos n) (negsuc m)) same
