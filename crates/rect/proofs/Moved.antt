-- A signed value that the code moves shows as its bits read back. These laws take the trip away.
use mathlib.Core.Path.{◌≡◌, refl, sym, ap₂, ◌∙◌}
use mathlib.Core.Bool.{Bool}
use Prim.Native.Nat.{◌<◌, ◌^◌}
use lib.IntN.{ℤ}
use lib.Signed.{mag, lt_z}
use mir.Syntax.{w32}
use mir.Val.{SFits, to_z, of_z}
use Rattle.endian.proofs.Signed.{back}

pub moved : (a : ℤ) → SFits w32 a → to_z w32 (of_z w32 a) ≡ a
moved a fits = back a fits.sfits refl

-- a test of two such values
pub tested : (a b : ℤ) {t : Bool} → SFits w32 a → SFits w32 b → lt_z (to_z w32 (of_z w32 a)) (to_z w32 (of_z w32 b)) ≡ t → lt_z a b ≡ t
tested a b p q h = sym (ap₂ lt_z (moved a p) (moved b q)) ∙ h

-- what a call says of two such values
pub called :
    (f : ℤ → ℤ → ℤ) (r a b : ℤ) → mag r < 2 ^ 31 → mag a < 2 ^ 31 → mag b < 2 ^ 31
    → r ≡ f (to_z w32 (of_z w32 a)) (to_z w32 (of_z w32 b)) → to_z w32 (of_z w32 r) ≡ f a b
called f r a b k p q h = back r k (h ∙ ap₂ f (back a p refl) (back b q refl))
