-- The value of a resolution.
use mathlib.Core.Path.{◌≡◌, refl, sym}
use mathlib.Core.Bool.{Bool, true, false, ◌&&◌}
use mathlib.Core.List.{List}
use Prim.Native.Nat.{ℕ, ◌*◌, ◌<◌, ◌≤◌}
use native.Mathlib.Nat.{zero-mul, mul-one, le_of_mul-le-mul_right}
use borrow.Author.Tests.{lt-ltb, le-ltb, ltb-true, ltb-false}
use lib.IntN.{pos}
use lib.Ieee.{Float, binary64, of_bits, nan, inf, fin, lt, up, down}
use lib.Ieee.Fits.{up_pos}
use lib.Ieee.Positive.{positive, first_pos}
use Rattle.laws.proofs.Tests.{never}
use Rattle.attributes.specs.ImageAttributes.{image_of}
use Rattle.attributes.specs.Resolution.{resolution_at, is_usable}

-- it is the double of the bits that are carried beside it
pub value_bits : (s : List ℕ) → (image_of s).resolution.value ≡ of_bits binary64 (image_of s).bits
unfolding image_of resolution_at
value_bits s = refl

above : (x : Float) → lt (fin false 0 (pos 0)) x ≡ true → lt x (inf false) ≡ positive x
unfolding lt
above nan h = refl
above (inf true) h = never h
above (inf false) h = refl
above (fin true m e) h = never h
above (fin false m e) h =
    sym (lt-ltb 0 m (first_pos m (up e) (simp (zero-mul, mul-one) at (ltb-true (0 * 1 * down e) (m * up e * 1) h))))

not_above : (x : Float) → lt (fin false 0 (pos 0)) x ≡ false → false ≡ positive x
unfolding lt
not_above nan h = refl
not_above (inf s) h = refl
not_above (fin true m e) h = refl
not_above (fin false m e) h = sym (le-ltb 0 m (none (up_pos e) (simp (zero-mul, mul-one) at (ltb-false (0 * 1 * down e) (m * up e * 1) h))))
  where
    none : 0 < up e → m * up e ≤ 0 → m ≤ 0
    none p q = le_of_mul-le-mul_right (simp zero-mul q) p

-- above 0 and below the infinity is finite and above 0: no NaN, no infinity, no 0 of either sign, and each subnormal above 0
pub usable : (x : Float) → is_usable x ≡ positive x
unfolding is_usable
usable x = case (lt (fin false 0 (pos 0)) x) refl
  where
    case : (b : Bool) → lt (fin false 0 (pos 0)) x ≡ b → (b && lt x (inf false)) ≡ positive x
    case true e = above x e
    case false e = not_above x e
