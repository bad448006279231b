-- Whole chunks compute: the image chunk of document 01's file of 521 bytes, and one with two bad fields, compression and layer count.
use mathlib.Core.Path.{◌≡◌, refl}
use mathlib.Core.List.{List, [], ◌∷◌}
use Prim.Native.Nat.{ℕ}
use Rattle.std.specs.Prelude.{None, Some}
use Rattle.endian.specs.Number.{le, number_at, signed}
use Rattle.attributes.specs.Fault.{unless_of}
use Rattle.attributes.specs.ImageAttributes.{image_of, image_fault}
use Rattle.attributes.specs.Resolution.{resolution_at}

abbrev pub good : List ℕ
good = 1 ∷ 0 ∷ 0 ∷ 0 ∷ 1 ∷ 0 ∷ 0 ∷ 0 ∷ 0 ∷ 0 ∷ 0 ∷ 0 ∷ 0 ∷ 0 ∷ 0 ∷ 0 ∷ 0 ∷ 0 ∷ 0 ∷ 8 ∷ 0 ∷ 1 ∷ 0 ∷ 0 ∷ 1 ∷ 0 ∷ 0 ∷ 1 ∷ 0 ∷ 0 ∷ 0 ∷ 0 ∷ 0 ∷ 0 ∷ 0 ∷ 0 ∷ 1 ∷ 0 ∷ []

abbrev pub bad : List ℕ
bad = 1 ∷ 0 ∷ 0 ∷ 0 ∷ 1 ∷ 0 ∷ 0 ∷ 0 ∷ 0 ∷ 0 ∷ 0 ∷ 0 ∷ 0 ∷ 0 ∷ 0 ∷ 0 ∷ 0 ∷ 3 ∷ 0 ∷ 8 ∷ 0 ∷ 1 ∷ 0 ∷ 0 ∷ 1 ∷ 0 ∷ 0 ∷ 1 ∷ 0 ∷ 0 ∷ 0 ∷ 0 ∷ 0 ∷ 0 ∷ 0 ∷ 0 ∷ 0 ∷ 0 ∷ []

pub no_fault : image_fault (image_of good) ≡ None
unfolding image_fault image_of number_at le signed resolution_at unless_of
no_fault = refl

pub earlier_fault : image_fault (image_of bad) ≡ Some 17
unfolding image_fault image_of number_at le signed resolution_at unless_of
earlier_fault = refl
