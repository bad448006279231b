-- Dots per centimetre compute.
use mathlib.Core.Path.{◌≡◌, refl}
use mathlib.Core.Bool.{false}
use lib.IntN.{pos}
use lib.Ieee.{fin, binary64, of_bits, round, div, lt}
use Rattle.std.specs.Prelude.{Some}
use Rattle.laws.specs.Choice.{pick}
use Rattle.attributes.specs.Resolution.{is_usable, density_of}

-- the least subnormal with metric 1: present, and 0
pub least_subnormal : density_of (record { value = of_bits binary64 1; metric = 1 }) ≡ Some (fin false 0 (pos 0))
unfolding density_of is_usable pick of_bits round div lt
least_subnormal = refl

-- 300 to the inch
pub three_hundred : density_of (record { value = of_bits binary64 0x4072c00000000000; metric = 1 }) ≡ Some (of_bits binary64 0x405d870e1c3870e2)
unfolding density_of is_usable pick of_bits round div lt
three_hundred = refl
