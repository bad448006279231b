-- A resolution (document 01, "Resolution"; document 000, section 5.3).
use Rattle.std.specs.Prelude.{ℕ, ◌+◌, Bool, false, ◌&&◌, ◌||◌, List, eqb, leb, Float, pos, Option, None, Some}
use Rattle.std.specs.Float.{inf, fin, binary64}
use Rattle.std.specs.Float.Ieee.{lt, div, round}
use Rattle.laws.specs.Choice.{pick}
use Rattle.endian.specs.Number.{number_at, double_at}
use Rattle.attributes.specs.declared.resolution.Resolution.{Resolution}
use Rattle.attributes.specs.declared.resolution.Dots.{Dots}

unfoldable pub resolution_at : List ℕ → ℕ → Resolution
resolution_at s at = record { value = double_at s at; metric = number_at 1 s (at + 8) }

-- finite and above 0
unfoldable pub is_usable : Float → Bool
is_usable x = lt (fin false 0 (pos 0)) x && lt x (inf false)

-- with metric 0 any bits; with 1 or 2 finite and above 0
abbrev pub is_resolution : Resolution → Bool
is_resolution r = eqb r.metric 0 || (leb r.metric 2 && is_usable r.value)

-- the double nearest 2.54
abbrev pub centimetres_per_inch : Float
centimetres_per_inch = round binary64 false 254 100

-- dots a centimetre of a value that can be used: as it is, or one division; none for any other metric
unfoldable pub density_of : Resolution → Option Float
density_of r =
    pick (is_usable r.value)
    (pick (eqb r.metric 2) (Some r.value)
    (pick (eqb r.metric 1) (Some (div binary64 r.value centimetres_per_inch)) None))
    None

-- in numbers: 0 where there are none
abbrev pub dots_of : Option Float → Dots
dots_of None = record { known = 0; value = fin false 0 (pos 0) }
dots_of (Some x) = record { known = 1; value = x }
