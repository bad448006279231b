-- The codes of channels (document 01, "Channel, id 5": expected; "Ends"; document 02, request vii).
use Rattle.std.specs.Prelude.{ℕ, ◌≡◌, ◌<◌, Option, MatchOption, Bool, false, ◌&&◌, ◌||◌, not, eqb, leb}
use Rattle.memory.specs.declared.codes.Code.{Code}
use Rattle.memory.specs.declared.codes.Code.TheVariants.{Composite, Red, Green, Blue, Transparency, User}
use Rattle.memory.specs.declared.codes.Codes.{Codes}
use Rattle.memory.specs.declared.parent.Parent.{Parent}
use Rattle.memory.specs.declared.parent.Parent.TheVariants.{Main, Bank, Layer, Selection, AlphaBank, Alpha}

-- a bitmap and a channel name a channel of a layer; of a mask the bitmap alone does
abbrev pub HasPair : ℕ → ℕ → Code → Type 0
HasPair bitmap channel Composite = (bitmap ≡ 0) × (channel ≡ 0)
HasPair bitmap channel Red = (bitmap ≡ 0) × (channel ≡ 1)
HasPair bitmap channel Green = (bitmap ≡ 0) × (channel ≡ 2)
HasPair bitmap channel Blue = (bitmap ≡ 0) × (channel ≡ 3)
HasPair bitmap channel Transparency = bitmap ≡ 1
HasPair bitmap channel User = bitmap ≡ 2

-- the channel that they name, or none
abbrev pub IsCodeOf : ℕ → ℕ → Option Code → Type 0
IsCodeOf bitmap channel r = MatchOption r ((0 < bitmap → 2 < bitmap) × (bitmap ≡ 0 → 3 < channel)) (HasPair bitmap channel)

-- in a layer: colours are bitmap 0, channels 1 to 3 at depth 24, else 0; masks have channel 0
abbrev pub is_of_layer : ℕ → ℕ → ℕ → Bool
is_of_layer depth bitmap channel =
    (eqb bitmap 0 && ((eqb depth 24 && leb 1 channel && leb channel 3) || (not (eqb depth 24) && eqb channel 0)))
    || ((eqb bitmap 1 || eqb bitmap 2) && eqb channel 0)

-- by what holds the channel: a selection's is bitmap 3, an alpha channel's bitmap 4, both with channel 0; no other block holds channels
abbrev pub is_expected : Parent → ℕ → ℕ → ℕ → Bool
is_expected Layer depth bitmap channel = is_of_layer depth bitmap channel
is_expected Selection depth bitmap channel = eqb bitmap 3 && eqb channel 0
is_expected Alpha depth bitmap channel = eqb bitmap 4 && eqb channel 0
is_expected Main depth bitmap channel = false
is_expected Bank depth bitmap channel = false
is_expected AlphaBank depth bitmap channel = false

-- no channel has come
abbrev pub no_codes : Codes
no_codes = record { composite = false; red = false; green = false; blue = false; transparency = false; user = false }

-- a channel of these codes has come to a layer. A selection and an alpha channel have one channel each, which their count says
abbrev pub has_codes : Codes → ℕ → ℕ → Bool
has_codes k bitmap channel =
    (eqb bitmap 0 && eqb channel 0 && k.composite)
    || (eqb bitmap 0 && eqb channel 1 && k.red)
    || (eqb bitmap 0 && eqb channel 2 && k.green)
    || (eqb bitmap 0 && eqb channel 3 && k.blue)
    || (eqb bitmap 1 && k.transparency)
    || (eqb bitmap 2 && k.user)

abbrev pub with_codes : Codes → ℕ → ℕ → Codes
with_codes k bitmap channel = record {
  composite = k.composite || (eqb bitmap 0 && eqb channel 0);
  red = k.red || (eqb bitmap 0 && eqb channel 1);
  green = k.green || (eqb bitmap 0 && eqb channel 2);
  blue = k.blue || (eqb bitmap 0 && eqb channel 3);
  transparency = k.transparency || eqb bitmap 1;
  user = k.user || eqb bitmap 2;
}

-- all c colour channels have come
abbrev pub has_colours : Codes → ℕ → Bool
has_colours k depth = (eqb depth 24 && k.red && k.green && k.blue) || (not (eqb depth 24) && k.composite)
