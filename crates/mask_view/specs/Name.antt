-- The bytes of an alpha channel's name, which are shown in their place, as a layer's are.
use Rattle.std.specs.Prelude.{List, Result, ℕ}
use Rattle.view.specs.declared.not_shown.NotShown.{NotShown}
use Rattle.view.specs.declared.part.Part.{Part}
use Rattle.view.specs.Name.{name_seen, name_of}
use Rattle.view.specs.Shown.{Slice, ShownAs}
use Rattle.mask_view.specs.Sought.{alpha_sought}

unfoldable pub alpha_name_view : List ℕ → ℕ → ℕ → Part
alpha_name_view s room k = name_of s (alpha_sought s room k)

abbrev pub AlphaNameShown : Slice → ℕ → ℕ → Result Slice NotShown → Type 0
AlphaNameShown input room k = ShownAs input (name_seen input.now (alpha_sought input.now room k))
