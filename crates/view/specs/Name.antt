-- The bytes of a layer's name, which are shown in their place (document 01, "The table").
use Rattle.std.specs.Prelude.{List, [], ◌∷◌, ℕ, Result, suc, eqb}
use Rattle.laws.specs.Choice.{pick}
use Rattle.laws.specs.Lists.{part}
use Rattle.view.specs.declared.part.Part.{Part}
use Rattle.view.specs.declared.shown.Span.{Span}
use Rattle.view.specs.declared.not_shown.NotShown.{NotShown}
use Rattle.view.specs.Asked.{Sought, read_of, layer_sought}
use Rattle.view.specs.Shown.{of_span, name_told, Slice, ShownAs}

-- how many bytes stand before the first zero, or how many there are
unfoldable pub before_zero : List ℕ → ℕ
before_zero [] = 0
before_zero (b ∷ bs) = pick (eqb b 0) 0 (suc (before_zero bs))

-- a layer's chunk begins with its 256 name bytes, and so does an alpha channel's
unfoldable pub name_in : List ℕ → ℕ → Span
name_in s at = record { start = at; length = before_zero (part s at 256) }

-- the same in numbers
abbrev pub name_at : List ℕ → ℕ → Part
name_at s at = of_span (name_in s at)

-- of a chunk that begins so, however it was sought
abbrev pub name_seen : List ℕ → Sought → Result Span NotShown
name_seen s = read_of (name_in s)

abbrev pub name_of : List ℕ → Sought → Part
name_of s sought = name_told (name_seen s sought)

unfoldable pub name_view : List ℕ → ℕ → ℕ → Part
name_view s room k = name_of s (layer_sought s room k)

abbrev pub NameShown : Slice → ℕ → ℕ → Result Slice NotShown → Type 0
NameShown input room k = ShownAs input (name_seen input.now (layer_sought input.now room k))
