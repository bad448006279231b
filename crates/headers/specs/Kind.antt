-- The kinds of blocks and their ids (document 000, section 4.4; document 01, "Block header").
use Rattle.std.specs.Prelude.{ℕ, ◌≡◌, ◌≤◌, Result, MatchResult}
use Rattle.headers.specs.declared.kind.Kind.{Kind}
use Rattle.headers.specs.declared.kind.Kind.TheVariants.{Image, Creator, Palette, Bank, Layer, Channel, Selection, AlphaBank, Alpha, Thumbnail, Extended, Tube}
use Rattle.headers.specs.declared.kind.UnknownId.{UnknownId}

abbrev pub id_of : Kind → ℕ
id_of Image = 0
id_of Creator = 1
id_of Palette = 2
id_of Bank = 3
id_of Layer = 4
id_of Channel = 5
id_of Selection = 6
id_of AlphaBank = 7
id_of Alpha = 8
id_of Thumbnail = 9
id_of Extended = 10
id_of Tube = 11

-- the kind that has this id, or this id where no kind has it
abbrev pub IsKindOf : ℕ → Result Kind UnknownId → Type 0
IsKindOf id r = MatchResult r (λ kind. id_of kind ≡ id) (λ e. (e.0 ≡ id) × (12 ≤ id))
