-- The grid agrees with the place rules: each of its rows, at each parent.
use mathlib.Core.Path.{◌≡◌, refl, ap, ap₂, ◌∙◌}
use mathlib.Core.List.{List, [], ◌∷◌}
use Prim.Native.Nat.{ℕ}
use lib.ListN.{get_or}
use Rattle.laws.specs.Choice.{pick}
use Rattle.headers.specs.declared.kind.Kind.{Kind}
use Rattle.headers.specs.declared.kind.Kind.TheVariants as kinds
use Rattle.headers.specs.Kind.{id_of}
use Rattle.memory.specs.declared.parent.Parent.{Parent}
use Rattle.memory.specs.declared.parent.Parent.TheVariants.{Main, Bank, Layer, Selection, AlphaBank, Alpha}
use Rattle.memory.specs.declared.places.Placing.{Placing}
use Rattle.memory.specs.declared.places.Placing.TheVariants.{Refuse}
use Rattle.memory.specs.declared.places.TheConstants.{GRID}
use Rattle.memory.specs.Parent.{column_of}
use Rattle.memory.specs.Place.{grid_of}
use Rattle.memory.proofs.places.grid.Goals as goal

-- what the rules say of an id, in the order of the columns
ruled : ℕ → List Placing
ruled id = grid_of id Main ∷ grid_of id Bank ∷ grid_of id Layer ∷ grid_of id Selection ∷ grid_of id AlphaBank ∷ grid_of id Alpha ∷ []

row : (k : Kind) → get_or GRID (id_of k) [] ≡ ruled (id_of k)
unfolding ruled grid_of pick
row kinds.Image = refl
row kinds.Creator = refl
row kinds.Palette = refl
row kinds.Bank = refl
row kinds.Layer = refl
row kinds.Channel = refl
row kinds.Selection = refl
row kinds.AlphaBank = refl
row kinds.Alpha = refl
row kinds.Thumbnail = refl
row kinds.Extended = refl
row kinds.Tube = refl

at_column : (id : ℕ) (p : Parent) → get_or (ruled id) (column_of p) Refuse ≡ grid_of id p
unfolding ruled
at_column id Main = refl
at_column id Bank = refl
at_column id Layer = refl
at_column id Selection = refl
at_column id AlphaBank = refl
at_column id Alpha = refl

pub returns : goal.returns
returns c =
    ap₂ (λ (id column : ℕ). get_or (get_or GRID id []) column Refuse) c.from.ensures c.column.ensures.0
    ∙ ap (λ (cells : List Placing). get_or cells (column_of c.args.parent) Refuse) (row c.args.kind)
    ∙ at_column (id_of c.args.kind) c.args.parent
