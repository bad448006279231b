-- What holds a block (document 01, "A block holds blocks", "Place rules"; document 02, request vii).
use Rattle.std.specs.Prelude.{ℕ, ◌-◌, Bool, true, false, eqb}
use Rattle.laws.specs.Choice.{pick}
use Rattle.memory.specs.declared.parent.Open.{Open}
use Rattle.memory.specs.declared.parent.Open.TheVariants.{Layers, Mask, Alphas}
use Rattle.memory.specs.declared.parent.Parent.{Parent}
use Rattle.memory.specs.declared.parent.Parent.TheVariants.{Main, Bank, Layer, Selection, AlphaBank, Alpha}

-- the levels left at the main level: a main block, what it holds, what that holds
abbrev pub main : ℕ
main = 2

abbrev pub level_of : ℕ → ℕ
level_of levels = main - levels

-- the main block that is open
abbrev pub outer : Open → Parent
outer Layers = Bank
outer Mask = Selection
outer Alphas = AlphaBank

-- what is entered inside it; of a selection nothing is
abbrev pub inner : Open → Parent
inner Layers = Layer
inner Mask = Selection
inner Alphas = Alpha

unfoldable pub parent_at : Open → ℕ → Parent
parent_at opened levels = pick (eqb levels main) Main (pick (eqb levels 1) (outer opened) (inner opened))

-- the columns of the place grid
abbrev pub column_of : Parent → ℕ
column_of Main = 0
column_of Bank = 1
column_of Layer = 2
column_of Selection = 3
column_of AlphaBank = 4
column_of Alpha = 5

abbrev pub is_main : Parent → Bool
is_main Main = true
is_main Bank = false
is_main Layer = false
is_main Selection = false
is_main AlphaBank = false
is_main Alpha = false

-- what holds channels
abbrev pub is_host : Parent → Bool
is_host Main = false
is_host Bank = false
is_host Layer = true
is_host Selection = true
is_host AlphaBank = false
is_host Alpha = true
