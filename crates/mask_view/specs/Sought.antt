-- Which chunks are sought: the selection's, and alpha channel k's, counted from 0 (document 02, request vii).
use Rattle.std.specs.Prelude.{ℕ, List}
use Rattle.view.specs.declared.not_shown.Lacking.TheVariants.{Selection, Alpha}
use Rattle.view.specs.Asked.{Sought, chunk_sought}

-- there may be no selection
abbrev pub selection_sought : List ℕ → ℕ → Sought
selection_sought s room = chunk_sought s room 6 Selection 0

-- there may be no alpha channel k
abbrev pub alpha_sought : List ℕ → ℕ → ℕ → Sought
alpha_sought s room k = chunk_sought s room 8 Alpha k
