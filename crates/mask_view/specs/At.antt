-- Facts and a name at the place of a header, which a listing gave: those of the selection and of an alpha channel, as a layer's are.
use Rattle.std.specs.Prelude.{List, ℕ}
use Rattle.chunk.specs.AlphaInformation.{alpha_size}
use Rattle.chunk.specs.SelectionInformation.{selection_size}
use Rattle.view.specs.declared.part.Part.{Part}
use Rattle.view.specs.declared.not_shown.Lacking.TheVariants.{Selection, Alpha}
use Rattle.view.specs.Asked.{Sought}
use Rattle.view.specs.At.{chunk_at}
use Rattle.view.specs.Name.{name_of}
use Rattle.mask_view.specs.declared.facts.AlphaFacts.{AlphaFacts}
use Rattle.mask_view.specs.declared.facts.SelectionFacts.{SelectionFacts}
use Rattle.mask_view.specs.Facts.{selection_facts_of, alpha_facts_of}

-- of a selection's header with a whole chunk
abbrev pub selection_here : List ℕ → ℕ → Sought
selection_here s place = chunk_at s place 6 selection_size Selection

-- of an alpha channel's
abbrev pub alpha_here : List ℕ → ℕ → Sought
alpha_here s place = chunk_at s place 8 alpha_size Alpha

unfoldable pub selection_facts_at : List ℕ → ℕ → SelectionFacts
selection_facts_at s place = selection_facts_of s (selection_here s place)

unfoldable pub alpha_facts_at : List ℕ → ℕ → AlphaFacts
alpha_facts_at s place = alpha_facts_of s (alpha_here s place)

unfoldable pub alpha_name_view_at : List ℕ → ℕ → Part
alpha_name_view_at s place = name_of s (alpha_here s place)
