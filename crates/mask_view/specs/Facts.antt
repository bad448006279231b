-- Facts, as C gets them: the selection's and an alpha channel's own chunk beside a number, and zeros beside a refusal's.
use Rattle.std.specs.Prelude.{ℕ, List, Result, replicate}
use Rattle.chunk.specs.declared.alpha_information.AlphaChunk.{AlphaChunk}
use Rattle.chunk.specs.declared.mask.Mask.{Mask}
use Rattle.chunk.specs.declared.selection_information.SelectionChunk.{SelectionChunk}
use Rattle.chunk.specs.AlphaInformation.{alpha_at}
use Rattle.chunk.specs.SelectionInformation.{selection_at}
use Rattle.view.specs.declared.not_shown.NotShown.{NotShown}
use Rattle.view.specs.Asked.{Sought, read_of, shown_of}
use Rattle.view.specs.Zeros.{no_area}
use Rattle.mask_view.specs.declared.facts.AlphaFacts.{AlphaFacts}
use Rattle.mask_view.specs.declared.facts.SelectionFacts.{SelectionFacts}
use Rattle.mask_view.specs.Sought.{selection_sought, alpha_sought}

abbrev pub no_mask : Mask
no_mask = record { area = no_area; bitmaps = 0; channels = 0 }

abbrev pub no_selection : SelectionChunk
no_selection = record { mask = no_mask }

unfoldable pub no_alpha : AlphaChunk
no_alpha = record { name = replicate 256 0; mask = no_mask }

-- zeros beside a refusal's number
abbrev pub no_selection_facts : ℕ → SelectionFacts
no_selection_facts number = record { number = number; selection = no_selection }

abbrev pub no_alpha_facts : ℕ → AlphaFacts
no_alpha_facts number = record { number = number; alpha = no_alpha }

abbrev pub selection_told : Result SelectionChunk NotShown → SelectionFacts
selection_told = shown_of no_selection_facts (λ selection. record { number = 0; selection = selection })

abbrev pub alpha_told : Result AlphaChunk NotShown → AlphaFacts
alpha_told = shown_of no_alpha_facts (λ alpha. record { number = 0; alpha = alpha })

-- of such a chunk, however it was sought
abbrev pub selection_facts_of : List ℕ → Sought → SelectionFacts
selection_facts_of s sought = selection_told (read_of (selection_at s) sought)

abbrev pub alpha_facts_of : List ℕ → Sought → AlphaFacts
alpha_facts_of s sought = alpha_told (read_of (alpha_at s) sought)

unfoldable pub selection_facts : List ℕ → ℕ → SelectionFacts
selection_facts s room = selection_facts_of s (selection_sought s room)

unfoldable pub alpha_facts : List ℕ → ℕ → ℕ → AlphaFacts
alpha_facts s room k = alpha_facts_of s (alpha_sought s room k)
