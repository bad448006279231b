-- Facts, as C gets them (document 01, "Canvas and palette"): an image's and a layer's own chunk beside a number.
use Rattle.std.specs.Prelude.{ℕ, List, Result, Ok}
use Rattle.headers.specs.Places.{image_chunk_place}
use Rattle.attributes.specs.declared.image_attributes.ImageChunk.{ImageChunk}
use Rattle.attributes.specs.ImageAttributes.{image_at}
use Rattle.chunk.specs.declared.layer_information.LayerChunk.{LayerChunk}
use Rattle.chunk.specs.LayerInformation.{layer_at}
use Rattle.view.specs.declared.facts.ImageFacts.{ImageFacts}
use Rattle.view.specs.declared.facts.LayerFacts.{LayerFacts}
use Rattle.view.specs.declared.not_shown.NotShown.{NotShown}
use Rattle.view.specs.Asked.{Sought, of_accepted, read_of, shown_of, layer_sought}
use Rattle.view.specs.Zeros.{no_image, no_layer}

-- zeros beside a refusal's number
abbrev pub no_image_facts : ℕ → ImageFacts
no_image_facts number = record { number = number; image = no_image }

abbrev pub no_layer_facts : ℕ → LayerFacts
no_layer_facts number = record { number = number; layer = no_layer }

abbrev pub image_told : Result ImageChunk NotShown → ImageFacts
image_told = shown_of no_image_facts (λ image. record { number = 0; image = image })

abbrev pub layer_told : Result LayerChunk NotShown → LayerFacts
layer_told = shown_of no_layer_facts (λ layer. record { number = 0; layer = layer })

unfoldable pub image_facts : List ℕ → ℕ → ImageFacts
image_facts s room = image_told (of_accepted s room (Ok (image_at s image_chunk_place)))

-- of a layer's chunk, however it was sought
abbrev pub layer_facts_of : List ℕ → Sought → LayerFacts
layer_facts_of s sought = layer_told (read_of (layer_at s) sought)

unfoldable pub layer_facts : List ℕ → ℕ → ℕ → LayerFacts
layer_facts s room k = layer_facts_of s (layer_sought s room k)
