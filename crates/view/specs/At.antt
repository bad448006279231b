-- Facts and a name at the place of a header, which a listing gave: nothing is listed again (document 01, "The table").
use Rattle.std.specs.Prelude.{ℕ, ◌+◌, Bool, ◌&&◌, List, Ok, Err, eqb, leb, length}
use Rattle.laws.specs.Choice.{pick}
use Rattle.headers.specs.declared.block_header.BlockHeader.{BlockHeader}
use Rattle.headers.specs.BlockHeader.{block_header_size, block_header_at, is_marked}
use Rattle.chunk.specs.LayerInformation.{layer_size}
use Rattle.block.specs.Step.{are_lengths}
use Rattle.view.specs.declared.facts.LayerFacts.{LayerFacts}
use Rattle.view.specs.declared.part.Part.{Part}
use Rattle.view.specs.declared.not_shown.Lacking.{Lacking}
use Rattle.view.specs.declared.not_shown.Lacking.TheVariants.{Layer}
use Rattle.view.specs.declared.not_shown.NotShown.TheVariants.{Lacks}
use Rattle.view.specs.Asked.{Sought}
use Rattle.view.specs.Facts.{layer_facts_of}
use Rattle.view.specs.Name.{name_of}

-- ### A block of an id, with so many bytes of chunk

-- a header is judged as the walk judges it: its mark, its id, the lengths of its kind
abbrev pub is_header_of : ℕ → BlockHeader → Bool
is_header_of id h = (is_marked h && eqb h.id id) && are_lengths h

-- header and chunk lie inside the input
unfoldable pub is_block_at : ℕ → ℕ → List ℕ → ℕ → Bool
is_block_at id size s place = leb (place + (block_header_size + size)) (length s) && is_header_of id (block_header_at s place)

-- its chunk; what is lacking where no such block stands
unfoldable pub chunk_at : List ℕ → ℕ → ℕ → ℕ → Lacking → Sought
chunk_at s place id size lacking = pick (is_block_at id size s place) (Ok (place + block_header_size)) (Err (Lacks lacking))

-- ### Of a layer

-- of a layer's header with a whole chunk
abbrev pub layer_here : List ℕ → ℕ → Sought
layer_here s place = chunk_at s place 4 layer_size Layer

unfoldable pub layer_facts_at : List ℕ → ℕ → LayerFacts
layer_facts_at s place = layer_facts_of s (layer_here s place)

unfoldable pub name_view_at : List ℕ → ℕ → Part
name_view_at s place = name_of s (layer_here s place)
