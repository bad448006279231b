-- Facts come from chunks that the listing accepted, so a caller need not judge them again: they satisfy document 01's rules.
use mathlib.Core.Path.{◌≡◌, ap, subst⁻¹}
use mathlib.Core.List.{List}
use Prim.Native.Nat.{ℕ}
use native.Mathlib.Omega.{arith}
use borrow.Author.Tests.{eqb-false}
use lib.Dec.{eqb}
use Rattle.std.specs.Prelude.{Result, Ok}
use Rattle.laws.proofs.Choice.{pick_ind}
use Rattle.headers.specs.Places.{image_chunk_place}
use Rattle.attributes.specs.declared.image_attributes.ImageChunk.{ImageChunk}
use Rattle.attributes.specs.ImageAttributes.{image_at}
use Rattle.attributes.specs.Rules.{ImageRules}
use Rattle.attributes.proofs.Rules.{image_rules}
use Rattle.chunk.specs.LayerInformation.{layer_at}
use Rattle.chunk.specs.Rules.{LayerRules}
use Rattle.chunk.proofs.Rules.{layer_rules}
use Rattle.view.specs.declared.not_shown.Lacking.TheVariants.{Layer}
use Rattle.view.specs.declared.not_shown.NotShown.{NotShown}
use Rattle.view.specs.declared.shown.Shown.{Shown}
use Rattle.view.specs.Asked.{layer_asked, palette_asked, is_there, chunk_place, Sought}
use Rattle.view.specs.Facts.{image_told, layer_facts_of, image_facts, layer_facts}
use Rattle.view.specs.Palette.{palette_seen, palette_view}
use Rattle.view.specs.Shown.{part_told}
use Rattle.view.proofs.Accepted.{layer_has, accepted_has, accepted_grey}
use Rattle.view.proofs.Asked.{refused_not_zero, accepted_shown, accepted_ind, sought_ind}

pub image_facts_rules : (s : List ℕ) (room : ℕ) → (image_facts s room).number ≡ 0 → ImageRules (image_facts s room).image
unfolding image_facts
image_facts_rules s room =
    accepted_ind s room (λ (x : Result ImageChunk NotShown). (image_told x).number ≡ 0 → ImageRules (image_told x).image) _
    (λ good _. image_rules _ (accepted_has s room good).permitted)
    (λ e _ z. absurd (refused_not_zero e z))

-- in an image of the depth that the image facts give
pub layer_facts_rules :
    (s : List ℕ) (room k : ℕ) → (layer_facts s room k).number ≡ 0 → LayerRules (image_facts s room).image.depth (layer_facts s room k).layer
unfolding image_facts layer_facts
layer_facts_rules s room k =
    sought_ind s room 4 Layer k
    (λ (x : Sought). (layer_facts_of s x).number ≡ 0 → LayerRules (image_facts s room).image.depth (layer_facts_of s x).layer)
    (λ good there _.
    let depth = ap (λ (x : Result ImageChunk NotShown). (image_told x).image.depth) (accepted_shown s room (Ok (image_at s image_chunk_place)) good) in
    subst⁻¹ (λ (d : ℕ). LayerRules d (layer_at s (chunk_place (layer_asked k) s room))) depth (layer_rules _ _ (layer_has s room k there).permitted))
    (λ _ z. absurd (omega arith))
    (λ e _ z. absurd (refused_not_zero e z))

-- the ramp is shown for a grey image only
pub ramp_grey : (s : List ℕ) (room ramp : ℕ) → (palette_view s room ramp).which ≡ 1 → (image_at s image_chunk_place).grey ≡ 1
unfolding palette_view palette_seen
ramp_grey s room ramp =
    let P : Result Shown NotShown → Type 0 = λ x. (part_told x).which ≡ 1 → (image_at s image_chunk_place).grey ≡ 1 in
    accepted_ind s room P _
    (λ good. pick_ind P (eqb (image_at s image_chunk_place).depth 24) _ _ (λ _ z. absurd (omega arith))
    (λ other. pick_ind P (is_there palette_asked s room) _ _ (λ _ z. absurd (omega arith))
    (λ none. pick_ind P (eqb ramp 1024) _ _ (λ _ _. accepted_grey s room good (eqb-false _ _ other) none) (λ _ z. absurd (omega arith)))))
    (λ _ _ z. absurd (omega arith))
