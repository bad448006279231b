-- What stands at a place of an input: the order of tests at every block (document 01, "Units, and when they are judged").
use Rattle.std.specs.Prelude.{ℕ, ◌+◌, ◌-◌, ◌<◌, ◌≡◌, Bool, ◌&&◌, ◌||◌, List, eqb, leb, ltb, length}
use Rattle.laws.specs.Choice.{pick}
use Rattle.answer.specs.declared.Refusal.TheVariants.{EndsTooSoon, WrongMark, WrongLength, OutOfPlace, NotExpected, Missing}
use Rattle.walk.specs.Walk.{End, Stop}
use Rattle.walk.specs.Unit.{unit}
use Rattle.headers.specs.declared.block_header.BlockHeader.{BlockHeader}
use Rattle.headers.specs.BlockHeader.{block_header_size, block_header_of, is_marked}
use Rattle.attributes.specs.ImageAttributes.{image_size}
use Rattle.chunk.specs.AlphaBankInformation.{alpha_bank_size}
use Rattle.chunk.specs.AlphaInformation.{alpha_size}
use Rattle.chunk.specs.ColorPalette.{palette_size}
use Rattle.chunk.specs.LayerInformation.{layer_size}
use Rattle.chunk.specs.ChannelInformation.{channel_size}
use Rattle.chunk.specs.SelectionInformation.{selection_size}
use Rattle.memory.specs.declared.parent.Parent.{Parent}
use Rattle.memory.specs.declared.places.Placing.{Placing}
use Rattle.memory.specs.declared.places.Placing.TheVariants.{Refuse, Enter, Skip}
use Rattle.memory.specs.declared.state.State.{State}
use Rattle.memory.specs.Parent.{main, level_of, parent_at}
use Rattle.memory.specs.State.{is_surplus, is_full}
use Rattle.memory.specs.Place.{place_of}
use Rattle.kinds.specs.Blocks.{Judged, unless, image_block, palette_block, bank_block, skip_block}
use Rattle.layers.specs.Layers.{layer_block, channel_block}
use Rattle.masks.specs.Masks.{selection_block, alpha_bank_block, alpha_block}

-- the lengths of a block that is entered, by its id. A layer's initial length may be 0
unfoldable pub are_lengths : BlockHeader → Bool
are_lengths h =
    pick (eqb h.id 0) (eqb h.initial image_size && eqb h.total image_size)
    (pick (eqb h.id 2) (eqb h.initial palette_size && leb palette_size h.total)
    (pick (eqb h.id 3) (eqb h.initial 0)
    (pick (eqb h.id 4) ((eqb h.initial layer_size || eqb h.initial 0) && leb layer_size h.total)
    (pick (eqb h.id 6) (eqb h.initial selection_size && leb selection_size h.total)
    (pick (eqb h.id 7) (eqb h.initial alpha_bank_size && leb alpha_bank_size h.total)
    (pick (eqb h.id 8) (eqb h.initial alpha_size && leb alpha_size h.total)
    (eqb h.initial channel_size && leb channel_size h.total)))))))

-- its total stays inside its parent
abbrev pub is_inside : BlockHeader → ℕ → ℕ → Bool
is_inside h at end = leb (at + block_header_size + h.total) end

-- then the chunk, by kind; a channel also by what holds it
unfoldable pub kind_of : List ℕ → State → Parent → BlockHeader → ℕ → ℕ → Judged
kind_of s st parent h at level =
    pick (eqb h.id 0) (image_block s st at level)
    (pick (eqb h.id 2) (palette_block s st h.total at level)
    (pick (eqb h.id 3) (bank_block st h.total at level)
    (pick (eqb h.id 4) (layer_block s st h.total at level)
    (pick (eqb h.id 6) (selection_block s st h.total at level)
    (pick (eqb h.id 7) (alpha_bank_block s st h.total at level)
    (pick (eqb h.id 8) (alpha_block s st h.total at level)
    (channel_block s st parent h.total at level)))))))

-- refused (7); entered: one more than announced (9), its lengths (6); skipped: only its total is judged (6)
unfoldable pub placed_of : List ℕ → State → Parent → BlockHeader → Placing → ℕ → ℕ → ℕ → Judged
placed_of s st parent h Refuse at end level = Stop OutOfPlace at
placed_of s st parent h Enter at end level =
    pick (is_surplus st h.id) (Stop NotExpected at)
    (unless (are_lengths h && is_inside h at end) (Stop WrongLength at)
    (kind_of s st parent h at level))
placed_of s st parent h Skip at end level = unless (is_inside h at end) (Stop WrongLength at) (skip_block s st h.id h.total at level)

-- presence (2), the mark (5), then the place, by what holds the block
unfoldable pub block_at : List ℕ → State → ℕ → ℕ → ℕ → Judged
block_at s st at end levels =
    unit s at block_header_size (λ header.
    unless (is_marked (block_header_of header)) (Stop WrongMark at)
    (let parent = parent_at st.opened levels in
    placed_of s st parent (block_header_of header) (place_of st (block_header_of header).id parent) at end (level_of levels)))

-- at the main level the input may stop, once all is there (otherwise 2). Inside a parent none left is its end, where something may be
-- missing (10), and a rest too short for a header is 6
unfoldable pub step_at : List ℕ → State → ℕ → ℕ → ℕ → Judged
step_at s st at end levels =
    pick (eqb levels main)
    (pick (eqb at (length s)) (unless (is_full st (parent_at st.opened levels)) (Stop EndsTooSoon at) End) (block_at s st at end levels))
    (pick (eqb at end) (unless (is_full st (parent_at st.opened levels)) (Stop Missing at) End)
    (pick (ltb (end - at) block_header_size) (Stop WrongLength at)
    (block_at s st at end levels)))

-- ### What the code knows of a block that is entered: there is room for it, whatever its kind

pub record Roomy (st : State) (id : ℕ) : Type 0 where
  pub layer : id ≡ 4 → st.members.found < st.members.announced
  pub alpha : id ≡ 8 → st.members.found < st.members.announced
  pub channel :
      (id ≡ 0 → ⊥) → (id ≡ 2 → ⊥) → (id ≡ 3 → ⊥) → (id ≡ 4 → ⊥) → (id ≡ 6 → ⊥) → (id ≡ 7 → ⊥) → (id ≡ 8 → ⊥) → 0 < st.current.left
