-- A layer of the bank, with its channels.
use Rattle.std.specs.Prelude.{ℕ, ◌+◌, ◌-◌, ◌≤◌, ◌<◌, ◌≡◌, Bool, true, ◌&&◌, ◌||◌, List, [], ◌∷◌, eqb, length, Option, Some, None}
use Rattle.laws.specs.All.{All}
use Rattle.rect.specs.Rect.{is_proper, is_saved}
use Rattle.entry.specs.declared.Entry.{Entry}
use Rattle.entry.specs.Entry.{block, ranked}
use Rattle.walk.specs.Walk.{End}
use Rattle.walk.specs.Course.{stand, Course}
use Rattle.headers.specs.BlockHeader.{block_header_size, block_header_at, is_marked}
use Rattle.chunk.specs.declared.area.Area.{Area}
use Rattle.chunk.specs.declared.layer_information.LayerChunk.{LayerChunk}
use Rattle.chunk.specs.Heads.{layer_head}
use Rattle.chunk.specs.LayerInformation.{layer_size, layer_at, layer_fault}
use Rattle.memory.specs.declared.parent.Open.TheVariants.{Layers}
use Rattle.memory.specs.declared.parent.Parent.TheVariants.{Layer}
use Rattle.memory.specs.declared.state.State.{State}
use Rattle.memory.specs.State.{is_full}
use Rattle.block.specs.Step.{step_at}
use Rattle.plain.specs.declared.layer.Layered.{Layered}
use Rattle.plain.specs.Standing.{Stores}

-- in the bank of layers, behind the image
pub record Banked (st : State) (levels : ℕ) : Type 0 where
  pub begun : st.image.depth ≡ 0 → ⊥
  pub opened : st.opened ≡ Layers
  pub level : levels ≡ 1

-- what the rule of a layer asks of the border and the saved rectangle of its image, or of its mask
pub record GoodArea (area : Area) : Type 0 where
  pub border : is_proper area.border ≡ true
  pub saved : is_saved area.saved area.border ≡ true

-- where the layer ends whose header stands at a place, and its chunk
abbrev pub layer_from : List ℕ → ℕ → ℕ × LayerChunk
layer_from s at = (at + block_header_size + (block_header_at s at).total, layer_at s (at + block_header_size))

-- a layer that is announced, whole and good
pub record PlainLayer (s : List ℕ) (st : State) (at stop : ℕ) : Type 0 where
  pub marked : is_marked (block_header_at s at) ≡ true
  pub id : (block_header_at s at).id ≡ 4
  pub more : st.members.found < st.members.announced
  pub initial : (eqb (block_header_at s at).initial layer_size || eqb (block_header_at s at).initial 0) ≡ true
  pub total : layer_size ≤ (block_header_at s at).total
  pub whole : at + block_header_size + (block_header_at s at).total ≤ stop
  pub good : layer_fault st.image.depth (layer_at s (at + block_header_size)) ≡ None

abbrev pub layer_entry : ℕ → ℕ → Entry
layer_entry at number = ranked (block 4 0 1 at layer_head) number

-- nothing is left of the layer, and nothing is missing
abbrev pub is_complete : Layered → Bool
is_complete r = eqb r.passed.at r.after && is_full r.state Layer

-- a layer was entered and channels of it were passed: the walk stands inside it, and at its end where it is complete
pub record HoldsPlain (s : List ℕ) (st : State) (at end levels room from : ℕ) (t : List ℕ) (r : Layered) (t' : List ℕ) : Type 0 where
  pub entries : List Entry
  pub goes :
      Course (step_at s) levels (stand at end [] st) (layer_entry at st.members.found ∷ entries) (stand r.passed.at r.after (end ∷ []) r.state)
  pub channels : All (λ (e : Entry). e.block.id ≡ 5) entries
  pub stores : Stores at r.after room from t (layer_entry at st.members.found ∷ entries) r.passed.at r.passed.count t'
  pub onward : at < r.passed.at
  pub within : r.after ≤ end
  pub present : r.after ≤ length s
  pub ends : is_complete r ≡ true → step_at s r.state r.passed.at r.after (levels - 1) ≡ End

-- or nothing was done
pub record Holds (s : List ℕ) (st : State) (at end room from : ℕ) (t : List ℕ) (r : Option Layered) (t' : List ℕ) : Type 0 where
  pub plain : (p : Layered) → r ≡ Some p → (levels : ℕ) → Banked st levels → HoldsPlain s st at end levels room from t p t'
  pub other : r ≡ None → t' ≡ t
