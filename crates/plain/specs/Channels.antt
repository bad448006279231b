-- The channels of a layer.
use Rattle.std.specs.Prelude.{ℕ, ◌+◌, ◌≤◌, ◌≡◌, true, false, List}
use Rattle.laws.specs.All.{All}
use Rattle.entry.specs.declared.Entry.{Entry}
use Rattle.headers.specs.BlockHeader.{block_header_size, block_header_at, is_marked}
use Rattle.chunk.specs.declared.channel_information.ChannelChunk.{ChannelChunk}
use Rattle.chunk.specs.Heads.{channel_head}
use Rattle.chunk.specs.ChannelInformation.{channel_size, channel_at}
use Rattle.memory.specs.declared.codes.Codes.{Codes}
use Rattle.memory.specs.declared.parent.Open.TheVariants.{Layers}
use Rattle.memory.specs.declared.parent.Parent.TheVariants.{Layer}
use Rattle.memory.specs.declared.state.State.{State}
use Rattle.memory.specs.Codes.{is_expected, has_codes}
use Rattle.plain.specs.declared.channels.Laid.{Laid}
use Rattle.plain.specs.Standing.{Goes, Stores}

-- the chunk of the channel whose header stands at a place
abbrev pub channel_from : List ℕ → ℕ → ChannelChunk
channel_from s at = channel_at s (at + block_header_size)

-- a state, with so many channels still to come and the codes of those that have
abbrev pub with_left : State → ℕ → Codes → State
with_left st left codes = record {
  image = st.image;
  met = st.met;
  opened = st.opened;
  members = st.members;
  current = record { number = st.current.number; left = left; codes = codes; image = st.current.image; mask = st.current.mask };
}

-- a channel that is whole, expected, and has not come; its plane length is not judged here
pub record PlainChannel (s : List ℕ) (at stop depth left : ℕ) (codes : Codes) : Type 0 where
  pub marked : is_marked (block_header_at s at) ≡ true
  pub id : (block_header_at s at).id ≡ 5
  pub initial : (block_header_at s at).initial ≡ channel_size
  pub total : (block_header_at s at).total ≡ channel_size + (channel_from s at).stored
  pub whole : at + channel_head + (channel_from s at).stored ≤ stop
  pub more : left ≡ 0 → ⊥
  pub expected : is_expected Layer depth (channel_from s at).bitmap (channel_from s at).channel ≡ true
  pub fresh : has_codes codes (channel_from s at).bitmap (channel_from s at).channel ≡ false

-- channels were passed, where a layer is open behind the image
pub record Channels (s : List ℕ) (st : State) (first end room from : ℕ) (t : List ℕ) (r : Laid) (t' : List ℕ) : Type 0 where
  pub entries : List Entry
  pub goes : (st.image.depth ≡ 0 → ⊥) → st.opened ≡ Layers → Goes s end 0 st first entries (with_left st r.left r.codes) r.passed.at
  pub channels : All (λ (e : Entry). e.block.id ≡ 5) entries
  pub stores : Stores first end room from t entries r.passed.at r.passed.count t'
