-- What the entries that are listed say: each by the entries before it, and all of an accepted file (document 01, "Units", "The table";
-- document 02, requests i and vii).
use Rattle.std.specs.Prelude.{ℕ, suc, ◌+◌, ◌*◌, ◌≤◌, ◌<◌, ◌^◌, ◌≡◌, Bool, true, false, cond, eqb, ltb, length, drop, get_or, Option, None}
use mathlib.Core.List.{List, [], ◌∷◌, map, Memᴰ}
use Rattle.laws.specs.Choice.{pick}
use Rattle.laws.specs.Lists.{filter}
use Rattle.laws.specs.All.{All}
use Rattle.laws.specs.Along.{Along}
use Rattle.rect.specs.declared.Rect.{Rect}
use Rattle.rect.specs.Rect.{width_of, height_of}
use Rattle.rect.specs.Shared.{no_pixels}
use Rattle.rect.specs.declared.planes.Shape.{Shape}
use Rattle.rect.specs.Rows.{sides_of, shape_of, Taken}
use Rattle.entry.specs.declared.Code.{Code}
use Rattle.entry.specs.declared.Entry.{Entry}
use Rattle.entry.specs.Entry.{block, code, content, plain, ranked, filled, is_kind}
use Rattle.walk.specs.Parents.{holds, holder, rank, held, Of}
use Rattle.headers.specs.BlockHeader.{block_header_size, block_header_at, is_marked}
use Rattle.headers.specs.Places.{image_place, image_chunk_place}
use Rattle.attributes.specs.declared.image_attributes.ImageChunk.{ImageChunk}
use Rattle.attributes.specs.Depth.{colour_short}
use Rattle.attributes.specs.ImageAttributes.{image_at, image_fault, is_paletted}
use Rattle.chunk.specs.declared.alpha_bank_information.AlphaBankChunk.{AlphaBankChunk}
use Rattle.chunk.specs.declared.alpha_information.AlphaChunk.{AlphaChunk}
use Rattle.chunk.specs.declared.layer_information.LayerChunk.{LayerChunk}
use Rattle.chunk.specs.declared.selection_information.SelectionChunk.{SelectionChunk}
use Rattle.chunk.specs.AlphaBankInformation.{alpha_bank_at}
use Rattle.chunk.specs.AlphaInformation.{alpha_at, alpha_fault}
use Rattle.chunk.specs.Heads.{image_head, palette_head, layer_head, channel_head, selection_head, alpha_bank_head, alpha_head}
use Rattle.chunk.specs.ColorPalette.{palette_at}
use Rattle.chunk.specs.LayerInformation.{layer_at, layer_fault}
use Rattle.chunk.specs.ChannelInformation.{channel_at}
use Rattle.chunk.specs.SelectionInformation.{selection_at, selection_fault}
use Rattle.memory.specs.declared.parent.Parent.{Parent}
use Rattle.memory.specs.declared.parent.Parent.TheVariants.{Main, Bank, Layer, Selection, AlphaBank, Alpha}
use Rattle.memory.specs.Codes.{is_expected}
use Rattle.block.specs.Step.{are_lengths}

-- ### Of entries

abbrev pub is_palette : Entry → Bool
is_palette = is_kind 2

abbrev pub is_bank : Entry → Bool
is_bank = is_kind 3

abbrev pub is_layer : Entry → Bool
is_layer = is_kind 4

abbrev pub is_channel : Entry → Bool
is_channel = is_kind 5

abbrev pub is_selection : Entry → Bool
is_selection = is_kind 6

abbrev pub is_alpha_bank : Entry → Bool
is_alpha_bank = is_kind 7

abbrev pub is_alpha : Entry → Bool
is_alpha = is_kind 8

-- what an entry is to the blocks that it holds; whatever holds none is told as the file itself
unfoldable pub parent_of : Entry → Parent
parent_of e =
    pick (is_bank e) Bank (pick (is_layer e) Layer (pick (is_selection e) Selection (pick (is_alpha_bank e) AlphaBank (pick (is_alpha e) Alpha Main))))

-- the members of a bank: layers, or alpha channels
abbrev pub is_member : Parent → Entry → Bool
is_member Bank = is_layer
is_member AlphaBank = is_alpha
is_member Main = λ _. false
is_member Layer = λ _. false
is_member Selection = λ _. false
is_member Alpha = λ _. false

abbrev pub members_in : Parent → List Entry → ℕ
members_in bank es = length (filter (is_member bank) es)

-- how many are layers
abbrev pub layers_in : List Entry → ℕ
layers_in = members_in Bank

-- the codes of the channels, in file order
abbrev pub codes_in : List Entry → List Code
codes_in es = map (λ e. e.code) (filter is_channel es)

-- ### What the file says

abbrev pub image_in : List ℕ → ImageChunk
image_in s = image_at s image_chunk_place

abbrev pub depth_of : List ℕ → ℕ
depth_of s = (image_in s).depth

-- the chunk of the block whose header stands at a place, by what it is
abbrev pub layer_from : List ℕ → ℕ → LayerChunk
layer_from s place = layer_at s (place + block_header_size)

abbrev pub selection_from : List ℕ → ℕ → SelectionChunk
selection_from s place = selection_at s (place + block_header_size)

abbrev pub alpha_bank_from : List ℕ → ℕ → AlphaBankChunk
alpha_bank_from s place = alpha_bank_at s (place + block_header_size)

abbrev pub alpha_from : List ℕ → ℕ → AlphaChunk
alpha_from s place = alpha_at s (place + block_header_size)

-- what the chunk of a bank announces: the image tells how many layers, an alpha bank how many alpha channels
abbrev pub announced_in : List ℕ → Parent → ℕ → ℕ
announced_in s Bank place = (image_in s).layers
announced_in s AlphaBank place = (alpha_bank_from s place).count
announced_in s Main place = 0
announced_in s Layer place = 0
announced_in s Selection place = 0
announced_in s Alpha place = 0

-- of what holds channels: the fault of its chunk, how many channels it announces, and the rectangle of a bitmap's planes, which are the
-- saved ones; the user mask of a layer, bitmap 2, has the saved mask rectangle
abbrev pub fault_in : List ℕ → Parent → ℕ → Option ℕ
fault_in s Layer place = layer_fault (depth_of s) (layer_from s place)
fault_in s Selection place = selection_fault (selection_from s place)
fault_in s Alpha place = alpha_fault (alpha_from s place)
fault_in s Main place = None
fault_in s Bank place = None
fault_in s AlphaBank place = None

abbrev pub channels_in : List ℕ → Parent → ℕ → ℕ
channels_in s Layer place = (layer_from s place).channels
channels_in s Selection place = (selection_from s place).mask.channels
channels_in s Alpha place = (alpha_from s place).mask.channels
channels_in s Main place = 0
channels_in s Bank place = 0
channels_in s AlphaBank place = 0

abbrev pub saved_of : LayerChunk → ℕ → Rect
saved_of c bitmap = pick (eqb bitmap 2) c.mask.saved c.image.saved

abbrev pub saved_in : List ℕ → Parent → ℕ → ℕ → Rect
saved_in s Layer place bitmap = saved_of (layer_from s place) bitmap
saved_in s Selection place bitmap = (selection_from s place).mask.area.saved
saved_in s Alpha place bitmap = (alpha_from s place).mask.area.saved
saved_in s Main place bitmap = no_pixels
saved_in s Bank place bitmap = no_pixels
saved_in s AlphaBank place bitmap = no_pixels

-- ### What an entry holds, once it has come to its end

-- a code is expected by what holds the channel, and none comes twice there
pub record Awaited (parent : Parent) (depth : ℕ) (before : List Code) (x : Code) : Type 0 where
  pub expected : is_expected parent depth x.bitmap x.channel ≡ true
  pub once : All (λ (y : Code). y ≡ x → ⊥) before

-- the codes that must come: all colour channels of a layer; the channel of a selection, or of an alpha channel
abbrev pub needed : Parent → ℕ → List Code
needed Layer depth = pick (eqb depth 24) (code 0 1 ∷ code 0 2 ∷ code 0 3 ∷ []) (code 0 0 ∷ [])
needed Selection depth = code 3 0 ∷ []
needed Alpha depth = code 4 0 ∷ []
needed Main depth = []
needed Bank depth = []
needed AlphaBank depth = []

-- what holds channels has its channel count and all that it needs, each of them expected and none twice; its fields are permitted
pub record Completed (s : List ℕ) (parent : Parent) (place : ℕ) (codes : List Code) : Type 0 where
  pub permitted : fault_in s parent place ≡ None
  pub count : length codes ≡ channels_in s parent place
  pub each : Along (Awaited parent (depth_of s)) [] codes
  pub all : All (λ (x : Code). Memᴰ x codes) (needed parent (depth_of s))

-- a parent at a place with the entries that it holds: a bank has the members that are announced, and what holds channels is complete
abbrev pub FullAs : List ℕ → Parent → ℕ → List Entry → Type 0
FullAs s Main place es = Unit
FullAs s Bank place es = members_in Bank es ≡ announced_in s Bank place
FullAs s AlphaBank place es = members_in AlphaBank es ≡ announced_in s AlphaBank place
FullAs s Layer place es = Completed s Layer place (codes_in es)
FullAs s Selection place es = Completed s Selection place (codes_in es)
FullAs s Alpha place es = Completed s Alpha place (codes_in es)

abbrev pub Full : List ℕ → Entry → List Entry → Type 0
Full s e es = FullAs s (parent_of e) e.block.place es

-- ### An entry, by the entries before it

-- the image block's fields are permitted, its compression can be read, and it lies inside the input
pub record ImageRight (s : List ℕ) : Type 0 where
  pub permitted : image_fault (image_in s) ≡ None
  pub readable : (image_in s).compression ≡ 2 → ⊥
  pub inside : image_place + image_head ≤ length s

-- a palette: 4 bytes for each of its count, which is in its range; the only one, and not at depth 24
pub record PaletteRight (s : List ℕ) (before : List Entry) (e : Entry) : Type 0 where
  pub count : ℕ
  pub counted : count ≡ (palette_at s (e.block.place + block_header_size)).count
  pub low : 1 ≤ count
  pub high : count ≤ 2 ^ depth_of s
  pub is : e ≡ filled (block 2 0 0 e.block.place (palette_head + 4 * count)) (content (e.block.place + palette_head) (4 * count))
  pub inside : e.content.start + e.content.stored ≤ length s
  pub used : depth_of s ≡ 24 → ⊥
  pub once : filter is_palette before ≡ []

-- a block of the main level that is entered behind so many bytes: the only one of its kind
pub record OnlyRight (s : List ℕ) (id head : ℕ) (before : List Entry) (e : Entry) : Type 0 where
  pub is : e ≡ plain (block id 0 0 e.block.place head)
  pub once : filter (is_kind id) before ≡ []
  pub inside : e.block.place + head ≤ length s

abbrev pub BankRight : List ℕ → List Entry → Entry → Type 0
BankRight s = OnlyRight s 3 block_header_size

abbrev pub AlphaBankRight : List ℕ → List Entry → Entry → Type 0
AlphaBankRight s = OnlyRight s 7 alpha_bank_head

-- the selection's fields are permitted
pub record SelectionRight (s : List ℕ) (before : List Entry) (e : Entry) : Type 0 where
  pub only : OnlyRight s 6 selection_head before e
  pub permitted : fault_in s Selection e.block.place ≡ None

-- a member of a bank: the bank holds it, and its number is its rank there, which is the count of all such members before it
pub record MemberRight (s : List ℕ) (bank member : Parent) (id head : ℕ) (before : List Entry) (e : Entry) : Type 0 where
  pub parent : Entry
  pub others : List Entry
  pub held_by : holder 0 before ≡ holds parent others
  pub is_bank_lem : parent_of parent ≡ bank
  pub rank_is : e.layer ≡ rank (is_member bank) (holder 0 before)
  pub is : e ≡ ranked (block id 0 1 e.block.place head) (members_in bank before)
  pub permitted : fault_in s member e.block.place ≡ None
  pub inside : e.block.place + head ≤ length s

abbrev pub LayerRight : List ℕ → List Entry → Entry → Type 0
LayerRight s = MemberRight s Bank Layer 4 layer_head

abbrev pub AlphaRight : List ℕ → List Entry → Entry → Type 0
AlphaRight s = MemberRight s AlphaBank Alpha 8 alpha_head

-- the bits of a bitmap's planes, and whether their rows may be short, which with the sides are their shape: colours are bitmap 0; all other
-- bitmaps are masks, which have 8 bits, and may have short rows at any depth
abbrev pub bits_of : ℕ → ℕ → ℕ
bits_of depth bitmap = pick (eqb bitmap 0) (cond (ltb depth 24) depth 8) 8

abbrev pub short_of : ℕ → ℕ → Bool
short_of depth bitmap = pick (eqb bitmap 0) (colour_short depth) true

abbrev pub shape_in : List ℕ → Parent → ℕ → ℕ → Shape
shape_in s parent place bitmap = shape_of (sides_of (saved_in s parent place bitmap)) (bits_of (depth_of s) bitmap) (short_of (depth_of s) bitmap)

-- a channel's row, by the other numbers of its entry
abbrev pub RowTaken : ℕ → Entry → Type 0
RowTaken depth e =
    Taken (shape_of (record { width = e.size.width; height = e.size.height }) (bits_of depth e.code.bitmap) (short_of depth e.code.bitmap))
    e.size.plane e.size.row

-- a channel, of a layer, a selection or an alpha channel: the last entry one level up holds it, it is expected there, its content lies
-- inside the input, its sides are those of its parent's rectangle, its plane length is the chunk's, and its row is the first form that
-- makes such a plane
pub record ChannelRight (s : List ℕ) (before : List Entry) (e : Entry) : Type 0 where
  pub parent : Entry
  pub others : List Entry
  pub up : ℕ
  pub level : e.block.level ≡ suc up
  pub held_by : holder up before ≡ holds parent others
  pub permitted : fault_in s (parent_of parent) parent.block.place ≡ None
  pub number : e.layer ≡ parent.layer
  pub awaited : Awaited (parent_of parent) (depth_of s) (codes_in others) e.code
  pub bitmap : e.code.bitmap ≡ (channel_at s (e.block.place + block_header_size)).bitmap
  pub channel : e.code.channel ≡ (channel_at s (e.block.place + block_header_size)).channel
  pub stored : e.content.stored ≡ (channel_at s (e.block.place + block_header_size)).stored
  pub owned : e.block.owned ≡ channel_head + e.content.stored
  pub start : e.content.start ≡ e.block.place + channel_head
  pub inside : e.content.start + e.content.stored ≤ length s
  pub width : e.size.width ≡ width_of (saved_in s (parent_of parent) parent.block.place e.code.bitmap)
  pub height : e.size.height ≡ height_of (saved_in s (parent_of parent) parent.block.place e.code.bitmap)
  pub plane : e.size.plane ≡ (channel_at s (e.block.place + block_header_size)).plane
  pub row : RowTaken (depth_of s) e

-- a skipped block: all behind its header is its content; a palette is skipped at depth 24 only
pub record SkipRight (s : List ℕ) (e : Entry) : Type 0 where
  pub is :
      e
      ≡ filled (block e.block.id 1 e.block.level e.block.place (block_header_size + e.content.stored))
      (content (e.block.place + block_header_size) e.content.stored)
  pub inside : e.content.start + e.content.stored ≤ length s
  pub unused : e.block.id ≡ 2 → depth_of s ≡ 24

-- an entry that is not skipped, by its id; of the image all is said where the first entry is
abbrev choose : Bool → Type 0 → Type 0 → Type 0
choose true A B = A
choose false A B = B

abbrev pub RightAs : ℕ → List ℕ → List Entry → Entry → Type 0
RightAs id s before e =
    choose (eqb id 2) (PaletteRight s before e)
    (choose (eqb id 3) (BankRight s before e)
    (choose (eqb id 4) (LayerRight s before e)
    (choose (eqb id 5) (ChannelRight s before e)
    (choose (eqb id 6) (SelectionRight s before e)
    (choose (eqb id 7) (AlphaBankRight s before e)
    (choose (eqb id 8) (AlphaRight s before e)
    Unit))))))

-- any entry: the first is the image; whatever it does not lie inside of has come to its end
pub record Right (s : List ℕ) (before : List Entry) (e : Entry) : Type 0 where
  pub image : ImageRight s
  pub first : before ≡ [] → e ≡ plain (block 0 0 0 image_place image_head)
  pub closed : (level : ℕ) → e.block.level ≤ level → Of (Full s) (holder level before)
  pub kind : (id : ℕ) → is_kind id e ≡ true → RightAs id s before e
  pub skipped : e.block.skipped ≡ 1 → SkipRight s e

-- and the header at its place is marked and has its id; the lengths there are those of its kind, or all that it announces is content, where
-- the entry is skipped
pub record Headed (s : List ℕ) (e : Entry) : Type 0 where
  pub marked : is_marked (block_header_at s e.block.place) ≡ true
  pub named : e.block.id ≡ (block_header_at s e.block.place).id
  pub lengths : e.block.skipped ≡ 0 → are_lengths (block_header_at s e.block.place) ≡ true
  pub whole : e.block.skipped ≡ 1 → e.content.stored ≡ (block_header_at s e.block.place).total

-- ### All entries of an accepted file

-- one bank; as many layers as the image announces; for a paletted image one palette; and each entry is full with what it holds
pub record Accepted (s : List ℕ) (es : List Entry) : Type 0 where
  pub image : ImageRight s
  pub banks : length (filter is_bank es) ≡ 1
  pub layers : layers_in es ≡ (image_in s).layers
  pub palettes : is_paletted (image_in s) ≡ true → length (filter is_palette es) ≡ 1
  pub full :
      (k : ℕ) (d : Entry) → k < length es → Full s (get_or es k d) (held (get_or es k d).block.level (drop (suc k) es))
