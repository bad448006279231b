-- What one look finds, with all that was tested on the way: the one analysis of the rules that the promises stand on.
use mathlib.Core.Path.{◌≡◌, refl, sym, ap, subst, subst⁻¹, ◌∙◌}
use mathlib.Core.Bool.{true, false}
use mathlib.Core.List.{List}
use Prim.Native.Nat.{ℕ, ◌+◌, ◌*◌, ◌≤◌, ◌<◌}
use native.Mathlib.Omega.{arith}
use borrow.Author.Tests.{eqb-true, eqb-false, leb-true}
use lib.Dec.{eqb}
use lib.ListN.{length}
use Rattle.std.specs.Prelude.{Option, None, Some}
use Rattle.laws.specs.Lists.{part}
use Rattle.laws.proofs.Choice.{pick_ind}
use Rattle.laws.proofs.Tests.{both}
use Rattle.rect.specs.Rows.{size_of}
use Rattle.answer.specs.declared.Refusal.{Refusal}
use Rattle.answer.specs.declared.Refusal.TheVariants.{WrongField}
use Rattle.answer.specs.Answers.{refusal_number}
use Rattle.entry.specs.declared.Entry.{Entry}
use Rattle.entry.specs.Entry.{block, content, plain, ranked, filled}
use Rattle.walk.specs.Walk.{Step, End, Stop, Leaf, Nest}
use Rattle.walk.proofs.Unit.{unit_ind}
use Rattle.headers.specs.declared.block_header.BlockHeader.{BlockHeader}
use Rattle.headers.specs.BlockHeader.{block_header_size, block_header_of, block_header_at, is_marked}
use Rattle.attributes.specs.ImageAttributes.{image_size, image_at, image_fault}
use Rattle.chunk.specs.declared.channel_information.ChannelChunk.{ChannelChunk}
use Rattle.chunk.specs.AlphaBankInformation.{alpha_bank_size, alpha_bank_at}
use Rattle.chunk.specs.AlphaInformation.{alpha_size, alpha_at, alpha_fault}
use Rattle.chunk.specs.Heads.{image_head, palette_head, layer_head, channel_head, selection_head, alpha_bank_head, alpha_head}
use Rattle.chunk.specs.ColorPalette.{palette_size, palette_at, palette_fault}
use Rattle.chunk.specs.LayerInformation.{layer_size, layer_at, layer_fault}
use Rattle.chunk.specs.ChannelInformation.{channel_size, channel_at, codes_fault, plane_fault}
use Rattle.chunk.specs.SelectionInformation.{selection_size, selection_at, selection_fault}
use Rattle.memory.specs.declared.parent.Open.TheVariants.{Layers, Alphas}
use Rattle.memory.specs.declared.parent.Parent.{Parent}
use Rattle.memory.specs.declared.places.Placing.{Placing}
use Rattle.memory.specs.declared.places.Placing.TheVariants.{Refuse, Enter, Skip}
use Rattle.memory.specs.declared.state.State.{State}
use Rattle.memory.specs.Parent.{main, level_of, parent_at, is_host}
use Rattle.memory.specs.State.{with_image, with_palette, with_bank, with_layer, with_channel, with_selection, with_alpha_bank, with_alpha, shape_for, is_surplus, is_full}
use Rattle.memory.proofs.Parents.{Held, by_main, by_bank, by_alpha_bank, held}
use Rattle.memory.proofs.Placed.{Begun, Placed, refused, image, palette, bank, layer, channel, selection, alpha_bank, alpha, skip, placed}
use Rattle.kinds.specs.Blocks.{nest_block, image_block, palette_counted, palette_block, bank_block, skipped_by, skip_block}
use Rattle.layers.specs.Layers.{channel_entry, is_awaited, layer_block, channel_sized, channel_coded, channel_block}
use Rattle.masks.specs.Masks.{selection_block, alpha_bank_block, alpha_block}
use Rattle.kinds.specs.Headed.{Chunked}
use Rattle.kinds.proofs.Judging.{permitted_ind}
use Rattle.block.specs.Step.{are_lengths, is_inside, kind_of, placed_of, block_at, step_at}
use Rattle.block.proofs.Passed.{image_total, layer_total, selection_total, alpha_bank_total, alpha_total, layer_room, alpha_room, channel_room}
use Rattle.block.proofs.Passed as ids

module _ (s : List ℕ) (st : State) (at end levels : ℕ) where
  abbrev level : ℕ
  level = level_of levels

  abbrev chunk_place : ℕ
  chunk_place = at + block_header_size

  -- what holds the place
  abbrev parent : Parent
  parent = parent_at st.opened levels

  -- ### Entries without an inside

  pub record IsImage (e : Entry) (next : ℕ) (q : State) : Type 0 where
    pub permitted_all : image_fault (image_at s chunk_place) ≡ None
    pub readable : (image_at s chunk_place).compression ≡ 2 → ⊥
    pub first : st.image.depth ≡ 0
    pub present : at + image_head ≤ length s
    pub within : at + image_head ≤ end
    pub entry : e ≡ plain (block 0 0 level at image_head)
    pub goes_on : next ≡ at + image_head
    pub state : q ≡ with_image (image_at s chunk_place) st

  pub record IsPalette (e : Entry) (next : ℕ) (q : State) : Type 0 where
    pub count : ℕ
    pub is : count ≡ (palette_at s chunk_place).count
    pub permitted_all : palette_fault st.image.depth (palette_at s chunk_place) ≡ None
    pub begun : Begun st
    pub top : levels ≡ main
    pub once : st.met.palette ≡ false
    pub used : st.image.depth ≡ 24 → ⊥
    pub present : at + palette_head + 4 * count ≤ length s
    pub within : at + palette_head + 4 * count ≤ end
    pub entry : e ≡ filled (block 2 0 level at (palette_head + 4 * count)) (content (at + palette_head) (4 * count))
    pub goes_on : next ≡ at + palette_head + 4 * count
    pub state : q ≡ with_palette st

  pub record IsChannel (e : Entry) (next : ℕ) (q : State) : Type 0 where
    pub chunk : ChannelChunk
    pub is : chunk ≡ channel_at s chunk_place
    pub begun : Begun st
    pub host : is_host parent ≡ true
    pub room : 0 < st.current.left
    pub awaited : is_awaited st parent chunk ≡ true
    pub plane : plane_fault (shape_for st.current st.image.depth chunk.bitmap) chunk ≡ None
    pub present : at + channel_head + chunk.stored ≤ length s
    pub within : at + channel_head + chunk.stored ≤ end
    pub entry :
        e ≡ channel_entry level at st.current.number chunk (size_of (shape_for st.current st.image.depth chunk.bitmap) chunk.plane)
    pub goes_on : next ≡ at + channel_head + chunk.stored
    pub state : q ≡ with_channel chunk st

  pub record IsSkip (e : Entry) (next : ℕ) (q : State) : Type 0 where
    pub id : ℕ
    pub total : ℕ
    pub begun : Begun st
    pub unused : id ≡ 2 → st.image.depth ≡ 24
    pub present : at + block_header_size + total ≤ length s
    pub within : at + block_header_size + total ≤ end
    pub entry : e ≡ filled (block id 1 level at (block_header_size + total)) (content (at + block_header_size) total)
    pub goes_on : next ≡ at + block_header_size + total
    pub state : q ≡ skipped_by id st

  pub data LeafOf (e : Entry) (next : ℕ) (q : State) : Type 0 where
    an_image : IsImage e next q → LeafOf e next q
    a_palette : IsPalette e next q → LeafOf e next q
    a_channel : IsChannel e next q → LeafOf e next q
    a_skip : IsSkip e next q → LeafOf e next q

  -- ### Entries whose inside is entered

  -- an inside, behind the header and a chunk of so many bytes, up to the end that the total tells
  pub record Inside (size total inside after : ℕ) : Type 0 where
    pub present : at + (block_header_size + size) ≤ length s
    pub order : at + (block_header_size + size) ≤ at + block_header_size + total
    pub within : at + block_header_size + total ≤ end
    pub enters : inside ≡ at + (block_header_size + size)
    pub ends : after ≡ at + block_header_size + total

  pub record IsBank (e : Entry) (inside : ℕ) (q : State) (after : ℕ) : Type 0 where
    pub total : ℕ
    pub opens : Inside 0 total inside after
    pub begun : Begun st
    pub top : levels ≡ main
    pub once : st.met.bank ≡ false
    pub entry : e ≡ plain (block 3 0 level at block_header_size)
    pub state : q ≡ with_bank st

  pub record IsLayer (e : Entry) (inside : ℕ) (q : State) (after : ℕ) : Type 0 where
    pub total : ℕ
    pub opens : Inside layer_size total inside after
    pub permitted_all : layer_fault st.image.depth (layer_at s chunk_place) ≡ None
    pub begun : Begun st
    pub in_bank : levels ≡ 1
    pub of_layers : st.opened ≡ Layers
    pub room : st.members.found < st.members.announced
    pub entry : e ≡ ranked (block 4 0 level at layer_head) st.members.found
    pub state : q ≡ with_layer (layer_at s chunk_place) st

  pub record IsSelection (e : Entry) (inside : ℕ) (q : State) (after : ℕ) : Type 0 where
    pub total : ℕ
    pub opens : Inside selection_size total inside after
    pub permitted_all : selection_fault (selection_at s chunk_place) ≡ None
    pub begun : Begun st
    pub top : levels ≡ main
    pub once : st.met.selection ≡ false
    pub entry : e ≡ plain (block 6 0 level at selection_head)
    pub state : q ≡ with_selection (selection_at s chunk_place) st

  pub record IsAlphaBank (e : Entry) (inside : ℕ) (q : State) (after : ℕ) : Type 0 where
    pub total : ℕ
    pub opens : Inside alpha_bank_size total inside after
    pub begun : Begun st
    pub top : levels ≡ main
    pub once : st.met.alphas ≡ false
    pub entry : e ≡ plain (block 7 0 level at alpha_bank_head)
    pub state : q ≡ with_alpha_bank (alpha_bank_at s chunk_place) st

  pub record IsAlpha (e : Entry) (inside : ℕ) (q : State) (after : ℕ) : Type 0 where
    pub total : ℕ
    pub opens : Inside alpha_size total inside after
    pub permitted_all : alpha_fault (alpha_at s chunk_place) ≡ None
    pub begun : Begun st
    pub in_bank : levels ≡ 1
    pub of_alphas : st.opened ≡ Alphas
    pub room : st.members.found < st.members.announced
    pub entry : e ≡ ranked (block 8 0 level at alpha_head) st.members.found
    pub state : q ≡ with_alpha (alpha_at s chunk_place) st

  pub data NestOf (e : Entry) (inside : ℕ) (q : State) (after : ℕ) : Type 0 where
    a_bank : IsBank e inside q after → NestOf e inside q after
    a_layer : IsLayer e inside q after → NestOf e inside q after
    a_selection : IsSelection e inside q after → NestOf e inside q after
    an_alpha_bank : IsAlphaBank e inside q after → NestOf e inside q after
    an_alpha : IsAlpha e inside q after → NestOf e inside q after

  -- ### A field that is not permitted

  -- the field at an offset of the chunk, by the kind of block; a channel's codes come before its plane length
  pub data FaultOf (offset : ℕ) : Type 0 where
    an_image's : Chunked s at 0 image_size → st.image.depth ≡ 0 → image_fault (image_at s chunk_place) ≡ Some offset → FaultOf offset
    a_palette's :
        Chunked s at 2 palette_size → Begun st → (st.image.depth ≡ 24 → ⊥) → palette_fault st.image.depth (palette_at s chunk_place) ≡ Some offset
        → FaultOf offset
    a_layer's :
        Chunked s at 4 layer_size → Begun st → levels ≡ 1 → st.opened ≡ Layers → layer_fault st.image.depth (layer_at s chunk_place) ≡ Some offset
        → FaultOf offset
    a_code's : Chunked s at 5 channel_size → Begun st → is_host parent ≡ true → codes_fault (channel_at s chunk_place) ≡ Some offset → FaultOf offset
    a_plane's :
        Chunked s at 5 channel_size → Begun st → is_host parent ≡ true → 0 < st.current.left → codes_fault (channel_at s chunk_place) ≡ None
        → is_awaited st parent (channel_at s chunk_place) ≡ true
        → plane_fault (shape_for st.current st.image.depth (channel_at s chunk_place).bitmap) (channel_at s chunk_place) ≡ Some offset → FaultOf offset
    a_selection's : Chunked s at 6 selection_size → Begun st → levels ≡ main → selection_fault (selection_at s chunk_place) ≡ Some offset → FaultOf offset
    an_alpha's :
        Chunked s at 8 alpha_size → Begun st → levels ≡ 1 → st.opened ≡ Alphas → alpha_fault (alpha_at s chunk_place) ≡ Some offset → FaultOf offset

  -- ### The step

  -- the header at an entry's place is marked and has its id; the lengths there are those of its kind, or all that it announces is content,
  -- where the entry is skipped
  pub record OfHeader (e : Entry) : Type 0 where
    pub marked : is_marked (block_header_at s at) ≡ true
    pub named : e.block.id ≡ (block_header_at s at).id
    pub lengths : e.block.skipped ≡ 0 → are_lengths (block_header_at s at) ≡ true
    pub whole : e.block.skipped ≡ 1 → e.content.stored ≡ (block_header_at s at).total

  -- the end of the input, or of the parent; a refusal here or further on, 8 at a field; an entry
  pub data Stepped : Step State → Type 0 where
    accepted : levels ≡ main → at ≡ length s → is_full st parent ≡ true → Stepped End
    ended : (levels ≡ main → ⊥) → at ≡ end → is_full st parent ≡ true → Stepped End
    stopped : {r : Refusal} {p : ℕ} → at ≤ p → eqb (refusal_number r) 8 ≡ false → Stepped (Stop r p)
    named : {offset : ℕ} → FaultOf offset → Stepped (Stop WrongField (chunk_place + offset))
    leafed : {e : Entry} {next : ℕ} {q : State} → OfHeader e → LeafOf e next q → Stepped (Leaf e next q)
    nested : {e : Entry} {inside : ℕ} {q : State} {after : ℕ} → OfHeader e → NestOf e inside q after → Stepped (Nest e inside q after)

  -- a refusal at the header, and one behind it, that names no field
  here : {r : Refusal} → eqb (refusal_number r) 8 ≡ false → Stepped (Stop r at)
  here other = let low : at ≤ at = omega arith in stopped low other

  further : {r : Refusal} (n : ℕ) → eqb (refusal_number r) 8 ≡ false → Stepped (Stop r (at + n))
  further n other = let low : at ≤ at + n = omega arith in stopped low other

  module _
      (header : at + block_header_size ≤ length s) (h : BlockHeader) (same : h ≡ block_header_at s at) (mark : is_marked h ≡ true)
      (fits : at + block_header_size + h.total ≤ end) where
    -- an entry that is not skipped, by its id
    entered : {e : Entry} → are_lengths h ≡ true → h.id ≡ e.block.id → e.block.skipped ≡ 0 → OfHeader e
    entered good id kept = record {
      marked = subst (λ (x : BlockHeader). is_marked x ≡ true) same mark;
      named = sym id ∙ ap (λ (x : BlockHeader). x.id) same;
      lengths = λ _. subst (λ (x : BlockHeader). are_lengths x ≡ true) same good;
      whole = λ yes. absurd (omega arith);
    }

    chunked : {id size : ℕ} → h.id ≡ id → chunk_place + size ≤ length s → Chunked s at id size
    chunked id there = record { is = sym (ap (λ (x : BlockHeader). x.id) same) ∙ id; present = there }

    skip_stepped : Begun st → (h.id ≡ 2 → st.image.depth ≡ 24) → Stepped (skip_block s st h.id h.total at level)
    unfolding skip_block
    skip_stepped begun unused =
        unit_ind Stepped s chunk_place h.total _ (λ _. further block_header_size refl) (λ there.
        leafed (record {
          marked = subst (λ (x : BlockHeader). is_marked x ≡ true) same mark;
          named = ap (λ (x : BlockHeader). x.id) same;
          lengths = λ no. absurd (omega arith);
          whole = λ _. ap (λ (x : BlockHeader). x.total) same;
        }) (a_skip (record {
          id = h.id;
          total = h.total;
          begun = begun;
          unused = unused;
          present = there;
          within = fits;
          entry = refl;
          goes_on = refl;
          state = refl;
        })))

    image_stepped : are_lengths h ≡ true → h.id ≡ 0 → st.image.depth ≡ 0 → Stepped (image_block s st at level)
    unfolding image_block
    image_stepped lengths id none =
        let whole = image_total h lengths id in
        unit_ind Stepped s chunk_place image_size _ (λ _. further block_header_size refl) (λ there.
        permitted_ind Stepped _ _ _ (λ _ bad. named (an_image's (chunked id there) none bad)) (λ good.
        pick_ind Stepped _ _ _ (λ _. further block_header_size refl) (λ other.
        leafed (entered lengths id refl) (an_image (record {
          permitted_all = good;
          readable = eqb-false (image_at s chunk_place).compression 2 other;
          first = none;
          present = omega arith;
          within = omega arith;
          entry = refl;
          goes_on = refl;
          state = refl;
        })))))

    palette_stepped :
        are_lengths h ≡ true → h.id ≡ 2 → Begun st → levels ≡ main → st.met.palette ≡ false → (st.image.depth ≡ 24 → ⊥)
        → Stepped (palette_block s st h.total at level)
    unfolding palette_block palette_counted
    palette_stepped lengths id begun top once used =
        unit_ind Stepped s chunk_place palette_size _ (λ _. further block_header_size refl) (λ there.
        let n = (palette_at s chunk_place).count in
        permitted_ind Stepped _ _ _ (λ _ bad. named (a_palette's (chunked id there) begun used bad)) (λ good.
        pick_ind Stepped _ _ _ (λ whole.
        unit_ind Stepped s (at + palette_head) (4 * n) _ (λ _. further palette_head refl) (λ all.
        leafed (entered lengths id refl) (a_palette (record {
          count = n;
          is = refl;
          permitted_all = good;
          begun = begun;
          top = top;
          once = once;
          used = used;
          present = all;
          within = omega (arith, eqb-true h.total (palette_size + 4 * n) whole);
          entry = refl;
          goes_on = refl;
          state = refl;
        }))))
        (λ _. here refl)))

    bank_stepped : are_lengths h ≡ true → h.id ≡ 3 → Begun st → levels ≡ main → st.met.bank ≡ false → Stepped (bank_block st h.total at level)
    unfolding bank_block
    bank_stepped lengths id begun top once =
        nested (entered lengths id refl) (a_bank (record {
          total = h.total;
          opens = record { present = header; order = omega arith; within = fits; enters = refl; ends = refl };
          begun = begun;
          top = top;
          once = once;
          entry = refl;
          state = refl;
        }))

    -- a block that is entered behind its chunk, by what a fault and what its absence makes of it
    nest_stepped :
        (id size : ℕ) (fault : List ℕ → Option ℕ) (e : Entry) (q : List ℕ → State) → h.id ≡ id → size ≤ h.total → OfHeader e
        → ((offset : ℕ) → Chunked s at id size → fault (part s chunk_place size) ≡ Some offset → FaultOf offset)
        → (Inside size h.total (at + (block_header_size + size)) (chunk_place + h.total) → fault (part s chunk_place size) ≡ None
        → NestOf e (at + (block_header_size + size)) (q (part s chunk_place size)) (chunk_place + h.total))
        → Stepped (nest_block s h.total at size fault e q)
    nest_stepped id size fault e q is long of bad good =
        unit_ind Stepped s chunk_place size _ (λ _. further block_header_size refl) (λ there.
        permitted_ind Stepped _ _ _ (λ offset wrong. named (bad offset (chunked is there) wrong)) (λ none.
        nested of (good (record { present = omega arith; order = omega arith; within = fits; enters = refl; ends = refl }) none)))

    layer_stepped :
        are_lengths h ≡ true → h.id ≡ 4 → Begun st → levels ≡ 1 → st.opened ≡ Layers → st.members.found < st.members.announced
        → Stepped (layer_block s st h.total at level)
    unfolding layer_block
    layer_stepped lengths id begun in_bank of_layers room =
        nest_stepped 4 layer_size _ _ _ id (layer_total h lengths id) (entered lengths id refl) (λ _ j bad. a_layer's j begun in_bank of_layers bad) (λ opens good.
        a_layer (record {
          total = h.total;
          opens = opens;
          permitted_all = good;
          begun = begun;
          in_bank = in_bank;
          of_layers = of_layers;
          room = room;
          entry = refl;
          state = refl;
        }))

    selection_stepped :
        are_lengths h ≡ true → h.id ≡ 6 → Begun st → levels ≡ main → st.met.selection ≡ false → Stepped (selection_block s st h.total at level)
    unfolding selection_block
    selection_stepped lengths id begun top once =
        nest_stepped 6 selection_size _ _ _ id (selection_total h lengths id) (entered lengths id refl) (λ _ j bad. a_selection's j begun top bad) (λ opens good.
        a_selection (record {
          total = h.total;
          opens = opens;
          permitted_all = good;
          begun = begun;
          top = top;
          once = once;
          entry = refl;
          state = refl;
        }))

    alpha_bank_stepped :
        are_lengths h ≡ true → h.id ≡ 7 → Begun st → levels ≡ main → st.met.alphas ≡ false → Stepped (alpha_bank_block s st h.total at level)
    unfolding alpha_bank_block
    alpha_bank_stepped lengths id begun top once =
        nest_stepped 7 alpha_bank_size _ _ _ id (alpha_bank_total h lengths id) (entered lengths id refl) (λ _ j bad. let z : ◌≡◌ {A = ℕ} 0 1 = cc in absurd (omega arith)) (λ opens _.
        an_alpha_bank (record {
          total = h.total;
          opens = opens;
          begun = begun;
          top = top;
          once = once;
          entry = refl;
          state = refl;
        }))

    alpha_stepped :
        are_lengths h ≡ true → h.id ≡ 8 → Begun st → levels ≡ 1 → st.opened ≡ Alphas → st.members.found < st.members.announced
        → Stepped (alpha_block s st h.total at level)
    unfolding alpha_block
    alpha_stepped lengths id begun in_bank of_alphas room =
        nest_stepped 8 alpha_size _ _ _ id (alpha_total h lengths id) (entered lengths id refl) (λ _ j bad. an_alpha's j begun in_bank of_alphas bad) (λ opens good.
        an_alpha (record {
          total = h.total;
          opens = opens;
          permitted_all = good;
          begun = begun;
          in_bank = in_bank;
          of_alphas = of_alphas;
          room = room;
          entry = refl;
          state = refl;
        }))

    channel_stepped :
        are_lengths h ≡ true → h.id ≡ 5 → Begun st → is_host parent ≡ true → 0 < st.current.left
        → Stepped (channel_block s st parent h.total at level)
    unfolding channel_block channel_coded channel_sized
    channel_stepped lengths id begun host room =
        unit_ind Stepped s chunk_place channel_size _ (λ _. further block_header_size refl) (λ there.
        let c = channel_at s chunk_place in
        pick_ind Stepped _ _ _ (λ whole.
        permitted_ind Stepped _ _ _ (λ _ bad. named (a_code's (chunked id there) begun host bad)) (λ codes.
        pick_ind Stepped _ _ _ (λ waited.
        permitted_ind Stepped _ _ _ (λ _ bad. named (a_plane's (chunked id there) begun host room codes waited bad)) (λ plane.
        unit_ind Stepped s (at + channel_head) c.stored _ (λ _. further channel_head refl) (λ all.
        leafed (entered lengths id refl) (a_channel (record {
          chunk = c;
          is = refl;
          begun = begun;
          host = host;
          room = room;
          awaited = waited;
          plane = plane;
          present = all;
          within = omega (arith, eqb-true h.total (channel_size + c.stored) whole);
          entry = refl;
          goes_on = refl;
          state = refl;
        })))))
        (λ _. here refl)))
        (λ _. here refl))

    -- the kind of a block that is entered, by its place
    kind_stepped :
        {p : Parent} {a : Placing} → p ≡ parent → Held st.opened levels p → Placed st h.id p a → a ≡ Enter → is_surplus st h.id ≡ false
        → are_lengths h ≡ true → Stepped (kind_of s st p h at level)
    unfolding kind_of
    kind_stepped is t refused z surplus good = let x : ◌≡◌ {A = ℕ} 0 1 = cc in absurd (omega arith)
    kind_stepped is t (skip begun unused) z surplus good = let x : ◌≡◌ {A = ℕ} 0 1 = cc in absurd (omega arith)
    kind_stepped is t (image none e) z surplus good = subst⁻¹ Stepped (ids.by_image _ _ _ _ _ _ _ _ _ e) (image_stepped good e none)
    kind_stepped is (by_main top) (palette begun e once used) z surplus good = subst⁻¹ Stepped (ids.by_palette _ _ _ _ _ _ _ _ _ e) (palette_stepped good e begun top once used)
    kind_stepped is (by_main top) (bank begun e once) z surplus good = subst⁻¹ Stepped (ids.by_bank _ _ _ _ _ _ _ _ _ e) (bank_stepped good e begun top once)
    kind_stepped is (by_bank in_bank o) (layer begun e) z surplus good =
        subst⁻¹ Stepped (ids.by_layer _ _ _ _ _ _ _ _ _ e) (layer_stepped good e begun in_bank o (layer_room st h.id surplus e))
    kind_stepped is (by_main top) (selection begun e once) z surplus good =
        subst⁻¹ Stepped (ids.by_selection _ _ _ _ _ _ _ _ _ e) (selection_stepped good e begun top once)
    kind_stepped is (by_main top) (alpha_bank begun e once) z surplus good =
        subst⁻¹ Stepped (ids.by_alpha_bank _ _ _ _ _ _ _ _ _ e) (alpha_bank_stepped good e begun top once)
    kind_stepped is (by_alpha_bank in_bank o) (alpha begun e) z surplus good =
        subst⁻¹ Stepped (ids.by_alpha _ _ _ _ _ _ _ _ _ e) (alpha_stepped good e begun in_bank o (alpha_room st h.id surplus e))
    kind_stepped {p} is t (channel begun host e) z surplus good =
        subst⁻¹ Stepped (ids.by_channel _ _ _ _ _ _ _ _ _ e)
        (subst⁻¹ (λ (x : Parent). Stepped (channel_block s st x h.total at level)) is
        (channel_stepped good e begun (subst (λ (x : Parent). is_host x ≡ true) is host) (channel_room st h.id surplus e)))

    -- a block that is skipped
    passed_stepped : {p : Parent} {a : Placing} → Placed st h.id p a → a ≡ Skip → Stepped (skip_block s st h.id h.total at level)
    passed_stepped (skip begun unused) z = skip_stepped begun unused
    passed_stepped refused z = let x : ◌≡◌ {A = ℕ} 0 1 = cc in absurd (omega arith)
    passed_stepped (image none e) z = let x : ◌≡◌ {A = ℕ} 0 1 = cc in absurd (omega arith)
    passed_stepped (palette begun e once used) z = let x : ◌≡◌ {A = ℕ} 0 1 = cc in absurd (omega arith)
    passed_stepped (bank begun e once) z = let x : ◌≡◌ {A = ℕ} 0 1 = cc in absurd (omega arith)
    passed_stepped (layer begun e) z = let x : ◌≡◌ {A = ℕ} 0 1 = cc in absurd (omega arith)
    passed_stepped (channel begun host e) z = let x : ◌≡◌ {A = ℕ} 0 1 = cc in absurd (omega arith)
    passed_stepped (selection begun e once) z = let x : ◌≡◌ {A = ℕ} 0 1 = cc in absurd (omega arith)
    passed_stepped (alpha_bank begun e once) z = let x : ◌≡◌ {A = ℕ} 0 1 = cc in absurd (omega arith)
    passed_stepped (alpha begun e) z = let x : ◌≡◌ {A = ℕ} 0 1 = cc in absurd (omega arith)

  placed_stepped :
      levels ≤ main → at + block_header_size ≤ length s → (h : BlockHeader) → h ≡ block_header_at s at → is_marked h ≡ true → (a : Placing)
      → Placed st h.id parent a → Stepped (placed_of s st parent h a at end level)
  unfolding placed_of
  placed_stepped low header h same mark Refuse place = here refl
  placed_stepped low header h same mark Enter place =
      pick_ind Stepped (is_surplus st h.id) _ _ (λ _. here refl) (λ surplus.
      pick_ind Stepped _ _ _ (λ good.
      let parts = both (are_lengths h) (is_inside h at end) good in
      kind_stepped header h same mark (leb-true _ _ parts.1) refl (held st.opened levels low) place refl surplus parts.0)
      (λ _. here refl))
  placed_stepped low header h same mark Skip place =
      pick_ind Stepped (is_inside h at end) _ _ (λ good. passed_stepped header h same mark (leb-true _ _ good) place refl) (λ _. here refl)

  block_stepped : levels ≤ main → Stepped (block_at s st at end levels)
  unfolding block_at
  block_stepped low =
      unit_ind Stepped s at block_header_size _ (λ _. here refl) (λ header.
      let h = block_header_of (part s at block_header_size) in
      pick_ind Stepped _ _ _ (λ mark. placed_stepped low header h refl mark _ (placed st h.id parent)) (λ _. here refl))

  pub stepped : levels ≤ main → Stepped (step_at s st at end levels)
  unfolding step_at
  stepped low =
      pick_ind Stepped (eqb levels main) _ _
      (λ top. pick_ind Stepped (eqb at (length s)) _ _
      (λ last. pick_ind Stepped (is_full st parent) _ _ (λ all. accepted (eqb-true levels main top) (eqb-true at (length s) last) all) (λ _. here refl))
      (λ _. block_stepped low))
      (λ inner. pick_ind Stepped (eqb at end) _ _
      (λ last. pick_ind Stepped (is_full st parent) _ _ (λ all. ended (eqb-false levels main inner) (eqb-true at end last) all) (λ _. here refl))
      (λ _. pick_ind Stepped _ _ _ (λ _. here refl) (λ _. block_stepped low)))
