-- The rules pay what they owe the walk: a step moves on and its entry owns what it passes, and more input keeps it.
use mathlib.Core.Path.{◌≡◌, refl, ap}
use mathlib.Core.List.{List, ◌++◌}
use Prim.Native.Nat.{ℕ, ◌+◌, ◌*◌, ◌≤◌, ◌<◌}
use native.Mathlib.Omega.{arith}
use borrow.Author.Tests.{eqb-true, ne_eqb}
use lib.Dec.{eqb}
use lib.ListN.{length, length-append}
use Rattle.std.specs.Prelude.{Option}
use Rattle.laws.proofs.Choice.{pick_no, pick_ind, pick_ind₂, pick_left}
use Rattle.entry.specs.declared.Entry.{Entry}
use Rattle.walk.specs.Walk.{Step}
use Rattle.walk.specs.Owed.{Owns, Opens, Moves, ends, stops, leaf, nest, MovesOn, soon, last, Rules, Beyond, last_end, refused, leaf_past, nest_past, Waits, stays, waits, WaitsOn, Prompt, Reads}
use Rattle.walk.proofs.Unit.{reads_past, unit_waits, unit_waits_to}
use Rattle.walk.proofs.Prefix.{waits_keeps}
use Rattle.headers.specs.declared.block_header.BlockHeader.{BlockHeader}
use Rattle.headers.specs.BlockHeader.{block_header_size}
use Rattle.attributes.specs.ImageAttributes.{image_size}
use Rattle.chunk.specs.Heads.{image_head, palette_head, channel_head}
use Rattle.chunk.specs.AlphaBankInformation.{alpha_bank_size}
use Rattle.chunk.specs.AlphaInformation.{alpha_size}
use Rattle.chunk.specs.ColorPalette.{palette_size}
use Rattle.chunk.specs.LayerInformation.{layer_size}
use Rattle.chunk.specs.SelectionInformation.{selection_size}
use Rattle.chunk.specs.ChannelInformation.{channel_size}
use Rattle.memory.specs.declared.parent.Parent.{Parent}
use Rattle.memory.specs.declared.places.Placing.{Placing}
use Rattle.memory.specs.declared.places.Placing.TheVariants.{Refuse, Enter, Skip}
use Rattle.memory.specs.declared.state.State.{State}
use Rattle.memory.specs.Parent.{main, level_of}
use Rattle.kinds.specs.Blocks.{nest_block, palette_counted, image_block, palette_block, skip_block}
use Rattle.layers.specs.Layers.{channel_sized, channel_coded, layer_block, channel_block}
use Rattle.masks.specs.Masks.{selection_block, alpha_bank_block, alpha_block}
use Rattle.kinds.specs.Unread.{Unread}
use Rattle.kinds.proofs.Judging.{permitted_ind, permitted_ind₂}
use Rattle.kinds.proofs.Read.{image_reads, palette_reads}
use Rattle.layers.proofs.Read.{channel_reads}
use Rattle.block.specs.Step.{kind_of, placed_of, block_at, step_at}
use Rattle.block.proofs.Read.{block_reads}
use Rattle.block.proofs.Stepped.{LeafOf, an_image, a_palette, a_channel, a_skip, Inside, NestOf, a_bank, a_layer, a_selection, an_alpha_bank, an_alpha, Stepped, accepted, ended, stopped, named, leafed, nested, stepped}

-- ### Each step moves on

module _ (s : List ℕ) (st : State) (at end levels : ℕ) where
  own : {e : Entry} {next : ℕ} (owned : ℕ) → e.block.place ≡ at → e.block.owned ≡ owned → next ≡ at + owned → 0 < owned → next ≤ length s → next ≤ end
      → Owns (length s) at end e next
  own owned p o n some present within = record { place = p; owned = omega arith; on = omega arith; present = present; within = within }

  leaf_owns : {e : Entry} {next : ℕ} {q : State} → LeafOf s st at end levels e next q → Owns (length s) at end e next
  leaf_owns (an_image i) =
      own image_head (ap (λ x. x.block.place) i.entry) (ap (λ x. x.block.owned) i.entry) i.goes_on (omega arith)
      (omega (arith, i.present, i.goes_on)) (omega (arith, i.within, i.goes_on))
  leaf_owns (a_palette i) =
      own (palette_head + 4 * i.count) (ap (λ x. x.block.place) i.entry) (ap (λ x. x.block.owned) i.entry) (omega (arith, i.goes_on)) (omega arith)
      (omega (arith, i.present, i.goes_on)) (omega (arith, i.within, i.goes_on))
  leaf_owns (a_channel i) =
      own (channel_head + i.chunk.stored) (ap (λ x. x.block.place) i.entry) (ap (λ x. x.block.owned) i.entry) (omega (arith, i.goes_on)) (omega arith)
      (omega (arith, i.present, i.goes_on)) (omega (arith, i.within, i.goes_on))
  leaf_owns (a_skip i) =
      own (block_header_size + i.total) (ap (λ x. x.block.place) i.entry) (ap (λ x. x.block.owned) i.entry) (omega (arith, i.goes_on)) (omega arith)
      (omega (arith, i.present, i.goes_on)) (omega (arith, i.within, i.goes_on))

  -- whose inside is entered, by the bytes of its chunk
  opens :
      (size : ℕ) {total : ℕ} {e : Entry} {inside after : ℕ} → e.block.place ≡ at → e.block.owned ≡ block_header_size + size → 0 < levels
      → Inside s st at end levels size total inside after → Opens (length s) at end levels e inside after
  opens size p o deep i = record {
    owns =
        own (block_header_size + size) p o i.enters (omega arith) (omega (arith, i.present, i.enters))
        (omega (arith, i.within, i.order, i.enters));
    order = omega (arith, i.order, i.enters, i.ends);
    within = omega (arith, i.within, i.ends);
    deep = deep;
  }

  nest_opens : {e : Entry} {inside : ℕ} {q : State} {after : ℕ} → NestOf s st at end levels e inside q after → Opens (length s) at end levels e inside after
  nest_opens (a_bank i) = opens 0 (ap (λ x. x.block.place) i.entry) (ap (λ x. x.block.owned) i.entry) (omega (arith, i.top)) i.opens
  nest_opens (a_layer i) =
      opens layer_size (ap (λ x. x.block.place) i.entry) (ap (λ x. x.block.owned) i.entry) (omega (arith, i.in_bank)) i.opens
  nest_opens (a_selection i) =
      opens selection_size (ap (λ x. x.block.place) i.entry) (ap (λ x. x.block.owned) i.entry) (omega (arith, i.top)) i.opens
  nest_opens (an_alpha_bank i) =
      opens alpha_bank_size (ap (λ x. x.block.place) i.entry) (ap (λ x. x.block.owned) i.entry) (omega (arith, i.top)) i.opens
  nest_opens (an_alpha i) =
      opens alpha_size (ap (λ x. x.block.place) i.entry) (ap (λ x. x.block.owned) i.entry) (omega (arith, i.in_bank)) i.opens

  moved : {k : Step State} → Stepped s st at end levels k → Moves (length s) main at end levels k
  moved (accepted top here all) = ends (record { inside = λ z. absurd (omega arith); whole = λ _. here })
  moved (ended inner here all) = ends (record { inside = λ _. here; whole = λ z. absurd (inner z) })
  moved (stopped h other) = stops h
  moved (named {offset} f) = let low : at ≤ at + block_header_size + offset = omega arith in stops low
  moved (leafed h l) = leaf (leaf_owns l)
  moved (nested h n) = nest (nest_opens n)

pub moves : (s : List ℕ) → MovesOn main (length s) (step_at s)
moves s st at end levels order low = moved s st at end levels (stepped s st at end levels low)

-- ### A block waits for its own bytes, and for no more

module _ (s t : List ℕ) (st : State) (at end levels level : ℕ) where
  abbrev W : Step State → Step State → Type 0
  W = Waits (length s) main levels

  -- an entry reaches behind the bytes that are read for it
  past : {k : Step State} → Reads Unread (length s) k → Beyond (length s) main levels k
  past {k} = reads_past Unread main levels (length s) k

  palette_waits : (total : ℕ) → W (palette_block s st total at level) (palette_block (s ++ t) st total at level)
  unfolding palette_block palette_counted
  palette_waits total =
      unit_waits main levels s t (at + block_header_size) palette_size _ _ (λ short xs. past (palette_reads (s ++ t) st at level (length s) (omega arith) total _)) (λ xs.
      permitted_ind₂ W _ _ _ _ (λ _. stays _) (pick_ind₂ W _ _ _ _ _
      (λ _. unit_waits main levels s t (at + palette_head) _ _ _ (λ short _. leaf_past short) (λ _. stays _))
      (λ _. stays _)))

  channel_waits : (parent : Parent) (total : ℕ) → W (channel_block s st parent total at level) (channel_block (s ++ t) st parent total at level)
  unfolding channel_block channel_coded channel_sized
  channel_waits parent total =
      unit_waits main levels s t (at + block_header_size) channel_size _ _ (λ short xs. past (channel_reads (s ++ t) st at level (length s) (omega arith) parent total _)) (λ xs.
      pick_ind₂ W _ _ _ _ _
      (λ _. permitted_ind₂ W _ _ _ _ (λ _. stays _) (pick_ind₂ W _ _ _ _ _
      (λ _. permitted_ind₂ W _ _ _ _ (λ _. stays _) (unit_waits main levels s t (at + channel_head) _ _ _ (λ short _. leaf_past short) (λ _. stays _)))
      (λ _. stays _)))
      (λ _. stays _))

  skip_waits : (h : BlockHeader) → W (skip_block s st h.id h.total at level) (skip_block (s ++ t) st h.id h.total at level)
  unfolding skip_block
  skip_waits h = unit_waits main levels s t (at + block_header_size) h.total _ _ (λ short _. leaf_past short) (λ _. stays _)

  nest_block_waits :
      (total size : ℕ) (fault : List ℕ → Option ℕ) (e : Entry) (q : List ℕ → State) → W (nest_block s total at size fault e q) (nest_block (s ++ t) total at size fault e q)
  nest_block_waits total size fault e q =
      unit_waits main levels s t (at + block_header_size) size _ _
      (λ short xs. let far : length s < at + (block_header_size + size) = omega arith in permitted_ind (Beyond (length s) main levels) _ _ _ (λ _ _. refused) (λ _. nest_past far))
      (λ _. stays _)

  kind_waits : (parent : Parent) (h : BlockHeader) → W (kind_of s st parent h at level) (kind_of (s ++ t) st parent h at level)
  unfolding kind_of image_block layer_block selection_block alpha_bank_block alpha_block
  kind_waits parent h =
      pick_ind₂ W _ _ _ _ _
      (λ _. unit_waits main levels s t (at + block_header_size) image_size _ _ (λ short xs. past (image_reads s st at level (length s) (omega arith) _)) (λ _. stays _)) (λ _.
      pick_ind₂ W _ _ _ _ _ (λ _. palette_waits h.total) (λ _.
      pick_ind₂ W _ _ _ _ _ (λ _. stays _) (λ _.
      pick_ind₂ W _ _ _ _ _ (λ _. nest_block_waits h.total layer_size _ _ _) (λ _.
      pick_ind₂ W _ _ _ _ _ (λ _. nest_block_waits h.total selection_size _ _ _) (λ _.
      pick_ind₂ W _ _ _ _ _ (λ _. nest_block_waits h.total alpha_bank_size _ _ _) (λ _.
      pick_ind₂ W _ _ _ _ _ (λ _. nest_block_waits h.total alpha_size _ _ _) (λ _.
      channel_waits parent h.total)))))))

  placed_waits : (parent : Parent) (h : BlockHeader) (a : Placing) → W (placed_of s st parent h a at end level) (placed_of (s ++ t) st parent h a at end level)
  unfolding placed_of
  placed_waits parent h Refuse = stays _
  placed_waits parent h Enter = pick_ind₂ W _ _ _ _ _ (λ _. stays _) (λ _. pick_ind₂ W _ _ _ _ _ (λ _. kind_waits parent h) (λ _. stays _))
  placed_waits parent h Skip = pick_ind₂ W _ _ _ _ _ (λ _. skip_waits h) (λ _. stays _)

-- a step k on more input, which is the block there where the header was present already
block_waits :
    (s t : List ℕ) (st : State) (at end levels : ℕ) (k : Step State) → (length s < at + block_header_size → Beyond (length s) main levels k)
    → (at + block_header_size ≤ length s → k ≡ block_at (s ++ t) st at end levels) → Waits (length s) main levels (block_at s st at end levels) k
unfolding block_at
block_waits s t st at end levels k past is =
    unit_waits_to main levels s t at block_header_size _ _ k past
    (λ xs. pick_ind₂ (Waits (length s) main levels) _ _ _ _ _ (λ _. placed_waits s t st at end levels (level_of levels) _ _ _) (λ _. stays _)) is

waiting : (s t : List ℕ) → WaitsOn main (length s) (step_at s) (step_at (s ++ t))
unfolding step_at
waiting s t st at end levels order low =
    let W = Waits (length s) main levels in
    let B = Beyond (length s) main levels in
    let beyond : length s < at + block_header_size → B (block_at (s ++ t) st at end levels) =
    λ short. reads_past Unread main levels (length s) _ (block_reads (s ++ t) st at end levels (length s) short) in
    pick_ind₂ W _ _ _ _ _
    (λ top.
    let is = eqb-true levels main top in
    let further : length s < at + block_header_size → B _ =
    λ short. pick_ind B (eqb at (length (s ++ t))) _ _ (λ _. pick_ind B _ _ _ (λ _. last_end is) (λ _. refused)) (λ _. beyond short) in
    pick_left W _ _ _ _
    (λ here. pick_left W _ _ _ _
    (λ _. waits (last is) (further (omega (arith, eqb-true at (length s) here))))
    (λ _. waits soon (further (omega (arith, eqb-true at (length s) here)))))
    (λ _. block_waits s t st at end levels _ further
    (λ header. pick_no _ _ _ (ne_eqb at (length (s ++ t)) (λ z. absurd (omega (arith, length-append s t)))))))
    (λ _. pick_ind₂ W _ _ _ _ _ (λ _. stays _) (λ _.
    pick_ind₂ W _ _ _ _ _ (λ _. stays _) (λ _. block_waits s t st at end levels _ beyond (λ _. refl))))

pub prompt : Prompt main step_at
prompt = record { waiting = waiting }

pub rules : Rules main step_at
rules = record { nested = omega arith; moves = moves; keeps = λ s t st at end levels order low. waits_keeps (waiting s t st at end levels order low) }
