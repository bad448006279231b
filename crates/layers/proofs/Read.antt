-- What a layer and a channel read: a layer its header and its chunk behind the name, a channel its header and its chunk; and how long the
-- input is.
use mathlib.Core.Path.{◌≡◌, refl, ap}
use mathlib.Core.List.{List}
use Prim.Native.Nat.{ℕ, ◌+◌, ◌<◌}
use native.Mathlib.Omega.{arith}
use lib.Dec.{eqb}
use lib.ListN.{length, drop}
use Rattle.laws.specs.Choice.{pick}
use Rattle.laws.proofs.Choice.{pick_ind}
use Rattle.laws.proofs.Tests.{never}
use Rattle.endian.proofs.Front.{number_behind}
use Rattle.rect.specs.declared.planes.Shape.{Shape}
use Rattle.answer.specs.declared.Refusal.TheVariants.{WrongLength, NotExpected}
use Rattle.walk.specs.Walk.{Step, Stop}
use Rattle.walk.specs.Owed.{Reads}
use Rattle.walk.proofs.Unit.{unit_ind, Depends, unit_depends, unit_unread}
use Rattle.headers.specs.BlockHeader.{block_header_size}
use Rattle.chunk.specs.declared.channel_information.ChannelChunk.{ChannelChunk}
use Rattle.chunk.specs.ChannelInformation.{channel_size, channel_of, codes_fault, plane_fault}
use Rattle.chunk.specs.Heads.{channel_head}
use Rattle.chunk.specs.LayerInformation.{layer_size, layer_of, layer_fault}
use Rattle.chunk.proofs.BehindName.{area_behind, layer_fault_behind}
use Rattle.memory.specs.declared.parent.Parent.{Parent}
use Rattle.memory.specs.declared.state.State.{State}
use Rattle.memory.specs.State.{with_layer, shape_for}
use Rattle.kinds.specs.Blocks.{permitted}
use Rattle.kinds.specs.Unread.{name_size, Unread}
use Rattle.kinds.proofs.Judging.{permitted_ind}
use Rattle.kinds.proofs.Read.{clear, name_clear, nest_reads, nest_depends}
use Rattle.layers.specs.Layers.{is_awaited, layer_block, channel_sized, channel_coded, channel_judged, channel_block}

module _ (s : List ℕ) (st : State) (at level i : ℕ) where
  abbrev R : Step State → Type 0
  R = Reads Unread i

  pub layer_reads : i < at + block_header_size → (total : ℕ) → R (layer_block s st total at level)
  unfolding layer_block
  layer_reads near total =
      nest_reads s st at level i total layer_size _ _ _ (omega arith) (name_clear refl (λ n. omega (arith, n.low)))

  pub channel_reads : i < at + channel_head → (parent : Parent) (total : ℕ) (c : ChannelChunk) → R (channel_judged s st parent total at level c)
  unfolding channel_coded channel_sized
  channel_reads near parent total c =
      let inside : i < at + channel_head + c.stored = omega arith in
      pick_ind R _ _ _
      (λ _. permitted_ind R _ _ _ (λ _ _. tt) (λ _. pick_ind R _ _ _
      (λ _. permitted_ind R _ _ _ (λ _ _. tt) (λ _.
      unit_ind R s (at + channel_head) c.stored _ (λ _. tt) (λ _. (inside, clear (λ n. never n.kind) (λ _. near)))))
      (λ _. tt)))
      (λ _. tt)

module _ (s s' : List ℕ) (same : length s ≡ length s') (st : State) (at level : ℕ) where
  abbrev D : Step State → Step State → Type 0
  D = Depends Unread s s' same at

  -- the name has no say
  taken :
      (xs ys : List ℕ) → drop name_size xs ≡ drop name_size ys
      → (layer_fault st.image.depth (layer_of xs) ≡ layer_fault st.image.depth (layer_of ys)) × (with_layer (layer_of xs) st ≡ with_layer (layer_of ys) st)
  unfolding layer_of
  taken xs ys alike = (
    layer_fault_behind xs ys alike st.image.depth,
    rw (
      area_behind name_size xs ys alike 257 (omega arith),
      area_behind name_size xs ys alike 294 (omega arith),
      number_behind xs ys 2 373 name_size (omega arith) alike,
    ) refl,
  )

  pub layer_depends : (total : ℕ) → D (layer_block s st total at level) (layer_block s' st total at level)
  unfolding layer_block
  layer_depends total =
      nest_depends s s' same st at level name_size total layer_size _ _ _
      (λ i from. name_clear refl (λ n. omega (arith, n.high))) taken

  -- the content only has to be there
  sized_alike : (c : ChannelChunk) (shape : Shape) → channel_sized s st at level c shape ≡ channel_sized s' st at level c shape
  unfolding channel_sized
  sized_alike c shape =
      ap (permitted (plane_fault shape c) (at + block_header_size)) (unit_unread s s' same (at + channel_head) c.stored _)

  judged_alike :
      (parent : Parent) (total : ℕ) (c : ChannelChunk) → channel_judged s st parent total at level c ≡ channel_judged s' st parent total at level c
  unfolding channel_coded
  judged_alike parent total c =
      ap (λ k. pick (eqb total (channel_size + c.stored)) (permitted (codes_fault c) (at + block_header_size) (pick (is_awaited st parent c) k (Stop NotExpected at))) (Stop WrongLength at))
      (sized_alike c (shape_for st.current st.image.depth c.bitmap))

  pub channel_depends : (parent : Parent) (total : ℕ) → D (channel_block s st parent total at level) (channel_block s' st parent total at level)
  unfolding channel_block
  channel_depends parent total =
      unit_depends Unread s s' same at (at + block_header_size) channel_size _ _ (omega arith)
      (λ xs i from to. channel_reads s st at level i (omega arith) parent total (channel_of xs)) (λ xs _. judged_alike parent total (channel_of xs))
