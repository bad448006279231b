-- What a step reads: the input's length, its block's header, and its chunk's fields. What a block comes to is known by its header and its kind,
-- whatever else the input holds; on another input of that length that shares what the step reads it is the same.
use mathlib.Core.Path.{◌≡◌, refl, subst}
use mathlib.Core.List.{List}
use Prim.Native.Nat.{ℕ, ◌+◌, ◌<◌}
use native.Mathlib.Omega.{arith}
use lib.Dec.{eqb}
use lib.ListN.{length}
use Rattle.laws.specs.Choice.{pick}
use Rattle.laws.proofs.Choice.{pick_ind, pick_ind₂}
use Rattle.walk.specs.Walk.{Step}
use Rattle.walk.specs.Owed.{Reads, Blind}
use Rattle.walk.proofs.Unit.{unit_ind, Depends, unit_depends}
use Rattle.headers.specs.declared.block_header.BlockHeader.{BlockHeader}
use Rattle.headers.specs.BlockHeader.{block_header_size, block_header_of}
use Rattle.attributes.specs.ImageAttributes.{image_size}
use Rattle.chunk.specs.ChannelInformation.{channel_size}
use Rattle.chunk.specs.ColorPalette.{palette_size}
use Rattle.memory.specs.declared.parent.Parent.{Parent}
use Rattle.memory.specs.declared.places.Placing.{Placing}
use Rattle.memory.specs.declared.places.Placing.TheVariants.{Refuse, Enter, Skip}
use Rattle.memory.specs.declared.state.State.{State}
use Rattle.memory.specs.Parent.{level_of}
use Rattle.kinds.specs.Blocks.{image_block, palette_block}
use Rattle.kinds.specs.Unread.{Unread}
use Rattle.kinds.proofs.Read.{image_reads, palette_reads, bank_reads, skip_reads, image_depends, palette_depends, skip_alike}
use Rattle.layers.specs.Layers.{channel_block}
use Rattle.layers.proofs.Read.{layer_reads, channel_reads, layer_depends, channel_depends}
use Rattle.masks.proofs.Read.{selection_reads, alpha_bank_reads, alpha_reads, selection_depends, alpha_bank_depends, alpha_depends}
use Rattle.block.specs.Step.{kind_of, placed_of, block_at, step_at}

-- ### The header is read, whatever the block comes to

module _ (s : List ℕ) (st : State) (at level i : ℕ) (near : i < at + block_header_size) where
  abbrev R : Step State → Type 0
  R = Reads Unread i

  kind_reads : (parent : Parent) (h : BlockHeader) → R (kind_of s st parent h at level)
  unfolding kind_of image_block palette_block channel_block
  kind_reads parent h =
      let within : (n : ℕ) → i < at + (block_header_size + n) = λ n. omega arith in
      pick_ind R _ _ _ (λ _. unit_ind R s (at + block_header_size) image_size _ (λ _. tt) (λ _. image_reads s st at level i (within image_size) _)) (λ _.
      pick_ind R _ _ _ (λ _. unit_ind R s (at + block_header_size) palette_size _ (λ _. tt) (λ _. palette_reads s st at level i (within palette_size) h.total _)) (λ _.
      pick_ind R _ _ _ (λ _. bank_reads s st at level i near h.total) (λ _.
      pick_ind R _ _ _ (λ _. layer_reads s st at level i near h.total) (λ _.
      pick_ind R _ _ _ (λ _. selection_reads s st at level i near h.total) (λ _.
      pick_ind R _ _ _ (λ _. alpha_bank_reads s st at level i near h.total) (λ _.
      pick_ind R _ _ _ (λ _. alpha_reads s st at level i near h.total) (λ _.
      unit_ind R s (at + block_header_size) channel_size _ (λ _. tt) (λ _. channel_reads s st at level i (within channel_size) parent h.total _))))))))

  placed_reads : (parent : Parent) (h : BlockHeader) (end : ℕ) (a : Placing) → R (placed_of s st parent h a at end level)
  unfolding placed_of
  placed_reads parent h end Refuse = tt
  placed_reads parent h end Enter = pick_ind R _ _ _ (λ _. tt) (λ _. pick_ind R _ _ _ (λ _. kind_reads parent h) (λ _. tt))
  placed_reads parent h end Skip = pick_ind R _ _ _ (λ _. skip_reads s st at level i near h.id h.total) (λ _. tt)

pub block_reads : (s : List ℕ) (st : State) (at end levels i : ℕ) → i < at + block_header_size → Reads Unread i (block_at s st at end levels)
unfolding block_at
block_reads s st at end levels i near =
    let R = Reads Unread i in
    unit_ind R s at block_header_size _ (λ _. tt) (λ _. pick_ind R _ _ _ (λ _. placed_reads s st at (level_of levels) i near _ _ end _) (λ _. tt))

-- ### The same on two inputs of one length

module _ (s s' : List ℕ) (same : length s ≡ length s') (st : State) (at : ℕ) where
  abbrev D : Step State → Step State → Type 0
  D = Depends Unread s s' same at

  kind_depends : (level : ℕ) (parent : Parent) (h : BlockHeader) → D (kind_of s st parent h at level) (kind_of s' st parent h at level)
  unfolding kind_of
  kind_depends level parent h =
      pick_ind₂ D _ _ _ _ _ (λ _. image_depends s s' same st at level) (λ _.
      pick_ind₂ D _ _ _ _ _ (λ _. palette_depends s s' same st at level h.total) (λ _.
      pick_ind₂ D _ _ _ _ _ (λ _ _. refl) (λ _.
      pick_ind₂ D _ _ _ _ _ (λ _. layer_depends s s' same st at level h.total) (λ _.
      pick_ind₂ D _ _ _ _ _ (λ _. selection_depends s s' same st at level h.total) (λ _.
      pick_ind₂ D _ _ _ _ _ (λ _. alpha_bank_depends s s' same st at level h.total) (λ _.
      pick_ind₂ D _ _ _ _ _ (λ _. alpha_depends s s' same st at level h.total) (λ _.
      channel_depends s s' same st at level parent h.total)))))))

  placed_depends :
      (end level : ℕ) (parent : Parent) (h : BlockHeader) (a : Placing) → D (placed_of s st parent h a at end level) (placed_of s' st parent h a at end level)
  unfolding placed_of
  placed_depends end level parent h Refuse = λ _. refl
  placed_depends end level parent h Enter = pick_ind₂ D _ _ _ _ _ (λ _ _. refl) (λ _. pick_ind₂ D _ _ _ _ _ (λ _. kind_depends level parent h) (λ _ _. refl))
  placed_depends end level parent h Skip = pick_ind₂ D _ _ _ _ _ (λ _ _. skip_alike s s' same st at level h.id h.total) (λ _ _. refl)

  block_depends : (end levels : ℕ) → D (block_at s st at end levels) (block_at s' st at end levels)
  unfolding block_at
  block_depends end levels =
      unit_depends Unread s s' same at at block_header_size _ _ (omega arith)
      (λ xs i from to. pick_ind (Reads Unread i) _ _ _ (λ _. placed_reads s st at (level_of levels) i to _ (block_header_of xs) end _) (λ _. tt))
      (λ xs. pick_ind₂ D _ _ _ _ _ (λ _. placed_depends end (level_of levels) _ (block_header_of xs) _) (λ _ _. refl))

  -- at the main level the input may stop, with k
  main_depends :
      (end levels : ℕ) (k : Step State)
      → D (pick (eqb at (length s)) k (block_at s st at end levels)) (pick (eqb at (length s')) k (block_at s' st at end levels))
  main_depends end levels k =
      subst (λ (n : ℕ). D (pick (eqb at (length s)) k (block_at s st at end levels)) (pick (eqb at n) k (block_at s' st at end levels))) same
      (pick_ind₂ D _ _ _ _ _ (λ _ _. refl) (λ _. block_depends end levels))

  step_depends : (end levels : ℕ) → D (step_at s st at end levels) (step_at s' st at end levels)
  unfolding step_at
  step_depends end levels =
      pick_ind₂ D _ _ _ _ _
      (λ _. main_depends end levels _)
      (λ _. pick_ind₂ D _ _ _ _ _ (λ _ _. refl) (λ _. pick_ind₂ D _ _ _ _ _ (λ _ _. refl) (λ _. block_depends end levels)))

pub unread : Blind Unread step_at
unread = record { reads = λ s s' same st at end levels. step_depends s s' same st at end levels }
