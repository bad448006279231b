-- What a block of the main level reads: its header, its chunk's fields, and how long the input is. So it is the same on any input of that
-- length that shares these bytes; and an entry reaches behind what was read for it, which is why it waits for its own bytes.
use mathlib.Core.Path.{◌≡◌, refl, ap, ap₂}
use mathlib.Core.List.{List}
use Prim.Native.Nat.{ℕ, ◌+◌, ◌*◌, ◌≤◌, ◌<◌}
use native.Mathlib.Omega.{arith}
use lib.Dec.{eqb}
use lib.ListN.{length, drop}
use Rattle.std.specs.Prelude.{Option}
use Rattle.laws.specs.Choice.{pick}
use Rattle.laws.proofs.Choice.{pick_ind}
use Rattle.laws.proofs.Tests.{never}
use Rattle.answer.specs.declared.Refusal.TheVariants.{WrongLength}
use Rattle.entry.specs.declared.Entry.{Entry}
use Rattle.walk.specs.Walk.{Step, Stop, Nest}
use Rattle.walk.specs.Owed.{Reads}
use Rattle.walk.proofs.Unit.{unit_ind, Depends, unit_depends, unit_depends_from, unit_unread}
use Rattle.headers.specs.BlockHeader.{block_header_size}
use Rattle.attributes.specs.declared.image_attributes.ImageChunk.{ImageChunk}
use Rattle.attributes.specs.ImageAttributes.{image_size, image_of}
use Rattle.chunk.specs.declared.color_palette.PaletteChunk.{PaletteChunk}
use Rattle.chunk.specs.ColorPalette.{palette_size, palette_fault, palette_of}
use Rattle.chunk.specs.Heads.{image_head, palette_head}
use Rattle.memory.specs.declared.state.State.{State}
use Rattle.kinds.specs.Blocks.{permitted, nest_block, image_judged, image_block, palette_counted, palette_judged, palette_block, bank_block, skip_block}
use Rattle.kinds.specs.Unread.{InName, Unread, stored, named}
use Rattle.kinds.proofs.Judging.{permitted_ind}

-- ### A byte that is read

-- one in no name, and in front of all that is stored
pub clear : {e : Entry} {i : ℕ} → (InName e i → ⊥) → (0 < e.content.stored → i < e.content.start) → Unread e i → ⊥
clear nameless before (stored c) = let some = before (omega (arith, c.low, c.high)) in omega (arith, c.low)
clear nameless before (named n) = nameless n

-- the entry stores nothing
pub name_clear : {e : Entry} {i : ℕ} → e.content.stored ≡ 0 → (InName e i → ⊥) → Unread e i → ⊥
name_clear none nameless = clear nameless (λ some. absurd (omega arith))

-- by what a kind of block is made of, whatever it comes to
module _ (s : List ℕ) (st : State) (at level i : ℕ) where
  abbrev R : Step State → Type 0
  R = Reads Unread i

  pub image_reads : i < at + image_head → (c : ImageChunk) → R (image_judged st at level c)
  image_reads near c =
      permitted_ind R _ _ _ (λ _ _. tt) (λ _. pick_ind R _ _ _ (λ _. tt) (λ _. (near, name_clear refl (λ n. never n.kind))))

  pub palette_reads : i < at + palette_head → (total : ℕ) (c : PaletteChunk) → R (palette_judged s st total at level c)
  unfolding palette_counted
  palette_reads near total c =
      let inside : i < at + palette_head + 4 * c.count = omega arith in
      permitted_ind R _ _ _ (λ _ _. tt) (λ _.
      pick_ind R _ _ _ (λ _. unit_ind R s (at + palette_head) (4 * c.count) _ (λ _. tt) (λ _. (inside, clear (λ n. never n.kind) (λ _. near)))) (λ _. tt))

  pub bank_reads : i < at + block_header_size → (total : ℕ) → R (bank_block st total at level)
  unfolding bank_block
  bank_reads near total = (near, name_clear refl (λ n. never n.kind))

  pub skip_reads : i < at + block_header_size → (id total : ℕ) → R (skip_block s st id total at level)
  unfolding skip_block
  skip_reads near id total =
      let inside : i < at + block_header_size + total = omega arith in
      unit_ind R s (at + block_header_size) total _ (λ _. tt) (λ _. (inside, clear (λ n. never n.kind) (λ _. near)))

  -- one that is entered behind its chunk, by what is unread of its entry
  pub nest_judged_reads :
      (total size : ℕ) (fault : Option ℕ) (e : Entry) (q : State) → i < at + (block_header_size + size) → (Unread e i → ⊥)
      → R (permitted fault (at + block_header_size) (Nest e (at + (block_header_size + size)) q (at + block_header_size + total)))
  nest_judged_reads total size fault e q near other = permitted_ind R _ _ _ (λ _ _. tt) (λ _. (near, other))

  pub nest_reads :
      (total size : ℕ) (fault : List ℕ → Option ℕ) (e : Entry) (q : List ℕ → State) → i < at + (block_header_size + size) → (Unread e i → ⊥)
      → R (nest_block s total at size fault e q)
  nest_reads total size fault e q near other =
      unit_ind R s (at + block_header_size) size _ (λ _. tt) (λ _. nest_judged_reads total size (fault _) e (q _) near other)

-- ### The same on two inputs of one length

module _ (s s' : List ℕ) (same : length s ≡ length s') (st : State) (at level : ℕ) where
  abbrev D : Step State → Step State → Type 0
  D = Depends Unread s s' same at

  pub image_depends : D (image_block s st at level) (image_block s' st at level)
  unfolding image_block
  image_depends =
      unit_depends Unread s s' same at (at + block_header_size) image_size _ _ (omega arith)
      (λ xs i from to. image_reads s st at level i (omega arith) (image_of xs)) (λ _ _. refl)

  -- the colours only have to be there
  counted_alike : (total n : ℕ) → palette_counted s st total at level n ≡ palette_counted s' st total at level n
  unfolding palette_counted
  counted_alike total n =
      ap (λ k. pick (eqb total (palette_size + 4 * n)) k (Stop WrongLength at)) (unit_unread s s' same (at + palette_head) (4 * n) _)

  pub palette_depends : (total : ℕ) → D (palette_block s st total at level) (palette_block s' st total at level)
  unfolding palette_block
  palette_depends total =
      unit_depends Unread s s' same at (at + block_header_size) palette_size _ _ (omega arith)
      (λ xs i from to. palette_reads s st at level i (omega arith) total (palette_of xs))
      (λ xs _. ap (permitted (palette_fault st.image.depth (palette_of xs)) (at + block_header_size)) (counted_alike total (palette_of xs).count))

  pub skip_alike : (id total : ℕ) → skip_block s st id total at level ≡ skip_block s' st id total at level
  unfolding skip_block
  skip_alike id total = unit_unread s s' same (at + block_header_size) total _

  -- the first m bytes of the chunk have no say in what is taken from it
  pub nest_depends :
      (m total size : ℕ) (fault : List ℕ → Option ℕ) (e : Entry) (q : List ℕ → State)
      → ((i : ℕ) → at + block_header_size + m ≤ i → Unread e i → ⊥)
      → ((xs ys : List ℕ) → drop m xs ≡ drop m ys → (fault xs ≡ fault ys) × (q xs ≡ q ys))
      → D (nest_block s total at size fault e q) (nest_block s' total at size fault e q)
  nest_depends m total size fault e q other alike =
      unit_depends_from Unread s s' same at m (at + block_header_size) size _ _ (omega arith)
      (λ xs i from to. nest_judged_reads s st at level i total size (fault xs) e (q xs) (omega arith) (other i from))
      (λ xs ys is _. let a = alike xs ys is in
      ap₂ (λ (f : Option ℕ) (x : State). permitted f (at + block_header_size) (Nest e (at + (block_header_size + size)) x (at + block_header_size + total))) a.0 a.1)
