-- What a selection, an alpha bank and an alpha channel read: their header and their chunk, an alpha channel's behind the name; and how long
-- the input is.
use mathlib.Core.Path.{◌≡◌, refl, ap}
use mathlib.Core.List.{List}
use Prim.Native.Nat.{ℕ, ◌+◌, ◌<◌}
use native.Mathlib.Omega.{arith}
use lib.ListN.{length, drop}
use Rattle.laws.proofs.Tests.{never}
use Rattle.walk.specs.Walk.{Step}
use Rattle.walk.specs.Owed.{Reads}
use Rattle.walk.proofs.Unit.{Depends}
use Rattle.headers.specs.BlockHeader.{block_header_size}
use Rattle.chunk.specs.declared.mask.Mask.{Mask}
use Rattle.chunk.specs.AlphaBankInformation.{alpha_bank_size, alpha_bank_of}
use Rattle.chunk.specs.AlphaInformation.{alpha_size, alpha_of, alpha_fault}
use Rattle.chunk.specs.Mask.{mask_fault}
use Rattle.chunk.specs.SelectionInformation.{selection_size, selection_of, selection_fault}
use Rattle.chunk.proofs.BehindName.{mask_behind}
use Rattle.memory.specs.declared.state.State.{State}
use Rattle.memory.specs.State.{with_selection, with_alpha_bank, with_alpha, with_member, mask_by}
use Rattle.kinds.specs.Unread.{name_size, Unread}
use Rattle.kinds.proofs.Read.{name_clear, nest_reads, nest_depends}
use Rattle.masks.specs.Masks.{selection_block, alpha_bank_block, alpha_block}

module _ (s : List ℕ) (st : State) (at level i : ℕ) (near : i < at + block_header_size) (total : ℕ) where
  pub selection_reads : Reads Unread i (selection_block s st total at level)
  unfolding selection_block
  selection_reads =
      nest_reads s st at level i total selection_size _ _ _ (omega arith) (name_clear refl (λ n. never n.kind))

  pub alpha_bank_reads : Reads Unread i (alpha_bank_block s st total at level)
  unfolding alpha_bank_block
  alpha_bank_reads =
      nest_reads s st at level i total alpha_bank_size _ _ _ (omega arith) (name_clear refl (λ n. never n.kind))

  pub alpha_reads : Reads Unread i (alpha_block s st total at level)
  unfolding alpha_block
  alpha_reads =
      nest_reads s st at level i total alpha_size _ _ _ (omega arith) (name_clear refl (λ n. omega (arith, n.low)))

module _ (s s' : List ℕ) (same : length s ≡ length s') (st : State) (at level total : ℕ) where
  abbrev D : Step State → Step State → Type 0
  D = Depends Unread s s' same at

  pub selection_depends : D (selection_block s st total at level) (selection_block s' st total at level)
  unfolding selection_block
  selection_depends =
      nest_depends s s' same st at level 0 total selection_size _ _ _ (λ i from. name_clear refl (λ n. never n.kind))
      (λ xs ys alike. (ap (λ (b : List ℕ). selection_fault (selection_of b)) alike, ap (λ (b : List ℕ). with_selection (selection_of b) st) alike))

  pub alpha_bank_depends : D (alpha_bank_block s st total at level) (alpha_bank_block s' st total at level)
  unfolding alpha_bank_block
  alpha_bank_depends =
      nest_depends s s' same st at level 0 total alpha_bank_size _ _ _ (λ i from. name_clear refl (λ n. never n.kind))
      (λ xs ys alike. (refl, ap (λ (b : List ℕ). with_alpha_bank (alpha_bank_of b) st) alike))

  -- the name has no say
  taken :
      (xs ys : List ℕ) → drop name_size xs ≡ drop name_size ys
      → (alpha_fault (alpha_of xs) ≡ alpha_fault (alpha_of ys)) × (with_alpha (alpha_of xs) st ≡ with_alpha (alpha_of ys) st)
  unfolding alpha_of
  taken xs ys alike =
      let mask = mask_behind name_size xs ys alike name_size (omega arith) in
      (ap (mask_fault name_size) mask, ap (λ (c : Mask). with_member (mask_by c st.members.found) st) mask)

  pub alpha_depends : D (alpha_block s st total at level) (alpha_block s' st total at level)
  unfolding alpha_block
  alpha_depends =
      nest_depends s s' same st at level name_size total alpha_size _ _ _
      (λ i from. name_clear refl (λ n. omega (arith, n.high))) taken
