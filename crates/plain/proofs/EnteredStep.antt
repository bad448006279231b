-- A block inside another that passes every test of its header is judged by its kind: what layers and channels that are plain have in common.
use mathlib.Core.Path.{◌≡◌, ap, ap₂, ◌∙◌}
use mathlib.Core.Bool.{Bool, true, false, ◌&&◌}
use mathlib.Core.List.{List}
use Prim.Native.Nat.{ℕ, ◌+◌, ◌-◌, ◌≤◌}
use native.Mathlib.Omega.{arith}
use borrow.Author.Tests.{ne_eqb, le-leb, le-ltb}
use lib.ListN.{length}
use Rattle.laws.proofs.Choice.{pick_yes, pick_no}
use Rattle.walk.proofs.Unit.{unit_there}
use Rattle.headers.specs.declared.block_header.BlockHeader.{BlockHeader}
use Rattle.headers.specs.BlockHeader.{block_header_size, block_header_at, is_marked}
use Rattle.memory.specs.declared.parent.Parent.{Parent}
use Rattle.memory.specs.declared.places.Placing.{Placing}
use Rattle.memory.specs.declared.places.Placing.TheVariants.{Enter}
use Rattle.memory.specs.declared.state.State.{State}
use Rattle.memory.specs.Parent.{main, level_of, parent_at}
use Rattle.memory.specs.Place.{place_of}
use Rattle.memory.specs.State.{is_surplus}
use Rattle.block.specs.Step.{are_lengths, is_inside, kind_of, placed_of, block_at, step_at}

-- marked, where such a block is entered, announced, and of good lengths
pub record Entered (s : List ℕ) (st : State) (at end : ℕ) (parent : Parent) : Type 0 where
  pub marked : is_marked (block_header_at s at) ≡ true
  pub enters : place_of st (block_header_at s at).id parent ≡ Enter
  pub announced : is_surplus st (block_header_at s at).id ≡ false
  pub lengths : are_lengths (block_header_at s at) ≡ true
  pub there : at + block_header_size ≤ length s
  pub inside : at + block_header_size + (block_header_at s at).total ≤ end

module _ (s : List ℕ) (st : State) (at end levels : ℕ) (parent : Parent) (p : Entered s st at end parent) where
  abbrev h : BlockHeader
  h = block_header_at s at

  abbrev judged : Parent → Placing → Type 0
  judged by x = placed_of s st by h x at end (level_of levels) ≡ kind_of s st parent h at (level_of levels)

  good : (are_lengths h && is_inside h at end) ≡ true
  good = ap₂ (λ (a b : Bool). a && b) p.lengths (le-leb (at + block_header_size + h.total) end p.inside)

  in_place : judged parent Enter
  unfolding placed_of
  in_place = pick_no _ _ _ p.announced ∙ pick_yes _ _ _ good

  at_block : parent_at st.opened levels ≡ parent → block_at s st at end levels ≡ kind_of s st parent h at (level_of levels)
  unfolding block_at
  at_block held =
      unit_there s at block_header_size _ p.there
      ∙ pick_yes _ _ _ p.marked
      ∙ ap (λ (by : Parent). placed_of s st by h (place_of st h.id by) at end (level_of levels)) held
      ∙ ap (λ (x : Placing). placed_of s st parent h x at end (level_of levels)) p.enters
      ∙ in_place

  pub entered_steps : (levels ≡ main → ⊥) → parent_at st.opened levels ≡ parent → step_at s st at end levels ≡ kind_of s st parent h at (level_of levels)
  unfolding step_at
  entered_steps inner held =
      pick_no _ _ _ (ne_eqb levels main inner)
      ∙ pick_no _ _ _ (ne_eqb at end (λ (e : at ≡ end). omega (arith, p.inside)))
      ∙ pick_no _ _ _ (le-ltb (end - at) block_header_size (omega (arith, p.inside)))
      ∙ at_block held
