-- What the rule says of a place where a plain skipped block stands: that it is skipped, in whatever state behind the image.
use mathlib.Core.Path.{◌≡◌, refl, sym, ap, subst, subst⁻¹, ◌∙◌}
use mathlib.Core.Bool.{true, false, ◌&&◌, ◌||◌}
use mathlib.Core.List.{List}
use Prim.Native.Nat.{ℕ, ◌+◌, ◌-◌, ◌≤◌, ◌<◌}
use native.Mathlib.Omega.{arith}
use borrow.Author.Tests.{eqb-true, eqb-false, ne_eqb, leb-true, le-leb, le-ltb, not-true}
use lib.Dec.{eqb, leb}
use lib.ListN.{length}
use Rattle.laws.specs.Choice.{pick}
use Rattle.laws.proofs.Choice.{pick_yes, pick_no, pick_ind}
use Rattle.laws.proofs.Tests.{both, either}
use Rattle.entry.specs.declared.Entry.{Entry}
use Rattle.entry.specs.Entry.{block, content, filled}
use Rattle.walk.specs.Walk.{Leaf}
use Rattle.walk.proofs.Unit.{unit_there}
use Rattle.headers.specs.declared.block_header.BlockHeader.{BlockHeader}
use Rattle.headers.specs.BlockHeader.{block_header_size, block_header_at, is_marked}
use Rattle.memory.specs.declared.parent.Parent.{Parent}
use Rattle.memory.specs.declared.parent.Parent.TheVariants.{Main}
use Rattle.memory.specs.declared.places.Placing.{Placing}
use Rattle.memory.specs.declared.places.Placing.TheVariants.{Skip}
use Rattle.memory.specs.declared.state.State.{State}
use Rattle.memory.specs.Parent.{main, level_of, parent_at}
use Rattle.memory.specs.Place.{grid_of, place_of}
use Rattle.memory.proofs.Placed.{Begun}
use Rattle.kinds.specs.Blocks.{Judged, skipped_by, skip_block}
use Rattle.block.specs.Step.{placed_of, block_at, step_at}
use Rattle.block.proofs.Stepped.{Stepped, leafed, LeafOf, an_image, a_palette, a_channel, a_skip, stepped}
use Rattle.plain.specs.Skips.{is_passable}

-- ### Which ids

-- of 1, 10 and 11 the main level knows no rule
module _ (st : State) (id : ℕ) (begun : Begun st) (free : (eqb id 1 || leb 10 id) ≡ true) where
  other : (n : ℕ) → (n ≡ 1 → ⊥) → n < 10 → eqb id n ≡ false
  other n ruled low =
      ne_eqb id n (λ (e : id ≡ n).
      either (eqb id 1) (leb 10 id) free (λ one. ruled (sym e ∙ eqb-true id 1 one)) (λ high. absurd (omega (arith, leb-true 10 id high))))

  free_placed : place_of st id Main ≡ Skip
  unfolding place_of grid_of pick
  free_placed =
      let e0 : eqb id 0 ≡ false = other 0 (λ e. omega arith) (omega arith) in
      let e2 : eqb id 2 ≡ false = other 2 (λ e. omega arith) (omega arith) in
      let e3 : eqb id 3 ≡ false = other 3 (λ e. omega arith) (omega arith) in
      let e4 : eqb id 4 ≡ false = other 4 (λ e. omega arith) (omega arith) in
      let e5 : eqb id 5 ≡ false = other 5 (λ e. omega arith) (omega arith) in
      let e6 : eqb id 6 ≡ false = other 6 (λ e. omega arith) (omega arith) in
      let e7 : eqb id 7 ≡ false = other 7 (λ e. omega arith) (omega arith) in
      let e8 : eqb id 8 ≡ false = other 8 (λ e. omega arith) (omega arith) in
      let e9 : eqb id 9 ≡ false = other 9 (λ e. omega arith) (omega arith) in
      pick_no _ _ _ (ne_eqb st.image.depth 0 begun)
      ∙ pick_ind (λ (p : Placing). p ≡ Skip) (leb 12 id) _ _ (λ _. refl) (λ _. simp (e0, e2, e3, e4, e5, e6, e7, e8, e9))

module _ (levels asked id : ℕ) (passable : is_passable levels asked id ≡ true) where
  passable_placed : (st : State) → Begun st → place_of st id (parent_at st.opened levels) ≡ Skip
  unfolding is_passable place_of parent_at
  passable_placed st begun =
      either (leb 12 id) _ passable
      (λ high. pick_no _ _ _ (ne_eqb st.image.depth 0 begun) ∙ pick_yes _ _ _ high)
      (λ low.
      let top = (both (eqb levels main && (eqb id 1 || leb 10 id)) _ low).0 in
      ap (λ (p : Parent). place_of st id p) (pick_yes _ _ _ (both (eqb levels main) _ top).0) ∙ free_placed st id begun (both (eqb levels main) _ top).1)

  -- a palette that is skipped was met all the same; no such id is its
  passable_kept : (st : State) → skipped_by id st ≡ st
  unfolding is_passable skipped_by
  passable_kept st =
      pick_no (eqb id 2) _ _ (ne_eqb id 2 (λ (two : id ≡ 2).
      either (leb 12 id) _ passable (λ high. omega (arith, leb-true 12 id high)) (λ low.
      either (eqb id 1) (leb 10 id) (both (eqb levels main) _ (both (eqb levels main && (eqb id 1 || leb 10 id)) _ low).0).1
      (λ one. omega (arith, eqb-true id 1 one)) (λ high. omega (arith, leb-true 10 id high)))))

  -- no entry that was passed is asked about, where the question's id is one that a rule knows
  pub passable_unasked : asked < 12 → id ≡ asked → ⊥
  unfolding is_passable
  passable_unasked known same =
      either (leb 12 id) _ passable (λ high. omega (arith, leb-true 12 id high)) (λ low.
      eqb-false id asked (not-true _ (both (eqb levels main && (eqb id 1 || leb 10 id)) _ low).1) same)

-- ### Its step

-- whole, marked, and of an id that is passable
pub record PlainSkip (s : List ℕ) (at end levels asked : ℕ) (h : BlockHeader) : Type 0 where
  pub marked : is_marked h ≡ true
  pub passable : is_passable levels asked h.id ≡ true
  pub there : at + block_header_size + h.total ≤ length s
  pub inside : at + block_header_size + h.total ≤ end

abbrev skip_entry : BlockHeader → ℕ → ℕ → Entry
skip_entry h level at = filled (block h.id 1 level at (block_header_size + h.total)) (content (at + block_header_size) h.total)

module _ (s : List ℕ) (st : State) (at end levels asked : ℕ) (begun : Begun st) where
  abbrev skipped : BlockHeader → Judged
  skipped h = Leaf (skip_entry h (level_of levels) at) (at + block_header_size + h.total) st

  module _ (p : PlainSkip s at end levels asked (block_header_at s at)) where
    abbrev h : BlockHeader
    h = block_header_at s at

    abbrev parent : Parent
    parent = parent_at st.opened levels

    passed : skip_block s st h.id h.total at (level_of levels) ≡ skipped h
    unfolding skip_block
    passed =
        unit_there s (at + block_header_size) h.total _ p.there
        ∙ ap (λ (q : State). Leaf (skip_entry h (level_of levels) at) (at + block_header_size + h.total) q)
        (passable_kept levels asked h.id p.passable st)

    at_block : block_at s st at end levels ≡ skipped h
    unfolding block_at placed_of
    at_block =
        unit_there s at block_header_size _ (omega (arith, p.there))
        ∙ pick_yes _ _ _ p.marked
        ∙ ap (λ (x : Placing). placed_of s st parent h x at end (level_of levels)) (passable_placed levels asked h.id p.passable st begun)
        ∙ pick_yes _ _ _ (le-leb _ end p.inside)
        ∙ passed

    at_place : step_at s st at end levels ≡ skipped h
    unfolding step_at
    at_place =
        pick_ind (λ (x : Judged). x ≡ skipped h) (eqb levels main) _ _
        (λ _. pick_no _ _ _ (ne_eqb at (length s) (λ (e : at ≡ length s). omega (arith, p.there))) ∙ at_block)
        (λ _.
        pick_no _ _ _ (ne_eqb at end (λ (e : at ≡ end). omega (arith, p.inside)))
        ∙ pick_no _ _ _ (le-ltb (end - at) block_header_size (omega (arith, p.inside)))
        ∙ at_block)

  -- as the code has it: by the header that was read there, and the entry that was made of it
  pub skip_steps :
      (h : BlockHeader) → h ≡ block_header_at s at → PlainSkip s at end levels asked h → (e : Entry) → e ≡ skip_entry h (level_of levels) at
      → step_at s st at end levels ≡ Leaf e (at + block_header_size + h.total) st
  skip_steps h is p e made =
      subst⁻¹ (λ (x : BlockHeader). PlainSkip s at end levels asked x → step_at s st at end levels ≡ skipped x) is at_place p
      ∙ ap (λ (y : Entry). Leaf y (at + block_header_size + h.total) st) (sym made)

-- ### What was skipped stands behind the image

skip_begun : (s : List ℕ) (st : State) (at end levels : ℕ) (e : Entry) (next : ℕ) (q : State) → LeafOf s st at end levels e next q → e.block.skipped ≡ 1 → Begun q
unfolding skipped_by
skip_begun s st at end levels e next q (an_image k) one = absurd (omega (arith, ap (λ (x : Entry). x.block.skipped) k.entry))
skip_begun s st at end levels e next q (a_palette k) one = absurd (omega (arith, ap (λ (x : Entry). x.block.skipped) k.entry))
skip_begun s st at end levels e next q (a_channel k) one = absurd (omega (arith, ap (λ (x : Entry). x.block.skipped) k.entry))
skip_begun s st at end levels e next q (a_skip k) one =
    subst⁻¹ Begun k.state (pick_ind Begun (eqb k.id 2) _ _ (λ _. k.begun) (λ _. k.begun))

leaf_of : {s : List ℕ} {st : State} {at end levels : ℕ} {e : Entry} {next : ℕ} {q : State} → Stepped s st at end levels (Leaf e next q) → LeafOf s st at end levels e next q
leaf_of (leafed _ k) = k

pub behind_skip :
    (s : List ℕ) (st : State) (at end levels : ℕ) → levels ≤ main → (e : Entry) (next : ℕ) (q : State)
    → step_at s st at end levels ≡ Leaf e next q → e.block.skipped ≡ 1 → Begun q
behind_skip s st at end levels low e next q is =
    skip_begun s st at end levels e next q (leaf_of (subst (Stepped s st at end levels) is (stepped s st at end levels low)))
