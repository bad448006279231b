-- What the rule says of a place where a plain layer stands, and where it ends.
use mathlib.Core.Path.{◌≡◌, refl, ap, ap₂, ◌∙◌}
use mathlib.Core.Bool.{Bool, true, false, ◌&&◌, ◌||◌}
use mathlib.Core.List.{List, [], ◌∷◌}
use Prim.Native.Nat.{ℕ, ◌+◌, ◌≤◌}
use native.Mathlib.Omega.{arith}
use borrow.Author.Tests.{eq-eqb, ne_eqb, le-leb, lt-leb}
use lib.Dec.{eqb}
use lib.ListN.{length}
use Rattle.std.specs.Prelude.{Option, None}
use Rattle.laws.specs.Choice.{pick}
use Rattle.laws.proofs.Choice.{pick_yes, pick_no}
use Rattle.laws.proofs.Tests.{both}
use Rattle.walk.specs.Walk.{End, Nest}
use Rattle.walk.proofs.Unit.{unit_there}
use Rattle.headers.specs.declared.block_header.BlockHeader.{BlockHeader}
use Rattle.headers.specs.BlockHeader.{block_header_size, block_header_at}
use Rattle.attributes.specs.Depth.{colour_channels}
use Rattle.attributes.specs.Fault.{unless_of, Field, from, earliest}
use Rattle.attributes.proofs.Earliest.{Kept}
use Rattle.chunk.specs.declared.layer_information.LayerChunk.{LayerChunk}
use Rattle.chunk.specs.Heads.{layer_head}
use Rattle.chunk.specs.LayerInformation.{layer_size, layer_at, layer_fields, layer_fault}
use Rattle.memory.specs.declared.parent.Open.{Open}
use Rattle.memory.specs.declared.parent.Open.TheVariants.{Layers}
use Rattle.memory.specs.declared.parent.Parent.TheVariants.{Bank}
use Rattle.memory.specs.declared.places.Placing.TheVariants.{Enter}
use Rattle.memory.specs.declared.state.State.{State}
use Rattle.memory.specs.Parent.{main, parent_at}
use Rattle.memory.specs.Place.{grid_of, place_of}
use Rattle.memory.specs.State.{with_layer, is_surplus, is_full}
use Rattle.memory.proofs.Placed.{Begun}
use Rattle.kinds.specs.Blocks.{Judged, permitted}
use Rattle.layers.specs.Layers.{layer_block}
use Rattle.block.specs.Step.{are_lengths, kind_of, step_at}
use Rattle.block.proofs.Passed.{by_layer}
use Rattle.plain.specs.declared.layer.Layered.{Layered}
use Rattle.plain.specs.Layer.{GoodArea, PlainLayer, layer_entry, is_complete}
use Rattle.plain.proofs.EnteredStep.{Entered, entered_steps}

-- ### Its chunk

-- where every field is permitted, none is at fault
all_kept : (xs : List Field) → Kept xs → earliest xs ≡ None
unfolding unless_of
all_kept [] k = refl
all_kept (x ∷ xs) k = ap (λ (b : Bool). from (unless_of None b x.offset) xs) k.0 ∙ all_kept xs k.1

pub layer_good :
    (depth : ℕ) (c : LayerChunk) → c.kind ≤ 1 → c.blends ≤ 5 → 1 ≤ c.bitmaps → c.bitmaps ≤ 3 → c.channels + 1 ≡ colour_channels depth + c.bitmaps
    → GoodArea c.image → GoodArea c.mask → layer_fault depth c ≡ None
unfolding layer_fault
layer_good depth c kind blends low high channels image mask =
    all_kept (layer_fields depth c) (
      le-leb _ 1 kind,
      (
        image.border,
        (
          image.saved,
          (
            mask.border,
            (
              mask.saved,
              (
                le-leb _ 5 blends,
                (ap₂ (λ (a b : Bool). a && b) (le-leb 1 _ low) (le-leb _ 3 high), (eq-eqb _ _ channels, tt)),
              ),
            ),
          ),
        ),
      ),
    )

-- ### Its step

module _ (s : List ℕ) (st : State) (at stop end : ℕ) (begun : Begun st) (of_layers : st.opened ≡ Layers) (present : stop ≤ length s) (near : stop ≤ end) (p : PlainLayer s st at stop) where
  abbrev h : BlockHeader
  h = block_header_at s at

  abbrev opens : Judged
  opens = Nest (layer_entry at st.members.found) (at + layer_head) (with_layer (layer_at s (at + block_header_size)) st) (at + block_header_size + h.total)

  held : parent_at st.opened 1 ≡ Bank
  unfolding parent_at pick
  held = ap (λ (o : Open). parent_at o 1) of_layers

  enters : place_of st 4 Bank ≡ Enter
  unfolding place_of grid_of pick
  enters = pick_no _ _ _ (ne_eqb st.image.depth 0 begun)

  announced : is_surplus st 4 ≡ false
  announced = ap (λ (b : Bool). b || false) (lt-leb st.members.announced st.members.found p.more)

  lengths : are_lengths h ≡ true
  unfolding are_lengths
  lengths = by_layer _ _ _ _ _ _ _ _ _ p.id ∙ ap₂ (λ (a b : Bool). a && b) p.initial (le-leb layer_size h.total p.total)

  entered : Entered s st at end Bank
  entered = record {
    marked = p.marked;
    enters = ap (λ (id : ℕ). place_of st id Bank) p.id ∙ enters;
    announced = ap (λ (id : ℕ). is_surplus st id) p.id ∙ announced;
    lengths = lengths;
    there = omega (arith, p.whole, present);
    inside = omega (arith, p.whole, near);
  }

  kind : kind_of s st Bank h at 1 ≡ opens
  unfolding kind_of layer_block permitted
  kind =
      by_layer _ _ _ _ _ _ _ _ _ p.id
      ∙ unit_there s (at + block_header_size) layer_size _ (omega (arith, p.whole, p.total, present))
      ∙ ap (λ (f : Option ℕ). permitted f (at + block_header_size) opens) p.good

  pub layer_steps : step_at s st at end 1 ≡ opens
  layer_steps = entered_steps s st at end 1 Bank entered (λ (e : 1 ≡ main). omega arith) held ∙ kind

-- its end, where it is complete
pub layer_ends : (s : List ℕ) (r : Layered) → r.state.opened ≡ Layers → is_complete r ≡ true → step_at s r.state r.passed.at r.after 0 ≡ End
unfolding step_at parent_at pick
layer_ends s r of_layers complete =
    let k = both (eqb r.passed.at r.after) _ complete in
    pick_yes _ _ _ k.0 ∙ pick_yes _ _ _ (ap (λ (o : Open). is_full r.state (parent_at o 0)) of_layers ∙ k.1)
