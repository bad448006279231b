-- What the tests that a block has passed say: that there is room for it, and its total where its kind fixes one.
use mathlib.Core.Path.{◌≡◌, sym, ap, subst, ◌∙◌}
use mathlib.Core.Logic.{inl, inr}
use mathlib.Core.Bool.{true, false, ◌&&◌, ◌||◌}
use Prim.Native.Nat.{ℕ, ◌<◌, ◌≤◌}
use native.Mathlib.Omega.{arith}
use borrow.Author.Tests.{eq-eqb, ne_eqb, eqb-true, eqb-false, leb-true, leb-false}
use lib.Dec.{eqb, leb}
use Rattle.laws.specs.Choice.{pick}
use Rattle.laws.proofs.Choice.{pick_no}
use Rattle.laws.proofs.Tests.{both, neither, other_not, one_of}
use Rattle.headers.specs.declared.block_header.BlockHeader.{BlockHeader}
use Rattle.attributes.specs.ImageAttributes.{image_size}
use Rattle.chunk.specs.AlphaBankInformation.{alpha_bank_size}
use Rattle.chunk.specs.AlphaInformation.{alpha_size}
use Rattle.chunk.specs.LayerInformation.{layer_size}
use Rattle.chunk.specs.SelectionInformation.{selection_size}
use Rattle.memory.specs.declared.parent.Parent.{Parent}
use Rattle.memory.specs.declared.places.Placing.TheVariants.{Enter}
use Rattle.memory.specs.declared.state.State.{State}
use Rattle.memory.specs.State.{is_surplus}
use Rattle.memory.specs.Place.{place_of}
use Rattle.memory.proofs.Placed.{Placed, image, palette, bank, layer, channel, selection, alpha_bank, alpha, placed}
use Rattle.block.specs.Step.{are_lengths, Roomy}

-- ### Room

-- of a bank's members, whichever bank is open
pub member_room : (st : State) (id : ℕ) → is_surplus st id ≡ false → (eqb id 4 || eqb id 8) ≡ true → st.members.found < st.members.announced
member_room st id h e =
    leb-false _ _ (other_not (eqb id 4 || eqb id 8) _ (neither ((eqb id 4 || eqb id 8) && leb st.members.announced st.members.found) _ h).0 e)

pub layer_room : (st : State) (id : ℕ) → is_surplus st id ≡ false → id ≡ 4 → st.members.found < st.members.announced
layer_room st id h e = member_room st id h (one_of (eqb id 4) _ (inl (eq-eqb id 4 e)))

pub alpha_room : (st : State) (id : ℕ) → is_surplus st id ≡ false → id ≡ 8 → st.members.found < st.members.announced
alpha_room st id h e = member_room st id h (one_of (eqb id 4) _ (inr (eq-eqb id 8 e)))

pub channel_room : (st : State) (id : ℕ) → is_surplus st id ≡ false → id ≡ 5 → 0 < st.current.left
channel_room st id h e =
    let other = (neither ((eqb id 4 || eqb id 8) && leb st.members.announced st.members.found) _ h).1 in
    let some = eqb-false st.current.left 0 (other_not (eqb id 5) _ other (eq-eqb id 5 e)) in
    omega arith

-- an id that is entered is one of eight, of which the last is a channel's
channel_id :
    {st : State} {id : ℕ} {p : Parent} → Placed st id p Enter
    → (id ≡ 0 → ⊥) → (id ≡ 2 → ⊥) → (id ≡ 3 → ⊥) → (id ≡ 4 → ⊥) → (id ≡ 6 → ⊥) → (id ≡ 7 → ⊥) → (id ≡ 8 → ⊥) → id ≡ 5
channel_id (image _ e) a b c d f g h = absurd (a e)
channel_id (palette _ e _ _) a b c d f g h = absurd (b e)
channel_id (bank _ e _) a b c d f g h = absurd (c e)
channel_id (layer _ e) a b c d f g h = absurd (d e)
channel_id (selection _ e _) a b c d f g h = absurd (f e)
channel_id (alpha_bank _ e _) a b c d f g h = absurd (g e)
channel_id (alpha _ e) a b c d f g h = absurd (h e)
channel_id (channel _ _ e) a b c d f g h = e

pub roomy : (st : State) (id : ℕ) (p : Parent) → place_of st id p ≡ Enter → is_surplus st id ≡ false → Roomy st id
roomy st id p enters h = record {
  layer = layer_room st id h;
  alpha = alpha_room st id h;
  channel = λ a b c d f g i. channel_room st id h (channel_id (subst (Placed st id p) enters (placed st id p)) a b c d f g i);
}

-- ### A choice by the id

abbrev by_id : {A : Type 0} → ℕ → A → A → A → A → A → A → A → A → A
by_id id a b c d f g h e =
    pick (eqb id 0) a (pick (eqb id 2) b (pick (eqb id 3) c (pick (eqb id 4) d (pick (eqb id 6) f (pick (eqb id 7) g (pick (eqb id 8) h e))))))

module _ {A : Type 0} (id : ℕ) (a b c d f g h e : A) where
  pub by_image : id ≡ 0 → by_id id a b c d f g h e ≡ a
  unfolding pick
  by_image z = ap (λ (i : ℕ). by_id i a b c d f g h e) z

  pub by_palette : id ≡ 2 → by_id id a b c d f g h e ≡ b
  unfolding pick
  by_palette z = ap (λ (i : ℕ). by_id i a b c d f g h e) z

  pub by_bank : id ≡ 3 → by_id id a b c d f g h e ≡ c
  unfolding pick
  by_bank z = ap (λ (i : ℕ). by_id i a b c d f g h e) z

  pub by_layer : id ≡ 4 → by_id id a b c d f g h e ≡ d
  unfolding pick
  by_layer z = ap (λ (i : ℕ). by_id i a b c d f g h e) z

  pub by_channel : id ≡ 5 → by_id id a b c d f g h e ≡ e
  unfolding pick
  by_channel z = ap (λ (i : ℕ). by_id i a b c d f g h e) z

  pub by_selection : id ≡ 6 → by_id id a b c d f g h e ≡ f
  unfolding pick
  by_selection z = ap (λ (i : ℕ). by_id i a b c d f g h e) z

  pub by_alpha_bank : id ≡ 7 → by_id id a b c d f g h e ≡ g
  unfolding pick
  by_alpha_bank z = ap (λ (i : ℕ). by_id i a b c d f g h e) z

  pub by_alpha : id ≡ 8 → by_id id a b c d f g h e ≡ h
  unfolding pick
  by_alpha z = ap (λ (i : ℕ). by_id i a b c d f g h e) z

  pub by_other :
      (id ≡ 0 → ⊥) → (id ≡ 2 → ⊥) → (id ≡ 3 → ⊥) → (id ≡ 4 → ⊥) → (id ≡ 6 → ⊥) → (id ≡ 7 → ⊥) → (id ≡ 8 → ⊥) → by_id id a b c d f g h e ≡ e
  by_other i p k l s m n =
      pick_no _ _ _ (ne_eqb id 0 i) ∙ pick_no _ _ _ (ne_eqb id 2 p) ∙ pick_no _ _ _ (ne_eqb id 3 k) ∙ pick_no _ _ _ (ne_eqb id 4 l)
      ∙ pick_no _ _ _ (ne_eqb id 6 s) ∙ pick_no _ _ _ (ne_eqb id 7 m) ∙ pick_no _ _ _ (ne_eqb id 8 n)

-- ### Lengths

pub image_total : (h : BlockHeader) → are_lengths h ≡ true → h.id ≡ 0 → h.total ≡ image_size
unfolding are_lengths
image_total h good e = eqb-true _ _ (both (eqb h.initial image_size) _ (sym (by_image _ _ _ _ _ _ _ _ _ e) ∙ good)).1

-- the chunk of a block that is entered behind it lies inside
pub layer_total : (h : BlockHeader) → are_lengths h ≡ true → h.id ≡ 4 → layer_size ≤ h.total
unfolding are_lengths
layer_total h good e =
    leb-true _ _ (both (eqb h.initial layer_size || eqb h.initial 0) _ (sym (by_layer _ _ _ _ _ _ _ _ _ e) ∙ good)).1

pub selection_total : (h : BlockHeader) → are_lengths h ≡ true → h.id ≡ 6 → selection_size ≤ h.total
unfolding are_lengths
selection_total h good e = leb-true _ _ (both (eqb h.initial selection_size) _ (sym (by_selection _ _ _ _ _ _ _ _ _ e) ∙ good)).1

pub alpha_bank_total : (h : BlockHeader) → are_lengths h ≡ true → h.id ≡ 7 → alpha_bank_size ≤ h.total
unfolding are_lengths
alpha_bank_total h good e = leb-true _ _ (both (eqb h.initial alpha_bank_size) _ (sym (by_alpha_bank _ _ _ _ _ _ _ _ _ e) ∙ good)).1

pub alpha_total : (h : BlockHeader) → are_lengths h ≡ true → h.id ≡ 8 → alpha_size ≤ h.total
unfolding are_lengths
alpha_total h good e = leb-true _ _ (both (eqb h.initial alpha_size) _ (sym (by_alpha _ _ _ _ _ _ _ _ _ e) ∙ good)).1
