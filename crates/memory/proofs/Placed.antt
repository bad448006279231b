-- What a place says of its block, by what becomes of it: refused, entered or skipped. The rules' promises go by these cases.
use mathlib.Core.Path.{◌≡◌, refl}
use mathlib.Core.Bool.{true, false, ◌&&◌, ◌||◌}
use Prim.Native.Nat.{ℕ}
use native.Mathlib.Omega.{arith}
use borrow.Author.Tests.{eqb-true, eqb-false, leb-true}
use lib.Dec.{eqb, leb}
use Rattle.std.proofs.lemmas.Bool.Decides.{nat_tests}
use Rattle.laws.specs.Choice.{pick}
use Rattle.laws.proofs.Choice.{pick_ind}
use Rattle.laws.proofs.Tests.{both, either}
use Rattle.memory.specs.declared.parent.Parent.{Parent}
use Rattle.memory.specs.declared.parent.Parent.TheVariants.{Main, Bank, Layer, Selection, AlphaBank, Alpha}
use Rattle.memory.specs.declared.places.Placing.{Placing}
use Rattle.memory.specs.declared.places.Placing.TheVariants.{Refuse, Enter, Skip}
use Rattle.memory.specs.declared.state.State.{State}
use Rattle.memory.specs.Parent.{is_main, is_host}
use Rattle.memory.specs.Place.{grid_of, is_barred, is_unused, place_of}

-- the image block has passed
abbrev pub Begun : State → Type 0
Begun st = st.image.depth ≡ 0 → ⊥

pub data Placed (st : State) (id : ℕ) : Parent → Placing → Type 0 where
  refused : {p : Parent} → Placed st id p Refuse
  image : {p : Parent} → st.image.depth ≡ 0 → id ≡ 0 → Placed st id p Enter
  palette : Begun st → id ≡ 2 → st.met.palette ≡ false → (st.image.depth ≡ 24 → ⊥) → Placed st id Main Enter
  bank : Begun st → id ≡ 3 → st.met.bank ≡ false → Placed st id Main Enter
  layer : Begun st → id ≡ 4 → Placed st id Bank Enter
  channel : {p : Parent} → Begun st → is_host p ≡ true → id ≡ 5 → Placed st id p Enter
  selection : Begun st → id ≡ 6 → st.met.selection ≡ false → Placed st id Main Enter
  alpha_bank : Begun st → id ≡ 7 → st.met.alphas ≡ false → Placed st id Main Enter
  alpha : Begun st → id ≡ 8 → Placed st id AlphaBank Enter
  skip : {p : Parent} → Begun st → (id ≡ 2 → st.image.depth ≡ 24) → Placed st id p Skip

module _ (st : State) (id : ℕ) (begun : Begun st) where
  -- at the main level, what is not barred
  module _ (free : is_barred st id ≡ false) (used : is_unused st id ≡ false) where
    entered : (eqb id 0 || eqb id 2 || eqb id 3 || eqb id 6 || eqb id 7) ≡ true → Placed st id Main Enter
    entered h =
        either (eqb id 0 || eqb id 2 || eqb id 3 || eqb id 6) (eqb id 7) h
        (λ h. either (eqb id 0 || eqb id 2 || eqb id 3) (eqb id 6) h
        (λ h. either (eqb id 0 || eqb id 2) (eqb id 3) h
        (λ h. either (eqb id 0) (eqb id 2) h
        (λ e. absurd (grind (arith, nat_tests)))
        (λ e. palette begun (eqb-true id 2 e) (grind (arith, nat_tests)) (eqb-false st.image.depth 24 (grind (arith, nat_tests)))))
        (λ e. bank begun (eqb-true id 3 e) (grind (arith, nat_tests))))
        (λ e. selection begun (eqb-true id 6 e) (grind (arith, nat_tests))))
        (λ e. alpha_bank begun (eqb-true id 7 e) (grind (arith, nat_tests)))

    in_main : Placed st id Main (grid_of id Main)
    unfolding grid_of
    in_main =
        pick_ind (Placed st id Main) _ _ _ (λ h. entered h) (λ other. pick_ind (Placed st id Main) _ _ _ (λ _. refused) (λ _. skip begun (λ two.
        grind (arith, nat_tests))))

  in_bank : Placed st id Bank (grid_of id Bank)
  unfolding grid_of
  in_bank = pick_ind (Placed st id Bank) (eqb id 4) _ _ (λ e. layer begun (eqb-true id 4 e)) (λ _. refused)

  in_alpha_bank : Placed st id AlphaBank (grid_of id AlphaBank)
  unfolding grid_of
  in_alpha_bank = pick_ind (Placed st id AlphaBank) (eqb id 8) _ _ (λ e. alpha begun (eqb-true id 8 e)) (λ _. refused)

  -- what holds channels holds nothing else
  in_host : {p : Parent} → is_host p ≡ true → Placed st id p (pick (eqb id 5) Enter Refuse)
  in_host {p} host = pick_ind (Placed st id p) (eqb id 5) _ _ (λ e. channel begun host (eqb-true id 5 e)) (λ _. refused)

  -- behind the first block, of an id below 12
  later :
      (p : Parent)
      → Placed st id p (pick (is_main p && is_barred st id) Refuse (pick (is_main p && is_unused st id) Skip (grid_of id p)))
  unfolding pick grid_of
  later Main =
      pick_ind (Placed st id Main) (is_barred st id) _ _ (λ _. refused) (λ free.
      pick_ind (Placed st id Main) (is_unused st id) _ _ (λ unused. skip begun (λ _. eqb-true st.image.depth 24 (both (eqb id 2) _ unused).1)) (λ used.
      in_main free used))
  later Bank = in_bank
  later Layer = in_host refl
  later Selection = in_host refl
  later AlphaBank = in_alpha_bank
  later Alpha = in_host refl

pub placed : (st : State) (id : ℕ) (p : Parent) → Placed st id p (place_of st id p)
unfolding place_of
placed st id p =
    let P : Placing → Type 0 = Placed st id p in
    pick_ind P (eqb st.image.depth 0) _ _
    (λ none. pick_ind P (eqb id 0) _ _ (λ e. image (eqb-true _ 0 none) (eqb-true id 0 e)) (λ _. refused))
    (λ some.
    let begun : Begun st = eqb-false st.image.depth 0 some in
    pick_ind P (leb 12 id) _ _ (λ high. skip begun (λ two. absurd (omega (arith, leb-true 12 id high)))) (λ _. later st id begun p))
