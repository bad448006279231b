-- The tests of the packer, at a place of a plane.
use mathlib.Core.Path.{◌≡◌, refl, sym, ap, ◌∙◌}
use mathlib.Core.Logic.{⊎_elim}
use mathlib.Core.Bool.{Bool, true, false, not, ◌&&◌}
use mathlib.Core.List.{List, [], ◌∷◌}
use Prim.Native.Nat.{ℕ, ◌+◌, ◌-◌, ◌<◌, ◌≤◌}
use native.Mathlib.Nat.{add-zero}
use native.Mathlib.Omega.{arith}
use borrow.Author.Tests.{eq-eqb, ne_eqb, eqb-true, not-false}
use lib.Dec.{eqb}
use lib.ListN.{length, take, drop, get_or, length-drop}
use lib.Seq.{get_or-drop, get_or-take, length-take-le, take-length}
use Rattle.laws.specs.Choice.{pick}
use Rattle.packer.specs.Packing.{three, other_than}
use Rattle.laws.proofs.Choice.{pick_yes, pick_no, pick_ind}
use Rattle.laws.proofs.Tests.{never, yes_or_no, less_or_not}

-- the test for another byte, at a place
pub head_at : (p : List ℕ) (k : ℕ) → get_or (drop k p) 0 0 ≡ get_or p k 0
head_at p k = get_or-drop k p 0 0 ∙ ap (λ (n : ℕ). get_or p n 0) (add-zero k)

module _ (b : ℕ) (p : List ℕ) (k : ℕ) where
  pub other_yes : (get_or p k 0 ≡ b → ⊥) → other_than b (drop k p) ≡ true
  unfolding other_than
  other_yes h = ap not (ap (λ (x : ℕ). eqb x b) (head_at p k) ∙ ne_eqb (get_or p k 0) b h)

  pub other_no : get_or p k 0 ≡ b → other_than b (drop k p) ≡ false
  unfolding other_than
  other_no h = ap not (ap (λ (x : ℕ). eqb x b) (head_at p k) ∙ eq-eqb (get_or p k 0) b h)

  pub other_differs : other_than b (drop k p) ≡ true → get_or p k 0 ≡ b → ⊥
  other_differs t e = never (sym (other_no e) ∙ t)

  pub other_same : other_than b (drop k p) ≡ false → get_or p k 0 ≡ b
  unfolding other_than
  other_same f = sym (head_at p k) ∙ eqb-true (get_or (drop k p) 0 0) b (not-false (eqb (get_or (drop k p) 0 0) b) f)

-- the test for three equal bytes, at a place
three_few : (p : List ℕ) → length p < 3 → three p ≡ false
unfolding three
three_few [] h = refl
three_few (a ∷ []) h = refl
three_few (a ∷ b ∷ []) h = refl
three_few (a ∷ b ∷ c ∷ p) h = absurd (omega arith)

three_is : (p : List ℕ) → 3 ≤ length p → three p ≡ pick (eqb (get_or p 0 0) (get_or p 1 0)) (eqb (get_or p 1 0) (get_or p 2 0)) false
unfolding three
three_is [] h = absurd (omega arith)
three_is (a ∷ []) h = absurd (omega arith)
three_is (a ∷ b ∷ []) h = absurd (omega arith)
three_is (a ∷ b ∷ c ∷ p) h = refl

module _ (p : List ℕ) (at : ℕ) where
  pub three_short : length p - at < 3 → three (drop at p) ≡ false
  three_short h = three_few (drop at p) (simp length-drop h)

  three_here :
      3 ≤ length p - at
      → three (drop at p) ≡ pick (eqb (get_or p at 0) (get_or p (at + 1) 0)) (eqb (get_or p (at + 1) 0) (get_or p (at + 2) 0)) false
  three_here h = three_is (drop at p) (simp length-drop h) ∙ simp (get_or-drop, add-zero)

  -- and what it says of the bytes
  pub three_bytes : three (drop at p) ≡ true → (at + 3 ≤ length p) × (get_or p (at + 1) 0 ≡ get_or p at 0) × (get_or p (at + 2) 0 ≡ get_or p at 0)
  three_bytes t =
      ⊎_elim (λ few. never (sym (three_short few) ∙ t))
      (λ long.
      pick_ind (λ (b : Bool). b ≡ true → (at + 3 ≤ length p) × (get_or p (at + 1) 0 ≡ get_or p at 0) × (get_or p (at + 2) 0 ≡ get_or p at 0)) _ _ _
      (λ ab bc.
      let one : get_or p (at + 1) 0 ≡ get_or p at 0 = sym (eqb-true (get_or p at 0) (get_or p (at + 1) 0) ab) in
      (omega arith, one, sym (eqb-true (get_or p (at + 1) 0) (get_or p (at + 2) 0) bc) ∙ one))
      (λ _ e. never e) (sym (three_here long) ∙ t))
      (less_or_not (length p - at) 3)

  pub three_same : at + 3 ≤ length p → get_or p (at + 1) 0 ≡ get_or p at 0 → get_or p (at + 2) 0 ≡ get_or p at 0 → three (drop at p) ≡ true
  three_same long one two =
      three_here (omega arith) ∙ pick_yes _ _ _ (eq-eqb (get_or p at 0) (get_or p (at + 1) 0) (sym one)) ∙ eq-eqb (get_or p (at + 1) 0) (get_or p (at + 2) 0) (one ∙ sym two)

  -- the two tests of it, one behind the other and joined
  pub three_second : at + 3 ≤ length p → get_or p at 0 ≡ get_or p (at + 1) 0 → eqb (get_or p at 0) (get_or p (at + 2) 0) ≡ three (drop at p)
  three_second long same =
      ap (λ (x : ℕ). eqb x (get_or p (at + 2) 0)) same ∙ sym (three_here (omega arith) ∙ pick_yes _ _ _ (eq-eqb (get_or p at 0) (get_or p (at + 1) 0) same))

  pub three_tested : at + 3 ≤ length p → (eqb (get_or p at 0) (get_or p (at + 1) 0) && eqb (get_or p at 0) (get_or p (at + 2) 0)) ≡ three (drop at p)
  three_tested long =
      let second : Bool → Bool = λ b. b && eqb (get_or p at 0) (get_or p (at + 2) 0) in
      yes_or_no (eqb (get_or p at 0) (get_or p (at + 1) 0))
      (λ one. ap second one ∙ three_second long (eqb-true (get_or p at 0) (get_or p (at + 1) 0) one))
      (λ none. ap second none ∙ sym (three_here (omega arith) ∙ pick_no _ _ _ none))

  -- one of the two bytes behind differs
  pub three_gap : (e : ℕ) → at < e → e ≤ at + 2 → (get_or p e 0 ≡ get_or p at 0 → ⊥) → three (drop at p) ≡ false
  three_gap e above below differs =
      yes_or_no (three (drop at p))
      (λ t.
      let bytes = three_bytes t in
      absurd
      (⊎_elim (λ h. let here : at + 1 ≡ e = omega arith in differs (ap (λ (i : ℕ). get_or p i 0) (sym here) ∙ bytes.1))
      (λ h. let here : at + 2 ≡ e = omega arith in differs (ap (λ (i : ℕ). get_or p i 0) (sym here) ∙ bytes.2)) (less_or_not e (at + 2))))
      (λ f. f)

-- what a part of a list has at its front, the list has
module _ (l : List ℕ) (n k : ℕ) where
  pub other_front : (b : ℕ) → k < n → get_or (take n l) k 0 ≡ b → other_than b (drop k l) ≡ false
  other_front b h e = other_no b l k (sym (get_or-take n l k 0 h) ∙ e)

  pub three_front : k + 3 ≤ n → n ≤ length l → three (drop k (take n l)) ≡ three (drop k l)
  three_front h inside =
      let len : length (take n l) ≡ n = length-take-le n l inside in
      let one = get_or-take n l k 0 (omega arith) in
      let two = get_or-take n l (k + 1) 0 (omega arith) in
      let last = get_or-take n l (k + 2) 0 (omega arith) in
      three_here (take n l) k (omega arith)
      ∙ (λ i. pick (eqb (one i) (two i)) (eqb (two i) (last i)) false)
      ∙ sym (three_here l k (omega arith))

-- a part that goes to the end
pub to_end : (l : List ℕ) (n : ℕ) → take (length l - n) (drop n l) ≡ drop n l
to_end l n = ap (λ (m : ℕ). take m (drop n l)) (sym (length-drop n l)) ∙ take-length (drop n l)
