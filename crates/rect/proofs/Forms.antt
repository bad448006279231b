-- The forms that a row may take, and the row of a plane: once over the bit width, and over whether the short form is permitted.
use mathlib.Core.Path.{◌≡◌, refl, sym, ap, ap₂, ◌∙◌}
use mathlib.Core.Bool.{Bool, true, false, ◌&&◌, ◌||◌}
use mathlib.Core.List.{[], ◌∷◌}
use mathlib.Core.Logic.{inl, inr}
use Prim.Native.Nat.{ℕ, ◌*◌, ◌≤◌}
use native.Mathlib.Nat.{mul-le-mul}
use native.Mathlib.Omega.{arith}
use borrow.Author.Tests.{eqb-true, eq-eqb}
use lib.Dec.{eqb}
use Rattle.laws.specs.Choice.{pick}
use Rattle.laws.specs.Lists.{filter, first}
use Rattle.laws.proofs.Filter.{some_two, first_yes, first_no}
use Rattle.laws.proofs.Tests.{never, both, either, one_of, yes_or_no}
use Rattle.limits.specs.Limits.{side_limit, plane_limit}
use Rattle.rect.specs.declared.planes.Shape.{Shape}
use Rattle.rect.specs.Rows.{row_of, is_form, makes, is_plane, row_for, Taken}
use Rattle.rect.proofs.Rows.{holds, row}

-- ### The forms

pub form_is : (w bits : ℕ) (short : Bool) (row : ℕ) → is_form w bits short row ≡ (eqb row (row_of w bits) || (short && eqb row w))
form_is w bits short row = some_two (eqb row) (row_of w bits) w short

pub form_padded : (w bits : ℕ) (short : Bool) → is_form w bits short (row_of w bits) ≡ true
form_padded w bits short = form_is w bits short (row_of w bits) ∙ one_of _ _ (inl (eq-eqb (row_of w bits) _ refl))

-- a form is the padded one, or the width where the short form is permitted
pub by_form :
    {X : Type 0} (w bits : ℕ) (short : Bool) (row : ℕ) → is_form w bits short row ≡ true
    → (row ≡ row_of w bits → X) → (short ≡ true → row ≡ w → X) → X
by_form w bits short row h padded unpadded =
    either (eqb row (row_of w bits)) (short && eqb row w) (sym (form_is w bits short row) ∙ h)
    (λ e. padded (eqb-true row (row_of w bits) e))
    (λ e. let parts = both short (eqb row w) e in unpadded parts.0 (eqb-true row w parts.1))

-- either form holds the pixels of 8 bits
pub form_holds : (w : ℕ) (short : Bool) (row : ℕ) → is_form w 8 short row ≡ true → w ≤ row
form_holds w short row h = by_form w 8 short row h (λ is. omega (arith, (holds w 8).0)) (λ may is. omega arith)

-- ### The row of a plane

module _ (f : Shape) (plane : ℕ) where
  abbrev width : ℕ
  width = f.sides.width

  abbrev padded : ℕ
  padded = row_of width f.bits

  pub plane_is : is_plane f plane ≡ (makes f plane padded || (f.short && makes f plane width))
  unfolding is_plane
  plane_is = some_two (makes f plane) padded width f.short

  -- where the padded form makes the plane it is taken, whatever the other one makes
  pub padded_row : makes f plane padded ≡ true → row_for f plane ≡ padded
  unfolding row_for
  padded_row h = first_yes (makes f plane) _ 0 h

  module _ (differs : makes f plane padded ≡ false) where
    rest : (b : Bool) → f.short ≡ b → row_for f plane ≡ first (makes f plane) (pick b (width ∷ []) []) 0
    unfolding row_for
    rest b e = first_no (makes f plane) _ 0 differs ∙ ap (λ (c : Bool). first (makes f plane) (pick c (width ∷ []) []) 0) e

    pub short_row : (f.short && makes f plane width) ≡ true → row_for f plane ≡ width
    unfolding pick
    short_row h = rest true (both f.short _ h).0 ∙ first_yes (makes f plane) [] 0 (both f.short _ h).1

    pub no_row : (f.short && makes f plane width) ≡ false → row_for f plane ≡ 0
    unfolding pick first filter
    no_row h = by f.short refl h
      where
        by : (b : Bool) → f.short ≡ b → (b && makes f plane width) ≡ false → row_for f plane ≡ 0
        by true e h = rest true e ∙ first_no (makes f plane) [] 0 h
        by false e h = rest false e

  -- the row of a permitted plane, in other words, and no other row is
  pub taken : is_plane f plane ≡ true → Taken f plane (row_for f plane)
  taken h = yes_or_no (makes f plane padded) by_padded by_short
    where
      by_padded : makes f plane padded ≡ true → Taken f plane (row_for f plane)
      by_padded fits = record {
        form = ap (is_form width f.bits f.short) (padded_row fits) ∙ form_padded width f.bits f.short;
        whole = sym (eqb-true _ _ fits) ∙ ap (λ (row : ℕ). row * f.sides.height) (sym (padded_row fits));
        padded_first = λ e. padded_row fits;
      }

      by_short : makes f plane padded ≡ false → Taken f plane (row_for f plane)
      by_short differs =
          let rest = sym (ap (λ (b : Bool). b || (f.short && makes f plane width)) differs) ∙ sym plane_is ∙ h in
          let is = short_row differs rest in
          record {
            form =
                ap (is_form width f.bits f.short) is
                ∙ form_is width f.bits f.short width
                ∙ one_of (eqb width padded) (f.short && eqb width width) (inr (ap₂ ◌&&◌ (both f.short _ rest).0 (eq-eqb width _ refl)));
            whole = sym (eqb-true _ _ (both f.short _ rest).1) ∙ ap (λ (row : ℕ). row * f.sides.height) (sym is);
            padded_first = λ e. never (sym differs ∙ eq-eqb _ _ (sym e));
          }

  pub taken_only : (row : ℕ) → Taken f plane row → (is_plane f plane ≡ true) × (row ≡ row_for f plane)
  taken_only row t = by_form width f.bits f.short row t.form by_padded by_short
    where
      made : (n : ℕ) → row ≡ n → makes f plane n ≡ true
      made n is = eq-eqb _ _ (ap (λ (m : ℕ). m * f.sides.height) (sym is) ∙ sym t.whole)

      by_padded : row ≡ padded → (is_plane f plane ≡ true) × (row ≡ row_for f plane)
      by_padded is = (plane_is ∙ one_of _ _ (inl (made padded is)), is ∙ sym (padded_row (made padded is)))

      by_short : f.short ≡ true → row ≡ width → (is_plane f plane ≡ true) × (row ≡ row_for f plane)
      by_short may is =
          let rest = ap₂ ◌&&◌ may (made width is) in
          yes_or_no (makes f plane padded)
          (λ fits. by_padded (t.padded_first (sym (eqb-true _ _ fits))))
          (λ differs. (plane_is ∙ one_of (makes f plane padded) (f.short && makes f plane width) (inr rest), is ∙ sym (short_row differs rest)))

  -- where both forms have one length it is the padded one
  pub one_length : padded * f.sides.height ≡ width * f.sides.height → is_plane f plane ≡ true → row_for f plane ≡ padded
  one_length same h =
      let t = taken h in
      by_form width f.bits f.short (row_for f plane) t.form (λ is. is)
      (λ may is. t.padded_first (t.whole ∙ ap (λ (row : ℕ). row * f.sides.height) is ∙ sym same))

  -- a permitted plane of permitted sides is within the limit of planes
  pub plane_within : f.bits ≤ 8 → width ≤ side_limit → f.sides.height ≤ side_limit → is_plane f plane ≡ true → plane ≤ plane_limit
  plane_within few wide high h =
      let t = taken h in
      let long : row_for f plane ≤ side_limit =
      by_form width f.bits f.short (row_for f plane) t.form (λ is. omega (arith, row width f.bits wide few)) (λ may is. omega arith) in
      omega (arith, t.whole, mul-le-mul long high)
