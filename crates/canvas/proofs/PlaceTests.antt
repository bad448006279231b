-- What `place` leaves, by the tests that lead there, and what the passed tests say.
use mathlib.Core.Path.{◌≡◌, ap, ◌∙◌}
use mathlib.Core.Bool.{true, false, not}
use mathlib.Core.List.{List}
use Prim.Native.Nat.{ℕ}
use native.Mathlib.Omega.{arith}
use borrow.Author.Tests.{leb-true, eqb-true, not-true, not-false}
use lib.ListN.{length}
use Rattle.laws.specs.Results.{Result}
use Rattle.laws.proofs.Choice.{pick_yes, pick_no, pick_ind}
use Rattle.laws.proofs.Tests.{both}
use Rattle.rect.specs.declared.Rect.{Rect}
use Rattle.rect.specs.Rect.{width_of, is_within}
use Rattle.rect.specs.Rows.{is_form}
use Rattle.rect.proofs.Tests.{within_sized}
use Rattle.rect.proofs.Forms.{form_holds}
use Rattle.canvas.specs.Placing.{is_canvas, is_plane_of, untouched, on_canvas, placed}
use Rattle.canvas.specs.Blocks.{Fit}

module _ (width height : ℕ) (canvas : List ℕ) (r : Rect) (plane : List ℕ) (row : ℕ) where
  abbrev said : Result ℕ
  said = placed width height canvas r plane row

  pub bad_canvas : is_canvas width height (length canvas) ≡ false → said ≡ untouched 40 canvas
  unfolding placed
  bad_canvas h = pick_yes _ _ _ (ap not h)

  module _ (canvas-fits : is_canvas width height (length canvas) ≡ true) where
    pub bad_rect : is_within r ≡ false → said ≡ untouched 41 canvas
    unfolding placed
    bad_rect h = pick_no _ _ _ (ap not canvas-fits) ∙ pick_yes _ _ _ (ap not h)

    module _ (within : is_within r ≡ true) where
      pub bad_plane : is_plane_of r row (length plane) ≡ false → said ≡ untouched 42 canvas
      unfolding placed
      bad_plane h = pick_no _ _ _ (ap not canvas-fits) ∙ pick_no _ _ _ (ap not within) ∙ pick_yes _ _ _ (ap not h)

      module _ (whole : is_plane_of r row (length plane) ≡ true) where
        pub all_well : said ≡ record { told = 0; dest = on_canvas width row r plane canvas }
        unfolding placed
        all_well = pick_no _ _ _ (ap not canvas-fits) ∙ pick_no _ _ _ (ap not within) ∙ pick_no _ _ _ (ap not whole)

        -- a row in either form holds the rectangle's pixels
        pub fit : Fit width height canvas r plane row
        fit =
            let parts = both (is_form (width_of r) 8 true row) _ whole in
            let h₄ = both _ _ canvas-fits in
            let h₃ = both _ _ h₄.0 in
            let h₂ = both _ _ h₃.0 in
            let h₁ = both _ _ h₂.0 in
            let low = leb-true 1 width h₁.0 in
            record {
              some = omega arith;
              wide = leb-true _ _ h₁.1;
              high = leb-true _ _ h₃.1;
              long = eqb-true _ _ h₄.1;
              sized = within_sized r within;
              holds = form_holds (width_of r) true row parts.0;
              whole = eqb-true _ _ parts.1;
            }

  -- what holds of each of the four answers, under the tests that lead there, holds of the call
  pub place_ind :
      (P : Result ℕ → Type 0) → (is_canvas width height (length canvas) ≡ false → P (untouched 40 canvas))
      → (is_canvas width height (length canvas) ≡ true → is_within r ≡ false → P (untouched 41 canvas))
      → (is_canvas width height (length canvas) ≡ true → is_within r ≡ true → is_plane_of r row (length plane) ≡ false → P (untouched 42 canvas))
      → (is_canvas width height (length canvas) ≡ true → is_within r ≡ true → is_plane_of r row (length plane) ≡ true
      → P (record { told = 0; dest = on_canvas width row r plane canvas }))
      → P said
  unfolding placed
  place_ind P no-canvas no-rect no-plane well =
      pick_ind P _ _ _ (λ h. no-canvas (not-true _ h)) (λ c.
      pick_ind P _ _ _ (λ h. no-rect (not-false _ c) (not-true _ h)) (λ w.
      pick_ind P _ _ _ (λ h. no-plane (not-false _ c) (not-false _ w) (not-true _ h)) (λ h. well (not-false _ c) (not-false _ w) (not-false _ h))))
