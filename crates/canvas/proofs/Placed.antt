-- An accepted call, pixel by pixel, for either form of the row.
use mathlib.Core.Path.{◌≡◌, ap, ◌∙◌}
use mathlib.Core.Bool.{true}
use mathlib.Core.List.{List}
use mathlib.Core.Logic.{inl, inr}
use Prim.Native.Nat.{ℕ, ◌+◌}
use native.Mathlib.Nat.{mul_comm}
use native.Mathlib.Omega.{arith}
use lib.IntN.{pos}
use lib.ListN.{get_or}
use Rattle.laws.specs.Results.{Result}
use Rattle.laws.proofs.Tests.{both}
use Rattle.rect.specs.declared.Rect.{Rect}
use Rattle.rect.specs.Rect.{side_of, width_of}
use Rattle.rect.specs.Rows.{is_form}
use Rattle.rect.proofs.Forms.{by_form}
use Rattle.canvas.specs.Placing.{placed, Shows}
use Rattle.canvas.proofs.Pixels.{placed_length, pixel_inside, pixel_outside, pixel_held}
use Rattle.canvas.proofs.PlaceTests.{fit, place_ind}

pub place_shows :
    (width height : ℕ) (canvas : List ℕ) (r : Rect) (plane : List ℕ) (row : ℕ)
    → let said = placed width height canvas r plane row in said.told ≡ 0 → Shows width height canvas said.dest r plane row
place_shows width height canvas r plane row =
    place_ind width height canvas r plane row (λ (s : Result ℕ). s.told ≡ 0 → Shows width height canvas s.dest r plane row)
    (λ c e. absurd (omega arith)) (λ c w e. absurd (omega arith)) (λ c w p e. absurd (omega arith))
    (λ c w p e.
    let f = fit width height canvas r plane row c w p in
    record {
      form = by_form (width_of r) 8 true row (both (is_form (width_of r) 8 true row) _ p).0 inl (λ may. inr);
      long = placed_length width row r plane canvas;
      inside = λ x y x-low y-low h.
          pixel_inside width row r plane canvas height f.long x y x-low y-low h
          ∙ ap (λ (n : ℕ). get_or plane (n + side_of r.left (pos x)) 0) (mul_comm (side_of r.top (pos y)) row);
      held = λ x y h.
          let inside = pixel_held f x y h in
          (inside.across, omega (arith, inside.inside, mul_comm (side_of r.top (pos y)) row));
      outside = λ x y. pixel_outside width row r plane canvas height f.long x y;
    })
