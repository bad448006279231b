-- A plane that is placed a second time changes nothing.
use mathlib.Core.Path.{◌≡◌, refl, sym, ap, ◌∙◌}
use mathlib.Core.Bool.{Bool}
use mathlib.Core.List.{List}
use Prim.Native.Nat.{ℕ, ◌/◌, ◌%◌}
use native.Mathlib.Omega.{arith}
use lib.IntN.{pos}
use lib.ListN.{get_or}
use Rattle.laws.specs.Choice.{pick}
use Rattle.laws.specs.Results.{Result}
use Rattle.laws.proofs.Choice.{pick_yes, pick_no, pick_ind}
use Rattle.rect.specs.declared.Rect.{Rect}
use Rattle.rect.specs.Shared.{has_pixel}
use Rattle.canvas.specs.Placing.{is_canvas, byte_of, pixel_of, on_canvas, placed}
use Rattle.canvas.proofs.Pixels.{placed_length, placed_at, placed_is}
use Rattle.canvas.proofs.PlaceTests.{bad_canvas, bad_rect, bad_plane, all_well, place_ind}

-- a choice made twice is the choice made once
again : {A : Type 0} (b : Bool) (x y : A) → pick b x y ≡ pick b x (pick b x y)
again b x y = pick_ind (λ z. z ≡ pick b x z) b x y (λ h. sym (pick_yes b x x h)) (λ h. sym (pick_no b x y h))

pub placed_twice :
    (width row : ℕ) (r : Rect) (plane canvas : List ℕ)
    → on_canvas width row r plane (on_canvas width row r plane canvas) ≡ on_canvas width row r plane canvas
placed_twice width row r plane canvas =
    let once = on_canvas width row r plane canvas in
    sym
    (placed_is width row r plane once once refl
    (λ k h.
    let e = placed_at width row r plane canvas k (omega (arith, placed_length width row r plane canvas)) in
    let x = pos (k % width) in
    let y = pos (k / width) in
    e ∙ again (has_pixel r x y) (get_or plane (byte_of r row x y) 0) (get_or canvas k 0) ∙ ap (pixel_of r row plane x y) (sym e)))

-- and so do number and canvas of the whole call, whatever its arguments
pub place_twice :
    (width height : ℕ) (canvas : List ℕ) (r : Rect) (plane : List ℕ) (row : ℕ)
    → placed width height (placed width height canvas r plane row).dest r plane row ≡ placed width height canvas r plane row
place_twice width height canvas r plane row =
    place_ind width height canvas r plane row (λ (s : Result ℕ). placed width height s.dest r plane row ≡ s)
    (bad_canvas width height canvas r plane row)
    (bad_rect width height canvas r plane row)
    (bad_plane width height canvas r plane row)
    (λ c w p.
    let on = on_canvas width row r plane canvas in
    let still = ap (is_canvas width height) (placed_length width row r plane canvas) ∙ c in
    all_well width height on r plane row still w p ∙ (λ i. record { told = 0; dest = placed_twice width row r plane canvas i }))
