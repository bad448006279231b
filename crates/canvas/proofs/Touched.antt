-- A plane touches exactly the pixels that its rectangle shares with the canvas.
use mathlib.Core.Path.{◌≡◌, refl, sym, ap, ◌∙◌}
use mathlib.Core.Bool.{true, and_comm}
use mathlib.Core.List.{List}
use Prim.Native.Nat.{ℕ, ◌+◌, ◌<◌}
use native.Mathlib.Nat.{mul_comm}
use borrow.Author.Tests.{ltb-true}
use lib.IntN.{ℤ, pos, negsuc}
use lib.ListN.{get_or}
use Rattle.laws.proofs.Tests.{never, both, other_not}
use Rattle.rect.specs.declared.Rect.{Rect}
use Rattle.rect.specs.Rect.{side_of}
use Rattle.rect.specs.Shared.{has_pixel, shared_of}
use Rattle.rect.proofs.Pixels.{shared_pixels}
use Rattle.rect.proofs.Corners.{pixel_between}
use Rattle.canvas.specs.Placing.{placed}
use Rattle.canvas.specs.Blocks.{frame_of}
use Rattle.canvas.specs.Touching.{OnCanvas, Touches}
use Rattle.canvas.proofs.Placed.{place_shows}
use Rattle.canvas.proofs.Pixels.{frame_has}

-- the canvas as a rectangle has its own pixels only
frame_inside : (width height x y : ℕ) → has_pixel (frame_of width height) (pos x) (pos y) ≡ true → (x < width) × (y < height)
frame_inside width height x y h =
    let sides = pixel_between (frame_of width height) (pos x) (pos y) h in
    (ltb-true x width sides.0.1, ltb-true y height sides.1.1)

frame_only : (width height : ℕ) (x y : ℤ) → has_pixel (frame_of width height) x y ≡ true → OnCanvas width height x y
frame_only width height (negsuc x) y h = never h
frame_only width height (pos x) (negsuc y) h = never (pixel_between (frame_of width height) (pos x) (negsuc y) h).1.0
frame_only width height (pos x) (pos y) h =
    let inside = frame_inside width height x y h in
    record { column = x; line = y; x_is = refl; y_is = refl; across = inside.0; down = inside.1 }

-- a pixel that the rectangle shares with the canvas
shared_both :
    (width height : ℕ) (r : Rect) (x y : ℤ) → has_pixel (shared_of r (frame_of width height)) x y ≡ true
    → (has_pixel r x y ≡ true) × (has_pixel (frame_of width height) x y ≡ true)
shared_both width height r x y h =
    both (has_pixel r x y) (has_pixel (frame_of width height) x y) (sym (shared_pixels r (frame_of width height) x y) ∙ h)

pub place_touches :
    (width height : ℕ) (canvas : List ℕ) (r : Rect) (plane : List ℕ) (row : ℕ)
    → let said = placed width height canvas r plane row in said.told ≡ 0 → Touches width height canvas said.dest r plane row
place_touches width height canvas r plane row e =
    let shows = place_shows width height canvas r plane row e in
    record {
      long = shows.long;
      there = λ x y h. frame_only width height x y (shared_both width height r x y h).1;
      touched = λ x y h.
          let parts = shared_both width height r (pos x) (pos y) h in
          let here = frame_inside width height x y parts.1 in
          shows.inside x y here.0 here.1 parts.0
          ∙ ap (λ (n : ℕ). get_or plane (n + side_of r.left (pos x)) 0) (mul_comm row (side_of r.top (pos y)));
      kept = λ x y p q h.
          shows.outside x y p q
          (other_not (has_pixel (frame_of width height) (pos x) (pos y)) (has_pixel r (pos x) (pos y))
          (and_comm _ (has_pixel r (pos x) (pos y)) ∙ sym (shared_pixels r (frame_of width height) (pos x) (pos y)) ∙ h)
          (frame_has width height x y p q));
    }
