-- What placing means, pixel by pixel, over the definition: for every canvas, rectangle, plane and row length.
use mathlib.Core.Path.{◌≡◌, ap₂, ◌∙◌}
use mathlib.Core.Bool.{true, false}
use mathlib.Core.List.{List}
use Prim.Native.Nat.{ℕ, ◌+◌, ◌*◌, ◌/◌, ◌%◌, ◌<◌}
use native.Mathlib.Nat.{mul_comm, mul-add-div_right, mul-add-mod_self_right, div-eq_of_lt, mod-eq_of_lt}
use native.Mathlib.Omega.{arith}
use borrow.Author.Tests.{le-leb, lt-ltb, ltb-true}
use lib.IntN.{ℤ, pos, negsuc}
use lib.ListN.{length, get_or}
use Rattle.laws.proofs.Choice.{pick_yes, pick_no}
use Rattle.laws.proofs.Indexed.{indexed_length, indexed_at, indexed_is}
use Rattle.laws.proofs.Tests.{never}
use Rattle.rect.specs.declared.Rect.{Rect}
use Rattle.rect.specs.Rect.{side_of, width_of, height_of}
use Rattle.rect.specs.Shared.{has_pixel}
use Rattle.rect.proofs.Axis.{side_on}
use Rattle.rect.proofs.Corners.{Between, pixel_between, between_pixel}
use Rattle.canvas.specs.Placing.{byte_of, pixel_of, on_canvas}
use Rattle.canvas.specs.Blocks.{frame_of, Fit}
use Rattle.canvas.proofs.Block.{next}

module _ (width row : ℕ) (r : Rect) (plane canvas : List ℕ) where
  abbrev after : List ℕ
  after = on_canvas width row r plane canvas

  -- byte k before and after
  abbrev changed : ℕ → ℕ → ℕ
  changed k = pixel_of r row plane (pos (k % width)) (pos (k / width))

  -- the length is unchanged
  pub placed_length : length after ≡ length canvas
  unfolding on_canvas
  placed_length = indexed_length changed 0 canvas

  pub placed_at : (k : ℕ) → k < length canvas → get_or after k 0 ≡ changed k (get_or canvas k 0)
  unfolding on_canvas
  placed_at k h = indexed_at changed canvas k 0 h

  pub placed_is :
      (l : List ℕ) → length l ≡ length canvas → ((k : ℕ) → k < length canvas → get_or l k 0 ≡ changed k (get_or canvas k 0)) → l ≡ after
  unfolding on_canvas
  placed_is l e same = indexed_is changed 0 canvas l e same

  -- the pixel (x, y) of a canvas is byte y * width + x
  module _ (height : ℕ) (long : length canvas ≡ width * height) (x y : ℕ) (x-low : x < width) (y-low : y < height) where
    there : y * width + x < length canvas
    there = omega (arith, next y height width y-low, mul_comm width height)

    column : (y * width + x) % width ≡ x
    column = mul-add-mod_self_right y width x ∙ mod-eq_of_lt x-low

    line : (y * width + x) / width ≡ y
    line =
        let none : x / width ≡ 0 = div-eq_of_lt x-low in
        mul-add-div_right (omega arith) y x ∙ omega arith

    pixel : get_or after (y * width + x) 0 ≡ pixel_of r row plane (pos x) (pos y) (get_or canvas (y * width + x) 0)
    pixel =
        placed_at (y * width + x) there
        ∙ ap₂ (λ (i j : ℕ). pixel_of r row plane (pos i) (pos j) (get_or canvas (y * width + x) 0)) column line

    -- inside the rectangle it takes its byte of the plane
    pub pixel_inside :
        has_pixel r (pos x) (pos y) ≡ true → get_or after (y * width + x) 0 ≡ get_or plane (byte_of r row (pos x) (pos y)) 0
    pixel_inside h = pixel ∙ pick_yes _ _ _ h

    -- and outside it is what it was
    pub pixel_outside : has_pixel r (pos x) (pos y) ≡ false → get_or after (y * width + x) 0 ≡ get_or canvas (y * width + x) 0
    pixel_outside h = pixel ∙ pick_no _ _ _ h

-- the canvas as a rectangle has them all
pub frame_has : (width height x y : ℕ) → x < width → y < height → has_pixel (frame_of width height) (pos x) (pos y) ≡ true
frame_has width height x y p q =
    between_pixel (frame_of width height) (pos x) (pos y)
    (le-leb 0 x (omega arith), lt-ltb x width p)
    (le-leb 0 y (omega arith), lt-ltb y height q)

-- a pixel between two corners
side_between : (a b : ℤ) (x : ℕ) → Between a b (pos x) → side_of a (pos x) < side_of a b
side_between a (negsuc b) x h = never h.1
side_between a (pos b) x h =
    let low = ltb-true x b h.1 in
    omega (arith, side_on a x b h.0 (omega arith))

-- the byte of a pixel inside stands before the padding of its row, and in the plane
pub record Held (r : Rect) (plane : List ℕ) (row x y : ℕ) : Type 0 where
  pub across : side_of r.left (pos x) < width_of r
  pub high : side_of r.top (pos y) < height_of r
  pub inside : byte_of r row (pos x) (pos y) < length plane

pub pixel_held :
    {width height : ℕ} {canvas : List ℕ} {r : Rect} {plane : List ℕ} {row : ℕ} → Fit width height canvas r plane row
    → (x y : ℕ) → has_pixel r (pos x) (pos y) ≡ true → Held r plane row x y
pixel_held {r = r} {plane} {row} fit x y h =
    let sides = pixel_between r (pos x) (pos y) h in
    let w = side_between r.left r.right x sides.0 in
    let v = side_between r.top r.bottom y sides.1 in
    record {
      across = w;
      high = v;
      inside = omega (arith, next (side_of r.top (pos y)) (height_of r) row v, mul_comm row (height_of r), fit.whole, fit.holds);
    }
