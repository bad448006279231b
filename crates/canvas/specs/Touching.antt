-- Which pixels a plane touches, and a plane that is placed again (document 02, request xi).
use Rattle.std.specs.Prelude.{ℕ, ◌+◌, ◌*◌, ◌<◌, ◌≡◌, true, false, List, ℤ, pos, length, get_or}
use Rattle.laws.specs.Results.{Result}
use Rattle.rect.specs.declared.Rect.{Rect}
use Rattle.rect.specs.Shared.{has_pixel, shared_of}
use Rattle.canvas.specs.Placing.{byte_of, placed}
use Rattle.canvas.specs.Blocks.{frame_of}

-- the pixel (x, y) is one of a canvas
pub record OnCanvas (width height : ℕ) (x y : ℤ) : Type 0 where
  pub column : ℕ
  pub line : ℕ
  pub x_is : x ≡ pos column
  pub y_is : y ≡ pos line
  pub across : column < width
  pub down : line < height

-- the pixels that the rectangle shares with the canvas, and no others: each of them is on the canvas and takes its byte of the plane,
-- whatever it was, and each other pixel of the canvas keeps its own
pub record Touches (width height : ℕ) (before after : List ℕ) (r : Rect) (plane : List ℕ) (row : ℕ) : Type 0 where
  pub long : length after ≡ length before
  pub there : (x y : ℤ) → has_pixel (shared_of r (frame_of width height)) x y ≡ true → OnCanvas width height x y
  pub touched :
      (x y : ℕ) → has_pixel (shared_of r (frame_of width height)) (pos x) (pos y) ≡ true
      → get_or after (y * width + x) 0 ≡ get_or plane (byte_of r row (pos x) (pos y)) 0
  pub kept :
      (x y : ℕ) → x < width → y < height → has_pixel (shared_of r (frame_of width height)) (pos x) (pos y) ≡ false
      → get_or after (y * width + x) 0 ≡ get_or before (y * width + x) 0

-- ### What is said of a function that places, by what it may be given and leave

pub record Given : Type 0 where
  pub width : ℕ
  pub height : ℕ
  pub canvas : List ℕ
  pub r : Rect
  pub plane : List ℕ
  pub row : ℕ

-- the same on another canvas
abbrev pub onto : List ℕ → Given → Given
onto canvas g = record { width = g.width; height = g.height; canvas = canvas; r = g.r; plane = g.plane; row = g.row }

abbrev pub placed_by : Given → Result ℕ
placed_by g = placed g.width g.height g.canvas g.r g.plane g.row

pub record Places (Leaves : Given → Result ℕ → Type 0) : Type 0 where
  pub again : (g : Given) (once twice : Result ℕ) → Leaves g once → Leaves (onto once.dest g) twice → twice ≡ once
  pub touches :
      (g : Given) (once : Result ℕ) → Leaves g once → once.told ≡ 0
      → Touches g.width g.height g.canvas once.dest g.r g.plane g.row
