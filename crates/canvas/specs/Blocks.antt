-- What the functions behind `place` say and ask: the canvas as a rectangle, and a block of rows.
use Rattle.std.specs.Prelude.{ℕ, zero, suc, ◌+◌, ◌*◌, ◌<◌, ◌≤◌, ◌≡◌, List, pos, length}
use Rattle.laws.specs.Lists.{over, part}
use Rattle.limits.specs.Limits.{side_limit}
use Rattle.rect.specs.declared.Rect.{Rect}
use Rattle.rect.specs.Rect.{Sized, width_of, height_of}

-- the canvas as a rectangle
abbrev pub frame_of : ℕ → ℕ → Rect
frame_of width height = record { left = pos 0; top = pos 0; right = pos width; bottom = pos height }

-- the first i rows of a block are on the canvas: row k starts at from + k * row in the plane, and at at + k * across on the canvas
unfoldable pub rows_of : List ℕ → ℕ → ℕ → ℕ → List ℕ → ℕ → ℕ → ℕ → List ℕ
rows_of plane row from w canvas across at zero = canvas
rows_of plane row from w canvas across at (suc i) =
    over (rows_of plane row from w canvas across at i) (at + i * across) (part plane (from + i * row) w)

-- every row lies inside the canvas and inside the plane
pub record Room (plane : List ℕ) (row from w : ℕ) (canvas : List ℕ) (across at h : ℕ) : Type 0 where
  pub there : (i : ℕ) → i < h → at + i * across + w ≤ length canvas
  pub here : (i : ℕ) → i < h → from + i * row + w ≤ length plane

-- a canvas of its sides, and a plane whose rows hold the rectangle's pixels
pub record Fit (width height : ℕ) (canvas : List ℕ) (r : Rect) (plane : List ℕ) (row : ℕ) : Type 0 where
  pub some : 0 < width
  pub wide : width ≤ side_limit
  pub high : height ≤ side_limit
  pub long : length canvas ≡ width * height
  pub sized : Sized r
  pub holds : width_of r ≤ row
  pub whole : length plane ≡ row * height_of r
