-- Rectangles and their rules (document 01, "Rectangles", "Limits"; document 000, section 4.2, RECT).
use Rattle.std.specs.Prelude.{ℕ, ◌+◌, ◌≤◌, ◌≡◌, Bool, true, ◌&&◌, ◌||◌, List, leb, ℤ, ◌-ℤ◌, nat_abs}
use Rattle.std.specs.Int.Signed.{le_z}
use Rattle.endian.specs.Number.{signed_at}
use Rattle.limits.specs.Limits.{side_limit, least_coordinate, most_coordinate}
use Rattle.rect.specs.declared.Rect.{Rect}

-- four signed corners in a file: left, top, right, bottom
unfoldable pub rect_at : List ℕ → ℕ → Rect
rect_at s at = record {
  left = signed_at s at;
  top = signed_at s (at + 4);
  right = signed_at s (at + 8);
  bottom = signed_at s (at + 12);
}

-- coordinates of -32,768 to 32,767, in order on both axes
abbrev pub is_proper : Rect → Bool
is_proper r =
    le_z least_coordinate r.left && le_z r.left r.right && le_z r.right most_coordinate
    && le_z least_coordinate r.top && le_z r.top r.bottom && le_z r.bottom most_coordinate

-- of corners in order: equal on an axis (`empty_yes`, `empty_is`)
abbrev pub is_empty : Rect → Bool
is_empty r = le_z r.right r.left || le_z r.bottom r.top

abbrev pub is_inside : Rect → Rect → Bool
is_inside r border =
    le_z border.left r.left && le_z border.top r.top && le_z r.right border.right && le_z r.bottom border.bottom

-- the distance of two corners
unfoldable pub side_of : ℤ → ℤ → ℕ
side_of from to = nat_abs (to -ℤ from)

abbrev pub width_of : Rect → ℕ
width_of r = side_of r.left r.right

abbrev pub height_of : Rect → ℕ
height_of r = side_of r.top r.bottom

-- proper, with sides up to the limit
abbrev pub is_within : Rect → Bool
is_within r = is_proper r && (leb (width_of r) side_limit && leb (height_of r) side_limit)

-- a saved rectangle: within the limits, and inside its own border unless empty
abbrev pub is_saved : Rect → Rect → Bool
is_saved r border = is_within r && (is_empty r || is_inside r border)

-- what the tests say, by name: two corners of an axis, a proper rectangle, and one whose planes have a length within the limit
pub record Span (from to : ℤ) : Type 0 where
  pub low : le_z least_coordinate from ≡ true
  pub order : le_z from to ≡ true
  pub high : le_z to most_coordinate ≡ true

pub record Proper (r : Rect) : Type 0 where
  pub across : Span r.left r.right
  pub down : Span r.top r.bottom

pub record Sized (r : Rect) : Type 0 where
  pub proper : Proper r
  pub width : width_of r ≤ side_limit
  pub height : height_of r ≤ side_limit
