-- A plane on a canvas (document 01, Canvas and palette; document 02, request i: the row).
use Rattle.std.specs.Prelude.{ℕ, ◌+◌, ◌*◌, ◌/◌, ◌%◌, ◌<◌, ◌≡◌, Bool, true, false, ◌&&◌, not, ◌⊎◌, List, eqb, leb, ℤ, pos, length, get_or, Ok, Err}
use Rattle.std.specs.Prelude.{Result as Answer}
use Rattle.laws.specs.Choice.{pick}
use Rattle.laws.specs.Lists.{indexed}
use Rattle.laws.specs.Results.{Result}
use Rattle.limits.specs.Limits.{side_limit}
use Rattle.rect.specs.declared.Rect.{Rect}
use Rattle.rect.specs.Rect.{side_of, width_of, height_of, is_within}
use Rattle.rect.specs.Rows.{row_of, is_form}
use Rattle.rect.specs.Shared.{has_pixel}
use Rattle.canvas.specs.declared.PlaceError.{PlaceError}
use Rattle.canvas.specs.declared.PlaceError.TheVariants.{BadCanvas, BadRect, BadPlane}

-- the document's number of a refusal
abbrev pub refusal : PlaceError → ℕ
refusal BadCanvas = 40
refusal BadRect = 41
refusal BadPlane = 42

-- and of an answer
abbrev pub place_paper : Answer (Unit {0}) PlaceError → ℕ
place_paper (Ok done) = 0
place_paper (Err e) = refusal e

abbrev pub place_result : Answer (Unit {0}) PlaceError → List ℕ → Result ℕ
place_result answer canvas = record { told = place_paper answer; dest = canvas }

abbrev pub untouched : ℕ → List ℕ → Result ℕ
untouched number canvas = record { told = number; dest = canvas }

-- sides from 1 up to the limit, and a length that is their product
abbrev pub is_canvas : ℕ → ℕ → ℕ → Bool
is_canvas width height long =
    leb 1 width && leb width side_limit && leb 1 height && leb height side_limit && eqb long (width * height)

-- a row in one of the forms of 8 bits a pixel, the short one included, and a length that is row times height
abbrev pub is_plane_of : Rect → ℕ → ℕ → Bool
is_plane_of r row long = is_form (width_of r) 8 true row && eqb long (row * height_of r)

-- where the byte of the pixel (x, y) stands in a plane of r whose rows are so many bytes long
abbrev pub byte_of : Rect → ℕ → ℤ → ℤ → ℕ
byte_of r row x y = side_of r.top y * row + side_of r.left x

-- a pixel inside the rectangle takes its byte, and one outside keeps its own
abbrev pub pixel_of : Rect → ℕ → List ℕ → ℤ → ℤ → ℕ → ℕ
pixel_of r row plane x y own = pick (has_pixel r x y) (get_or plane (byte_of r row x y) 0) own

-- the canvas with the plane on it: byte k is the pixel (k % width, k / width)
unfoldable pub on_canvas : ℕ → ℕ → Rect → List ℕ → List ℕ → List ℕ
on_canvas width row r plane = indexed (λ (k : ℕ). pixel_of r row plane (pos (k % width)) (pos (k / width))) 0

-- what `place` leaves: the tests in the document's order
unfoldable pub placed : ℕ → ℕ → List ℕ → Rect → List ℕ → ℕ → Result ℕ
placed width height canvas r plane row =
    pick (not (is_canvas width height (length canvas))) (untouched 40 canvas)
    (pick (not (is_within r)) (untouched 41 canvas)
    (pick (not (is_plane_of r row (length plane))) (untouched 42 canvas)
    (record { told = 0; dest = on_canvas width row r plane canvas })))

-- what an accepted call leaves, in other words (`place_shows`): a row in one of its two forms; a canvas pixel (x, y) of the rectangle has the
-- plane's byte at row times y plus x, counted from the rectangle's corner, which the plane has and no padding is; any other pixel keeps its
-- own
pub record Shows (width height : ℕ) (before after : List ℕ) (r : Rect) (plane : List ℕ) (row : ℕ) : Type 0 where
  pub form : (row ≡ row_of (width_of r) 8) ⊎ (row ≡ width_of r)
  pub long : length after ≡ length before
  pub inside :
      (x y : ℕ) → x < width → y < height → has_pixel r (pos x) (pos y) ≡ true
      → get_or after (y * width + x) 0 ≡ get_or plane (row * side_of r.top (pos y) + side_of r.left (pos x)) 0
  pub held :
      (x y : ℕ) → has_pixel r (pos x) (pos y) ≡ true
      → (side_of r.left (pos x) < width_of r) × (row * side_of r.top (pos y) + side_of r.left (pos x) < length plane)
  pub outside :
      (x y : ℕ) → x < width → y < height → has_pixel r (pos x) (pos y) ≡ false → get_or after (y * width + x) 0 ≡ get_or before (y * width + x) 0
