-- Pixels, and the intersection of two rectangles (document 01, "Canvas and palette").
use Rattle.std.specs.Prelude.{Bool, ◌&&◌, ℤ, pos}
use Rattle.std.specs.Int.Signed.{lt_z, le_z}
use Rattle.laws.specs.Choice.{pick}
use Rattle.rect.specs.declared.Rect.{Rect}

-- the pixel (x, y) is in a rectangle: the lower right corner is exclusive
abbrev pub has_pixel : Rect → ℤ → ℤ → Bool
has_pixel r x y = (le_z r.left x && lt_z x r.right) && (le_z r.top y && lt_z y r.bottom)

unfoldable pub lesser_of : ℤ → ℤ → ℤ
lesser_of a b = pick (lt_z a b) a b

unfoldable pub greater_of : ℤ → ℤ → ℤ
greater_of a b = pick (lt_z a b) b a

abbrev pub no_pixels : Rect
no_pixels = record { left = pos 0; top = pos 0; right = pos 0; bottom = pos 0 }

-- the rectangle of four sides, and 0,0,0,0 where it has no pixel
unfoldable pub framed_of : ℤ → ℤ → ℤ → ℤ → Rect
framed_of l t r b = pick (lt_z l r) (pick (lt_z t b) (record { left = l; top = t; right = r; bottom = b }) no_pixels) no_pixels

-- the pixels in both, or zeros
abbrev pub shared_of : Rect → Rect → Rect
shared_of a b =
    framed_of (greater_of a.left b.left) (greater_of a.top b.top) (lesser_of a.right b.right) (lesser_of a.bottom b.bottom)
