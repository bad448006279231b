-- Rows and planes (document 01, "Units"; document 02, request i): the forms that a row may take, and the one that a plane has.
use Rattle.std.specs.Prelude.{ℕ, ◌+◌, ◌*◌, ◌/◌, ◌≡◌, Bool, true, List, [], ◌∷◌, eqb}
use Rattle.laws.specs.Choice.{pick}
use Rattle.laws.specs.Lists.{some, first}
use Rattle.rect.specs.declared.Rect.{Rect}
use Rattle.rect.specs.declared.planes.Sides.{Sides}
use Rattle.rect.specs.declared.planes.Shape.{Shape}
use Rattle.rect.specs.declared.planes.Size.{Size}
use Rattle.rect.specs.Rect.{width_of, height_of}

-- padded to four bytes
unfoldable pub row_of : ℕ → ℕ → ℕ
row_of w bits = 4 * ((w * bits + 31) / 32)

-- the forms of a row of w pixels, in the order in which they are tried: the padded one and, where the short form is permitted, the width
-- itself
abbrev pub forms_of : ℕ → ℕ → Bool → List ℕ
forms_of w bits short = row_of w bits ∷ pick short (w ∷ []) []

abbrev pub is_form : ℕ → ℕ → Bool → ℕ → Bool
is_form w bits short row = some (eqb row) (forms_of w bits short)

-- ### The planes of a shape: sides, bits a pixel, whether the short form is permitted

abbrev pub sides_of : Rect → Sides
sides_of r = record { width = width_of r; height = height_of r }

abbrev pub shape_of : Sides → ℕ → Bool → Shape
shape_of sides bits short = record { sides = sides; bits = bits; short = short }

abbrev pub shape_forms : Shape → List ℕ
shape_forms f = forms_of f.sides.width f.bits f.short

-- a row that makes a plane of so many bytes: row times height
abbrev pub makes : Shape → ℕ → ℕ → Bool
makes f plane row = eqb (row * f.sides.height) plane

-- a plane of so many bytes is permitted where some form makes it, and its row is the first that does
unfoldable pub is_plane : Shape → ℕ → Bool
is_plane f plane = some (makes f plane) (shape_forms f)

unfoldable pub row_for : Shape → ℕ → ℕ
row_for f plane = first (makes f plane) (shape_forms f) 0

-- the same in other words (`taken`, `taken_only`): a row in one of its forms, which makes the plane, and is the padded one wherever that does
pub record Taken (f : Shape) (plane row : ℕ) : Type 0 where
  pub form : is_form f.sides.width f.bits f.short row ≡ true
  pub whole : plane ≡ row * f.sides.height
  pub padded_first : plane ≡ row_of f.sides.width f.bits * f.sides.height → row ≡ row_of f.sides.width f.bits

-- what an entry tells of it
unfoldable pub size_of : Shape → ℕ → Size
size_of f plane = record { width = f.sides.width; height = f.sides.height; plane = plane; row = row_for f plane }

abbrev pub no_sides : Sides
no_sides = record { width = 0; height = 0 }

abbrev pub no_size : Size
no_size = record { width = 0; height = 0; plane = 0; row = 0 }
