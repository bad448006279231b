-- The limits of document 01, "What is read and what is only listed", of which document 02, request ix, raised input, sides and plane.
use Rattle.std.specs.Prelude.{ℕ, ℤ, pos, negsuc}

-- bytes of an input
abbrev pub input_limit : ℕ
input_limit = 1073741824

-- sides of an image, of a saved rectangle and of a canvas
abbrev pub side_limit : ℕ
side_limit = 30000

-- layers of an image
abbrev pub layer_limit : ℕ
layer_limit = 64

-- coordinates are -32,768 to 32,767: `negsuc n` is -n - 1
abbrev pub least_coordinate : ℤ
least_coordinate = negsuc 32767

abbrev pub most_coordinate : ℤ
most_coordinate = pos 32767

-- bytes of a plane
abbrev pub plane_limit : ℕ
plane_limit = 900000000
