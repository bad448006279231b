-- The P rows of document 01, in its order, readings of open points, and planes of document 02's request (i): what is given, and the result.
use Rattle.std.specs.Prelude.{Bool, true, false, List, [], ◌∷◌, ◌++◌, ℕ, replicate}
use Rattle.packet.specs.Stream.{Outcome, bytes, refused, meaning}
use Rattle.packer.specs.Packing.{packed}
use Rattle.rect.specs.declared.planes.Shape.{Shape}
use Rattle.rect.specs.Rows.{row_of, shape_of, is_plane, row_for}

pub data Row : Type 0 where
  stream : List ℕ → ℕ → Outcome → Row
  pack : List ℕ → List ℕ → Row
  row : ℕ → ℕ → ℕ → Row
  fitted : Shape → ℕ → Bool → ℕ → Row

-- the row with the result that the definitions give
unfoldable pub worked : Row → Row
worked (stream s plane o) = stream s plane (meaning s plane)
worked (pack plane form) = pack plane (packed plane)
worked (row w bits n) = row w bits (row_of w bits)
worked (fitted f plane permitted n) = fitted f plane (is_plane f plane) (row_for f plane)

-- document 01's eleven; its last row has two values
unfoldable pub rows : List Row
rows =
    stream (0x83 ∷ 0x41 ∷ []) 3 (bytes (0x41 ∷ 0x41 ∷ 0x41 ∷ []))
    ∷ stream (0x00 ∷ 0x81 ∷ 0x07 ∷ []) 1 (bytes (0x07 ∷ []))
    ∷ stream (0x81 ∷ 0x07 ∷ 0x00 ∷ []) 1 (refused 23 2)
    ∷ stream (0x83 ∷ 0x41 ∷ []) 2 (refused 23 0)
    ∷ stream (0x02 ∷ 0x41 ∷ []) 2 (refused 22 0)
    ∷ stream (0x80 ∷ 0x41 ∷ []) 1 (refused 21 0)
    ∷ stream [] 0 (bytes [])
    ∷ stream [] 1 (refused 22 0)
    ∷ pack (0x41 ∷ 0x41 ∷ []) (0x02 ∷ 0x41 ∷ 0x41 ∷ [])
    ∷ pack (0x41 ∷ 0x42 ∷ 0x42 ∷ 0x42 ∷ []) (0x01 ∷ 0x41 ∷ 0x83 ∷ 0x42 ∷ [])
    ∷ row 32 1 4
    ∷ row 33 1 8
    ∷ []

-- how open points are read (docs/DECISIONS.md): a plane of length 0 accepts nothing but an empty stream; 22 comes before 23 in one packet,
-- and at the stream's end has the stream's length as place; 129 equal bytes are a run and two literals, which literals that follow join
unfoldable pub readings : List Row
readings =
    stream (0x00 ∷ []) 0 (refused 23 0)
    ∷ stream (0x80 ∷ []) 0 (refused 23 0)
    ∷ stream (0x02 ∷ 0x41 ∷ []) 1 (refused 22 0)
    ∷ stream (0x81 ∷ 0x07 ∷ []) 2 (refused 22 2)
    ∷ pack (replicate 129 0x07) (0xFF ∷ 0x07 ∷ 0x02 ∷ 0x07 ∷ 0x07 ∷ [])
    ∷ pack (replicate 129 0x07 ++ 0x08 ∷ []) (0xFF ∷ 0x07 ∷ 0x03 ∷ 0x07 ∷ 0x07 ∷ 0x08 ∷ [])
    ∷ pack [] []
    ∷ []

-- planes of request (i): two rows of five pixels with 16, 10 and 12 bytes; a width of 4, whose two forms are one; no height, which has the
-- padded row; no width; and 4 bits a pixel, where the short form is not permitted
abbrev fits : ℕ → ℕ → ℕ → Bool → Shape
fits w h bits short = shape_of (record { width = w; height = h }) bits short

unfoldable pub planes : List Row
planes =
    fitted (fits 5 2 8 true) 16 true 8
    ∷ fitted (fits 5 2 8 true) 10 true 5
    ∷ fitted (fits 5 2 8 true) 12 false 0
    ∷ fitted (fits 4 2 8 true) 8 true 4
    ∷ fitted (fits 5 0 8 true) 0 true 8
    ∷ fitted (fits 0 2 8 true) 0 true 0
    ∷ fitted (fits 5 2 4 false) 8 true 4
    ∷ fitted (fits 5 2 4 false) 10 false 0
    ∷ []
