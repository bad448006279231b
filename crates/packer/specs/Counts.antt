-- The count bytes of a stream: none that the packer leaves is 128.
use Rattle.std.specs.Prelude.{ℕ, zero, suc, List, [], ◌∷◌, length, drop}
use Rattle.packet.specs.Stream.{packet_of, data_of}

-- packet by packet; fuel of the stream's length never runs out
unfoldable pub counts_with : ℕ → List ℕ → List ℕ
counts_with zero stream = []
counts_with (suc fuel) [] = []
counts_with (suc fuel) (count ∷ rest) = count ∷ counts_with fuel (drop (data_of (packet_of count rest)) rest)

abbrev pub counts : List ℕ → List ℕ
counts stream = counts_with (length stream) stream
