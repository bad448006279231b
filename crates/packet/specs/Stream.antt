-- What a stream of packets means for a plane of so many bytes (document 01, Packets).
use Rattle.std.specs.Prelude.{ℕ, zero, suc, ◌+◌, ◌-◌, List, [], ◌∷◌, ◌++◌, eqb, ltb, length, take, drop, get_or, replicate}
use Rattle.laws.specs.Choice.{pick}
use Rattle.packet.specs.declared.Packet.{Packet}
use Rattle.packet.specs.declared.Packet.TheVariants.{Literals, Run}

-- below 128: so many literals follow; above: one byte follows, and stands for count less 128 of it
unfoldable pub packet_of : ℕ → List ℕ → Packet
packet_of count rest = pick (ltb count 128) (Literals count) (Run (count - 128) (get_or rest 0 0))

-- the bytes of the stream that follow the count
abbrev pub data_of : Packet → ℕ
data_of (Literals n) = n
data_of (Run n b) = 1

-- the bytes of the stream, the count with them
abbrev pub size_of : Packet → ℕ
size_of p = data_of p + 1

-- the bytes of the plane
abbrev pub count_of : Packet → ℕ
count_of (Literals n) = n
count_of (Run n b) = n

-- the bytes that a packet at the front of a stream gives
abbrev pub bytes_of : Packet → List ℕ → List ℕ
bytes_of (Literals n) stream = take n (drop 1 stream)
bytes_of (Run n b) stream = replicate n b

-- what stands at a place of a stream: the end of a full plane, a packet, or a packet that is refused
pub data Look : Type 0 where
  End : Look
  Next : Packet → Look
  Count128 : Look
  Missing : Look
  TooMuch : Look

-- a packet, where so many bytes of the stream follow its count and the plane has so many left
unfoldable pub fitted : ℕ → ℕ → Packet → Look
fitted rest left p =
    pick (ltb rest (data_of p)) Missing
    (pick (ltb left (count_of p)) TooMuch
    (Next p))

-- what stands at the front of a stream where the plane has so many bytes left. The tests by rank: 23 for
-- a plane that is full already, 22 for a stream that is over, 21, 22 for data that is cut off, 23 for too much
unfoldable pub look_of : List ℕ → ℕ → Look
look_of [] left = pick (eqb left 0) End Missing
look_of (count ∷ rest) left =
    pick (eqb left 0) TooMuch
    (pick (eqb count 128) Count128
    (fitted (length rest) left (packet_of count rest)))

-- the plane's bytes, or a refusal: its number and the start of the packet that is refused
pub data Outcome : Type 0 where
  bytes : List ℕ → Outcome
  refused : ℕ → ℕ → Outcome

-- bytes in front of what the rest of a stream means
abbrev pub join : List ℕ → Outcome → Outcome
join xs (bytes ys) = bytes (xs ++ ys)
join xs (refused number place) = refused number place

-- what a stream means from a packet on; `more` says it of what stands after the packet
abbrev pub meant : (Packet → Outcome) → List ℕ → ℕ → Look → Outcome
meant more stream at End = bytes []
meant more stream at Count128 = refused 21 at
meant more stream at Missing = refused 22 at
meant more stream at TooMuch = refused 23 at
meant more stream at (Next p) = join (bytes_of p stream) (more p)

-- the stream from the place `at` on. A packet takes a byte at least, so fuel above the stream's length never runs out (`steady`)
unfoldable pub meaning_with : ℕ → List ℕ → ℕ → ℕ → Outcome
meaning_with zero stream at left = refused 22 at
meaning_with (suc fuel) stream at left =
    meant (λ p. meaning_with fuel (drop (size_of p) stream) (at + size_of p) (left - count_of p)) stream at (look_of stream left)

abbrev pub meaning_from : List ℕ → ℕ → ℕ → Outcome
meaning_from stream at left = meaning_with (suc (length stream)) stream at left

unfoldable pub meaning : List ℕ → ℕ → Outcome
meaning stream plane = meaning_from stream 0 plane
