-- What packets are, whatever reads or writes them (document 01, Packets): how a list of them is stored, and the bytes that it gives. A reader
-- meets a packet by its count (`Packet`); here it has its bytes with it.
use Rattle.std.specs.Prelude.{◌≡◌, List, [], ◌∷◌, ◌++◌, ℕ, ◌+◌, ◌-◌, ◌≤◌, ◌<◌, length, replicate}
use Rattle.packet.specs.Stream.{Look, End, Next, Count128, Missing, TooMuch, look_of}

-- bytes as they are, or one byte so many times
pub data FullPacket : Type 0 where
  literals : List ℕ → FullPacket
  run : ℕ → ℕ → FullPacket

-- a count below 128 and that many bytes; a count above 128 and the byte that is repeated
abbrev pub stored : FullPacket → List ℕ
stored (literals xs) = length xs ∷ xs
stored (run n b) = (128 + n) ∷ b ∷ []

abbrev pub given : FullPacket → List ℕ
given (literals xs) = xs
given (run n b) = replicate n b

-- at most 127 literals, or none; a run of 0 would have the count 128, which has no meaning. The count is a byte, so a run has at most 127
abbrev pub Counted : FullPacket → Type 0
Counted (literals xs) = length xs ≤ 127
Counted (run n b) = 1 ≤ n

-- ### One after another

abbrev pub stored_all : List FullPacket → List ℕ
stored_all [] = []
stored_all (p ∷ ps) = stored p ++ stored_all ps

abbrev pub given_all : List FullPacket → List ℕ
given_all [] = []
given_all (p ∷ ps) = given p ++ given_all ps

-- each is counted, and begins before the plane is full
pub data Good : List FullPacket → Type 0 where
  none : Good []
  more : {p : FullPacket} {ps : List FullPacket} → Counted p → 0 < length (given_all (p ∷ ps)) → Good ps → Good (p ∷ ps)

-- a stream is the stored form of packets that give these bytes
pub record StreamOf (stream xs : List ℕ) : Type 0 where
  pub packets : List FullPacket
  pub good : Good packets
  pub is : stream ≡ stored_all packets
  pub gives : xs ≡ given_all packets

-- ### Where a stream is refused

-- packets that each begin before the plane is full, and fit into what is left of it
pub data Ahead : List FullPacket → ℕ → Type 0 where
  nothing : {left : ℕ} → Ahead [] left
  then : {p : FullPacket} {ps : List FullPacket} {left : ℕ} → Counted p → 0 < left → length (given p) ≤ left → Ahead ps (left - length (given p)) → Ahead (p ∷ ps) left

-- the number of a look that refuses
abbrev pub look_number : Look → ℕ
look_number End = 0
look_number (Next p) = 0
look_number Count128 = 21
look_number Missing = 22
look_number TooMuch = 23

-- all before a place of a stream are packets for a plane, and the look at that place refuses
pub record RefusedAt (stream : List ℕ) (plane number place : ℕ) : Type 0 where
  pub packets : List FullPacket
  pub ahead : Ahead packets plane
  pub rest : List ℕ
  pub is : stream ≡ stored_all packets ++ rest
  pub there : place ≡ length (stored_all packets)
  pub refuses : look_number (look_of rest (plane - length (given_all packets))) ≡ number
