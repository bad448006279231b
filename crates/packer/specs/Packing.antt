-- The packed form of a plane, and what the packer answers and leaves (document 01, Packets and Answer numbers).
use Rattle.std.specs.Prelude.{ℕ, zero, suc, ◌+◌, Bool, false, not, List, [], ◌∷◌, ◌++◌, eqb, ltb, length, take, drop, get_or, Ok, Err}
use Rattle.std.specs.Prelude.{Result as Answer}
use Rattle.laws.specs.Choice.{pick}
use Rattle.laws.specs.Results.{Result}
use Rattle.limits.specs.Limits.{plane_limit}
use Rattle.packet.specs.declared.Packet.{Packet}
use Rattle.packet.specs.declared.Packet.TheVariants.{Literals, Run}
use Rattle.packet.specs.Stream.{count_of}
use Rattle.packer.specs.declared.told.Packed.{Packed}
use Rattle.packer.specs.declared.PackError.{PackError}
use Rattle.packer.specs.declared.PackError.TheVariants.{NoRoom, OverLimit}

-- the next three bytes are equal
unfoldable pub three : List ℕ → Bool
three [] = false
three (a ∷ []) = false
three (a ∷ b ∷ []) = false
three (a ∷ b ∷ c ∷ plane) = pick (eqb a b) (eqb b c) false

-- the next byte is not b
unfoldable pub other_than : ℕ → List ℕ → Bool
other_than b plane = not (eqb (get_or plane 0 0) b)

-- how many bytes stand before the place where a test holds of what follows, or the end; no more than `most`
unfoldable pub until : ℕ → (List ℕ → Bool) → List ℕ → ℕ
until zero stop plane = 0
until (suc most) stop [] = 0
until (suc most) stop (b ∷ plane) = pick (stop (b ∷ plane)) 0 (suc (until most stop plane))

-- greedy: a run from three equal bytes on, else literals up to the next such run; at most 127 either way
unfoldable pub next_of : List ℕ → Packet
next_of plane =
    pick (three plane) (Run (until 127 (other_than (get_or plane 0 0)) plane) (get_or plane 0 0))
    (Literals (until 127 three plane))

-- a packet at the front of a plane, as it is stored
abbrev pub stored_as : Packet → List ℕ → List ℕ
stored_as (Literals n) plane = n ∷ take n plane
stored_as (Run n b) plane = (128 + n) ∷ b ∷ []

-- a packet gives a byte at least, so fuel of the plane's length never runs out (`packed_steady`)
unfoldable pub packed_with : ℕ → List ℕ → List ℕ
packed_with zero plane = []
packed_with (suc fuel) [] = []
packed_with (suc fuel) (b ∷ plane) =
    stored_as (next_of (b ∷ plane)) (b ∷ plane) ++ packed_with fuel (drop (count_of (next_of (b ∷ plane))) (b ∷ plane))

unfoldable pub packed : List ℕ → List ℕ
packed plane = packed_with (length plane) plane

-- the document's number of a refusal
abbrev pub refusal : PackError → ℕ
refusal NoRoom = 30
refusal OverLimit = 31

-- what the document tells of an answer
abbrev pub paper : Answer ℕ PackError → Packed
paper (Ok n) = record { number = 0; length = n }
paper (Err e) = record { number = refusal e; length = 0 }

abbrev pub left_by : Answer ℕ PackError → List ℕ → Result Packed
left_by answer dest = record { told = paper answer; dest = dest }

-- what `pack` leaves: the packed form in front, and the rest of the destination unchanged
unfoldable pub packs : List ℕ → List ℕ → Result Packed
packs plane dest =
    pick (ltb plane_limit (length plane)) (left_by (Err OverLimit) dest)
    (pick (ltb (length dest) (length (packed plane))) (left_by (Err NoRoom) dest)
    (left_by (Ok (length (packed plane))) (packed plane ++ drop (length (packed plane)) dest)))
