-- What the packet reader and the plane reader answer and leave (document 01, Answer numbers).
use Rattle.std.specs.Prelude.{ℕ, ◌+◌, List, ◌++◌, eqb, ltb, length, drop, Ok, Err}
use Rattle.laws.specs.Choice.{pick}
use Rattle.laws.specs.Lists.{part}
use Rattle.laws.specs.Results.{Result}
use Rattle.limits.specs.Limits.{plane_limit}
use Rattle.packet.specs.Stream.{Outcome, bytes, refused, meaning}
use Rattle.packet.specs.declared.told.Plane.{Plane}
use Rattle.packet.specs.declared.answer.Read.{Read}
use Rattle.packet.specs.declared.answer.PlaneError.{PlaneError}
use Rattle.packet.specs.declared.answer.PlaneError.TheVariants.{NoRoom, Count128, Missing, TooMuch, UnknownCode, RawLength, OverLimit, Outside}
use Rattle.std.specs.Prelude.{Result as Answer}

-- what reading answers: what was read, or why nothing is written
abbrev pub PlaneAnswer : Type 0
PlaneAnswer = Answer Read PlaneError

abbrev pub good : ℕ → ℕ → Plane
good stored plane = record { number = 0; place = stored; bytes = plane }

abbrev pub refusal : ℕ → ℕ → Plane
refusal number place = record { number = number; place = place; bytes = 0 }

-- what the document tells of an answer
abbrev pub paper : PlaneAnswer → Plane
paper (Ok read) = good read.stored read.plane
paper (Err NoRoom) = refusal 20 0
paper (Err (Count128 place)) = refusal 21 place
paper (Err (Missing place)) = refusal 22 place
paper (Err (TooMuch place)) = refusal 23 place
paper (Err UnknownCode) = refusal 24 0
paper (Err RawLength) = refusal 25 0
paper (Err OverLimit) = refusal 26 0
paper (Err Outside) = refusal 27 0

abbrev pub left_by : PlaneAnswer → List ℕ → Result Plane
left_by answer dest = record { told = paper answer; dest = dest }

-- nothing is written
abbrev pub untouched : ℕ → List ℕ → Result Plane
untouched number dest = record { told = refusal number 0; dest = dest }

-- the plane in front, and the rest of the destination unchanged
abbrev pub filled : ℕ → ℕ → List ℕ → List ℕ → Result Plane
filled stored plane xs dest = record { told = good stored plane; dest = xs ++ drop plane dest }

-- an outcome's paper, where the stream has so many bytes
abbrev pub verdict : ℕ → ℕ → Outcome → Plane
verdict stored plane (bytes xs) = good stored plane
verdict stored plane (refused number place) = refusal number place

-- the destination after an outcome
abbrev pub laid : ℕ → List ℕ → Outcome → List ℕ
laid plane dest (bytes xs) = xs ++ drop plane dest
laid plane dest (refused number place) = dest

-- what `unpack` leaves
unfoldable pub unpacked : List ℕ → ℕ → List ℕ → Result Plane
unpacked stream plane dest =
    pick (ltb (length dest) plane) (untouched 20 dest)
    (record { told = verdict (length stream) plane (meaning stream plane); dest = laid plane dest (meaning stream plane) })

-- what `read_plane` leaves: the tests in the document's order. No sum wraps here
unfoldable pub plane_read : List ℕ → ℕ → ℕ → ℕ → ℕ → List ℕ → Result Plane
plane_read input start stored plane code dest =
    pick (ltb 1 code) (untouched 24 dest)
    (pick (ltb plane_limit plane) (untouched 26 dest)
    (pick (ltb (length input) (start + stored)) (untouched 27 dest)
    (pick (ltb (length dest) plane) (untouched 20 dest)
    (pick (eqb code 1) (unpacked (part input start stored) plane dest)
    (pick (eqb stored plane) (filled stored plane (part input start stored) dest)
    (untouched 25 dest))))))
