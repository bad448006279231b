-- Demand 2: the table is the one that the specification gives, as document 01 reads it and document 02's requests change it; a plane is the
-- bytes that its packets mean, and a plane that was packed reads back as itself.
use Rattle.std.specs.Prelude.{◌≡◌, List, ℕ, ◌+◌, ◌≤◌, ◌<◌, length, take, get_or}
use Rattle.laws.specs.Lists.{filter, part}
use Rattle.laws.specs.Results.{Result}
use Rattle.limits.specs.Limits.{plane_limit}
use Rattle.entry.specs.declared.Entry.{Entry}
use Rattle.walk.specs.Promised.{Tiles, OneOwner}
use Rattle.headers.specs.FileHeader.{file_header_size}
use Rattle.listing.specs.Right.{Right, Headed, Accepted, is_layer, layers_in}
use Rattle.packet.specs.declared.told.Plane.{Plane}
use Rattle.packet.specs.FullPackets.{StreamOf}
use Rattle.packet.specs.Reading.{filled, plane_read}
use Rattle.packer.specs.Packing.{packs}

-- ### The table

-- of any listing, accepted or not
pub record InOrder (es : List Entry) : Type 0 where
  -- entries stand as their blocks do in the file
  pub file_order : (i j : ℕ) (d : Entry) → i < j → j < length es → (get_or es i d).block.place + (get_or es i d).block.owned ≤ (get_or es j d).block.place
  -- layers count 0, 1, 2 ..
  pub layer_numbers : (k : ℕ) (d : Entry) → k < layers_in es → (get_or (filter is_layer es) k d).layer ≡ k

-- each entry is the one that the rules give for the bytes at its place, by the entries before it and by its own header
abbrev pub EachRight : List ℕ → List Entry → Type 0
EachRight s es = (k : ℕ) (d : Entry) → k < length es → Right s (take k es) (get_or es k d) × Headed s (get_or es k d)

-- of an accepted file: side by side from byte 36 to the end, each byte has one owner, and nothing is missing
pub record WholeFile (s : List ℕ) (es : List Entry) : Type 0 where
  pub tiles : Tiles file_header_size es (length s)
  pub owner : (k : ℕ) → file_header_size ≤ k → k < length s → OneOwner k es
  pub complete : Accepted s es

-- ### A plane

-- the bytes of a stored part: themselves where the code is 0, what its packets give where it is 1
pub data Meant (code : ℕ) (stream : List ℕ) : List ℕ → Type 0 where
  raw : code ≡ 0 → Meant code stream stream
  packed : {xs : List ℕ} → code ≡ 1 → StreamOf stream xs → Meant code stream xs

-- what was read is what the stored part means, so long, in front of the destination
pub record MeantPlane (code : ℕ) (stream : List ℕ) (stored plane : ℕ) (dest : List ℕ) (r : Result Plane) : Type 0 where
  pub bytes : List ℕ
  pub meant : Meant code stream bytes
  pub long : length bytes ≡ plane
  pub leaves : r ≡ filled stored plane bytes dest

-- a stored part inside the input is read wherever it means a plane, and nothing else is
pub record ReadsMeant (input : List ℕ) (start stored code : ℕ) (dest : List ℕ) : Type 0 where
  pub reads :
      (xs : List ℕ) → Meant code (part input start stored) xs → start + stored ≤ length input → length xs ≤ plane_limit → length xs ≤ length dest
      → plane_read input start stored (length xs) code dest ≡ filled stored (length xs) xs dest
  pub only :
      (plane : ℕ) → let r = plane_read input start stored plane code dest in r.told.number ≡ 0 → MeantPlane code (part input start stored) stored plane dest r

-- ### The way back

-- what a packer that answered 0 left in its buffer, from 0 for the length told, reads as the plane
abbrev pub ReadsBack : List ℕ → List ℕ → Type 0
ReadsBack plane buffer =
    (packs plane buffer).told.number ≡ 0 → (dest : List ℕ) → length plane ≤ length dest
    → let n = (packs plane buffer).told.length in plane_read (packs plane buffer).dest 0 n (length plane) 1 dest ≡ filled n (length plane) plane dest
