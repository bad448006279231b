-- Demand 3: more input never takes anything back. One input is the beginning of another, both within the size limit, and the longer has at
-- least as much table room.
use Rattle.std.specs.Prelude.{◌≡◌, true, List, ◌++◌, ℕ, ◌<◌, length, get_or, Err}
use Rattle.laws.specs.Results.{Result}
use Rattle.answer.specs.declared.Refusal.TheVariants.{EndsTooSoon}
use Rattle.answer.specs.Answers.{Accepted}
use Rattle.answer.specs.declared.Stopped.TheVariants.{Rule, TableFull}
use Rattle.entry.specs.declared.Entry.{Entry}
use Rattle.packet.specs.declared.told.Plane.{Plane}
use Rattle.packet.specs.Reading.{plane_read}
use Rattle.listing.specs.Listing.{listed}
use Rattle.listing.specs.Right.{is_channel, image_in}

-- the plane of an entry: the content of its block, the plane length that it tells, and the compression that its own input's image says
abbrev pub plane_of : List ℕ → Entry → List ℕ → Result Plane
plane_of s e dest = plane_read s e.content.start e.content.stored e.size.plane (image_in s).compression dest

-- s is the shorter, s ++ t the longer
pub record Kept (s t : List ℕ) (room more : ℕ) : Type 0 where
  -- each entry listed for the shorter stands at the same position, unchanged, in the longer's list
  pub entries :
      (k : ℕ) (d : Entry) → k < length (listed s room).entries
      → (k < length (listed (s ++ t) more).entries) × (get_or (listed (s ++ t) more).entries k d ≡ get_or (listed s room).entries k d)
  -- what the image says is the same in both
  pub image : 0 < length (listed s room).entries → image_in (s ++ t) ≡ image_in s
  -- and its plane reads the same: number, place, bytes, and the whole destination
  pub planes :
      (k : ℕ) (d : Entry) → k < length (listed s room).entries → is_channel (get_or (listed s room).entries k d) ≡ true → (dest : List ℕ)
      → plane_of (s ++ t) (get_or (listed (s ++ t) more).entries k d) dest ≡ plane_of s (get_or (listed s room).entries k d) dest
  -- refused for anything but ending too soon or a full table, the longer gets that same refusal, place and list
  pub refusal :
      ((listed s room).answer ≡ Accepted → ⊥) → ((listed s room).answer ≡ Err (Rule EndsTooSoon) → ⊥) → ((listed s room).answer ≡ Err TableFull → ⊥)
      → listed (s ++ t) more ≡ listed s room
