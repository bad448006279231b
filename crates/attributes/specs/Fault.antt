-- The earliest field of a chunk whose value is not permitted: answer 8 of document 01 is that there is one, and its place is the field's.
use Rattle.std.specs.Prelude.{ℕ, ◌+◌, ◌<◌, ◌≡◌, Bool, true, false, ◌&&◌, List, [], ◌∷◌, leb, ltb, length, take, Option, None, Some}
use Rattle.laws.specs.All.{All}
use Rattle.laws.specs.Lists.{over}

unfoldable pub unless_of : Option ℕ → Bool → ℕ → Option ℕ
unless_of (Some earlier) permitted offset = Some earlier
unless_of None true offset = None
unless_of None false offset = Some offset

-- a rule is a list of fields in the order in which they are judged, each by its offset in the chunk, its size, and whether it is permitted
pub record Field : Type 0 where
  pub offset : ℕ
  pub size : ℕ
  pub permitted : Bool

abbrev pub field : ℕ → ℕ → Bool → Field
field o n p = record { offset = o; size = n; permitted = p }

abbrev pub from : Option ℕ → List Field → Option ℕ
from f [] = f
from f (x ∷ xs) = from (unless_of f x.permitted x.offset) xs

abbrev pub earliest : List Field → Option ℕ
earliest xs = from None xs

-- ### What it means that a field is named (document 02, request vi)

-- the field of so many bytes at an offset is judged so, and each that is judged before it is permitted
pub data Reaches (offset size : ℕ) (so : Bool) : List Field → Type 0 where
  here : {x : Field} {xs : List Field} → x.offset ≡ offset → x.size ≡ size → x.permitted ≡ so → Reaches offset size so (x ∷ xs)
  behind : {x : Field} {xs : List Field} → x.permitted ≡ true → Reaches offset size so xs → Reaches offset size so (x ∷ xs)

-- it is the first that is not permitted
abbrev pub First : ℕ → ℕ → List Field → Type 0
First offset size = Reaches offset size false

-- it is permitted, as those before it
abbrev pub Passed : ℕ → ℕ → List Field → Type 0
Passed offset size = Reaches offset size true

-- so many bytes
pub record Bytes (size : ℕ) : Type 0 where
  pub list : List ℕ
  pub long : length list ≡ size
  pub each : All (λ (b : ℕ). b < 256) list

-- by a rule of a chunk's bytes, others in the field would pass
pub record Mended (rule : List ℕ → List Field) (chunk : List ℕ) (offset size : ℕ) : Type 0 where
  pub bytes : Bytes size
  pub passed : Passed offset size (rule (over chunk offset bytes.list))

-- each field stands in front of the next, so that those that are judged before it stand in front of it
abbrev pub in_front : Field → Field → Bool
in_front x y = ltb x.offset y.offset && leb (x.offset + x.size) y.offset

abbrev pub in_order : List Field → Bool
in_order [] = true
in_order (x ∷ []) = true
in_order (x ∷ (y ∷ xs)) = in_front x y && in_order (y ∷ xs)

-- A rule names a field: the first bad one in file order; whatever stands behind it, it is named, so a fault between two fields is the later
-- one's (`later`); and other bytes in it alone would mend it, so it is the one at fault.
pub record Names (rule : List ℕ → List Field) (chunk : List ℕ) (offset : ℕ) : Type 0 where
  pub size : ℕ
  pub first : First offset size (rule chunk)
  pub order : in_order (rule chunk) ≡ true
  pub whatever : (other : List ℕ) → take (offset + size) other ≡ take (offset + size) chunk → First offset size (rule other)
  pub mended : Mended rule chunk offset size
