-- Saved tables before request (ix), when each was of version 1 and no side was looked at; and what holds between those and today's. It is said
-- of any two functions, by what they may leave of what they are given.
use Rattle.std.specs.Prelude.{ℕ, ◌*◌, ◌≤◌, ◌<◌, not, ◌≡◌, List, eqb, Err}
use Rattle.laws.specs.Choice.{pick}
use Rattle.laws.specs.Results.{Result}
use Rattle.rect.specs.declared.planes.Size.{Size}
use Rattle.entry.specs.Entry.{size, entry_at}
use Rattle.saved.specs.declared.writer.Saved.{Saved}
use Rattle.saved.specs.declared.reader.Restored.{Restored}
use Rattle.saved.specs.declared.reader.ReadError.TheVariants as read
use Rattle.saved.specs.Saved.{entries_in, old_side, writes_as, version_said, found, is_other_length, is_other_count, read_result, restores}
use Rattle.saved.specs.Kept.{file_in}

-- ### As it was

abbrev pub earlier_writes : List ℕ → List ℕ → Result Saved
earlier_writes = writes_as 1

unfoldable pub earlier_reads : List ℕ → List ℕ → Result Restored
earlier_reads file table =
    pick (is_other_length file) (read_result (Err read.WrongLength) table)
    (pick (not (eqb (version_said file) 1)) (read_result (Err read.WrongVersion) table)
    (pick (is_other_count file) (read_result (Err read.WrongCount) table)
    (restores file table)))

-- ### And as it is

-- no width or height of a table is large
pub record Narrow (s : Size) : Type 0 where
  pub width : s.width ≤ old_side
  pub height : s.height ≤ old_side

abbrev pub Small : List ℕ → Type 0
Small table = (k : ℕ) → k < entries_in table → Narrow (entry_at table (k * size)).size

pub record Succeeds (Writes : List ℕ → List ℕ → Result Saved → Type 0) (Reads : List ℕ → List ℕ → Result Restored → Type 0) : Type 0 where
  -- a table without a large side is written as it was, byte for byte
  pub written : (table dest : List ℕ) (w : Result Saved) → Writes table dest w → Small table → w ≡ earlier_writes table dest
  -- a file of version 1 without one is read as it was, in any room
  pub restored :
      (file room : List ℕ) (r : Result Restored) → Reads file room r → version_said file ≡ 1 → Small (found file) → r ≡ earlier_reads file room
  -- any other that was accepted is 74
  pub refused :
      (file room : List ℕ) (r : Result Restored) → Reads file room r → (earlier_reads file room).told.number ≡ 0 → (Small (found file) → ⊥)
      → r ≡ record { told = record { number = 74; count = 0 }; dest = room }
  -- and what is written of a table with a large side was 71, in any room
  pub unknown :
      (table dest room : List ℕ) (w : Result Saved) → Writes table dest w → w.told.number ≡ 0 → (Small table → ⊥)
      → earlier_reads (file_in w) room ≡ record { told = record { number = 71; count = 0 }; dest = room }
