-- What holds between writing and reading (document 02, request iv): one table has one file, and one file one table. It is said of any two
-- functions, by what they may leave of what they are given.
use Rattle.std.specs.Prelude.{ℕ, ◌+◌, ◌*◌, ◌≤◌, ◌<◌, ◌≡◌, List, ◌++◌, length, take, drop}
use Rattle.laws.specs.All.{All}
use Rattle.laws.specs.Results.{Result}
use Rattle.entry.specs.Entry.{size}
use Rattle.saved.specs.declared.writer.Saved.{Saved}
use Rattle.saved.specs.declared.reader.Restored.{Restored}
use Rattle.saved.specs.Saved.{entries_in, numbers_in, saved}

-- a file is of bytes, and a table of numbers of 32 bits
abbrev pub Bytes : List ℕ → Type 0
Bytes = All (λ (b : ℕ). b < 256)

abbrev pub Numbers : List ℕ → Type 0
Numbers = All (λ (n : ℕ). n < 4294967296)

-- the entries of the largest table whose length four bytes can say
abbrev pub largest : ℕ
largest = 76695844

-- the file that writing left in front of its destination, and the entries that reading left in front of its table
abbrev pub file_in : Result Saved → List ℕ
file_in w = take w.told.length w.dest

abbrev pub found_in : Result Restored → List ℕ
found_in r = take (size * r.told.count) r.dest

pub record Keeps (Writes : List ℕ → List ℕ → Result Saved → Type 0) (Reads : List ℕ → List ℕ → Result Restored → Type 0) : Type 0 where
  -- what was written reads back as the same entries, in any room that has space, and the rest of that room stays
  pub back :
      (table dest room : List ℕ) (w : Result Saved) (r : Result Restored) → Numbers table
      → Writes table dest w → w.told.number ≡ 0 → Reads (file_in w) room r → entries_in table ≤ entries_in room
      → r ≡ record { told = record { number = 0; count = entries_in table }; dest = numbers_in table ++ drop (size * entries_in table) room }
  -- a file that was accepted, whatever the room, is byte for byte what writing its entries makes, wherever there is room for it
  pub again :
      (file room dest : List ℕ) (r : Result Restored) (w : Result Saved) → Bytes file
      → Reads file room r → r.told.number ≡ 0 → Writes (found_in r) dest w → length file ≤ length dest
      → w ≡ record { told = record { number = 0; length = length file }; dest = file ++ drop (length file) dest }
  -- so one table has one file
  pub one_file :
      (f g room room' : List ℕ) (r s : Result Restored) → Bytes f → Bytes g
      → Reads f room r → r.told.number ≡ 0 → Reads g room' s → s.told.number ≡ 0 → found_in r ≡ found_in s → f ≡ g
  -- and one file one table
  pub one_table :
      (t u dest dest' : List ℕ) (v w : Result Saved) → Numbers t → Numbers u
      → Writes t dest v → v.told.number ≡ 0 → Writes u dest' w → w.told.number ≡ 0 → file_in v ≡ file_in w → numbers_in t ≡ numbers_in u
  -- up to the largest table the length is whole, and the destination's room decides
  pub fits :
      (table dest : List ℕ) (w : Result Saved) → Writes table dest w → entries_in table ≤ largest → 9 + 56 * entries_in table ≤ length dest
      → w ≡ record { told = record { number = 0; length = 9 + 56 * entries_in table }; dest = saved table ++ drop (9 + 56 * entries_in table) dest }
  pub short :
      (table dest : List ℕ) (w : Result Saved) → Writes table dest w → entries_in table ≤ largest → length dest < 9 + 56 * entries_in table
      → w ≡ record { told = record { number = 73; length = 0 }; dest = dest }
  -- and no table of more entries is written, whatever the destination
  pub over_long :
      (table dest : List ℕ) (w : Result Saved) → Writes table dest w → largest < entries_in table
      → w ≡ record { told = record { number = 70; length = 0 }; dest = dest }
