-- A table as a file (document 02, requests iv and ix). All its numbers but the version have four bytes, the greatest first.
use Rattle.std.specs.Prelude.{Result as Answer}
use Rattle.std.specs.Prelude.{ℕ, zero, suc, ◌+◌, ◌-◌, ◌*◌, ◌/◌, Bool, false, not, ◌||◌, List, [], ◌∷◌, ◌++◌, eqb, ltb, length, take, drop, get_or, Ok, Err}
use Rattle.laws.specs.Choice.{pick}
use Rattle.laws.specs.Results.{Result}
use Rattle.endian.specs.Number.{big_at, big_bytes_of}
use Rattle.rect.specs.declared.planes.Size.{Size}
use Rattle.entry.specs.Entry.{size, entry_at}
use Rattle.saved.specs.declared.writer.Saved.{Saved}
use Rattle.saved.specs.declared.writer.WriteError.{WriteError}
use Rattle.saved.specs.declared.writer.WriteError.TheVariants as write
use Rattle.saved.specs.declared.reader.Restored.{Restored}
use Rattle.saved.specs.declared.reader.ReadError.{ReadError}
use Rattle.saved.specs.declared.reader.ReadError.TheVariants as read

-- ### The file of a table

-- whole entries: fewer numbers than an entry's, behind the last one, are none
abbrev pub entries_in : List ℕ → ℕ
entries_in table = length table / size

abbrev pub numbers_in : List ℕ → List ℕ
numbers_in table = take (size * entries_in table) table

-- numbers, one behind another
unfoldable pub in_bytes : List ℕ → List ℕ
in_bytes [] = []
in_bytes (n ∷ ns) = big_bytes_of 4 n ++ in_bytes ns

-- version, count and entries; and in front of them their length
unfoldable pub following : ℕ → List ℕ → List ℕ
following version table = version ∷ big_bytes_of 4 (entries_in table) ++ in_bytes (numbers_in table)

unfoldable pub saved_as : ℕ → List ℕ → List ℕ
saved_as version table = big_bytes_of 4 (length (following version table)) ++ following version table

-- ### Its version: 1, or 2 where a side is large

-- the greatest side that is not
abbrev pub old_side : ℕ
old_side = 4096

abbrev pub is_large : Size → Bool
is_large s = ltb old_side s.width || ltb old_side s.height

-- whether one of the first n entries of a table has a large side
unfoldable pub any_large : ℕ → List ℕ → Bool
any_large zero table = false
any_large (suc n) table = any_large n table || is_large (entry_at table (n * size)).size

abbrev pub version_of : List ℕ → ℕ
version_of table = pick (any_large (entries_in table) table) 2 1

abbrev pub saved : List ℕ → List ℕ
saved table = saved_as (version_of table) table

-- ### Writing

-- the greatest number that four bytes can say
abbrev pub most_in_four : ℕ
most_in_four = 4294967295

-- what the document tells of an answer
abbrev pub write_paper : Answer ℕ WriteError → Saved
write_paper (Ok n) = record { number = 0; length = n }
write_paper (Err write.OverLong) = record { number = 70; length = 0 }
write_paper (Err write.NoRoom) = record { number = 73; length = 0 }

abbrev pub write_result : Answer ℕ WriteError → List ℕ → Result Saved
write_result answer dest = record { told = write_paper answer; dest = dest }

-- what writing in a version leaves: the file in front, and the rest of the destination unchanged
unfoldable pub writes_as : ℕ → List ℕ → List ℕ → Result Saved
writes_as version table dest =
    pick (ltb most_in_four (length (following version table))) (write_result (Err write.OverLong) dest)
    (pick (ltb (length dest) (length (saved_as version table))) (write_result (Err write.NoRoom) dest)
    (write_result (Ok (length (saved_as version table))) (saved_as version table ++ drop (length (saved_as version table)) dest)))

-- what `write_table` leaves
abbrev pub writes : List ℕ → List ℕ → Result Saved
writes table = writes_as (version_of table) table

-- ### Reading

-- what a file says of itself
abbrev pub length_said : List ℕ → ℕ
length_said file = big_at 4 file 0

abbrev pub version_said : List ℕ → ℕ
version_said file = get_or file 4 0

abbrev pub count_said : List ℕ → ℕ
count_said file = big_at 4 file 5

-- so many numbers from a place on
unfoldable pub numbers_at : ℕ → List ℕ → ℕ → List ℕ
numbers_at zero file at = []
numbers_at (suc n) file at = big_at 4 file at ∷ numbers_at n file (at + 4)

-- those of so many entries stand behind nine bytes
abbrev pub entries_of : List ℕ → ℕ → List ℕ
entries_of file count = numbers_at (size * count) file 9

-- the entries of a file, as many as it counts
abbrev pub found : List ℕ → List ℕ
found file = entries_of file (count_said file)

-- the tests of a file. A length counts version and count, five bytes, and 56 an entry
abbrev pub is_other_length : List ℕ → Bool
is_other_length file = ltb (length file) 9 || not (eqb (length_said file) (length file - 4))

abbrev pub is_other_version : List ℕ → Bool
is_other_version file = ltb (version_said file) 1 || ltb 2 (version_said file)

abbrev pub is_other_count : List ℕ → Bool
is_other_count file = not (eqb (length_said file) (5 + 56 * count_said file))

abbrev pub has_other_sides : List ℕ → Bool
has_other_sides file = not (eqb (version_said file) (version_of (found file)))

abbrev pub read_paper : Answer ℕ ReadError → Restored
read_paper (Ok n) = record { number = 0; count = n }
read_paper (Err read.WrongLength) = record { number = 70; count = 0 }
read_paper (Err read.WrongVersion) = record { number = 71; count = 0 }
read_paper (Err read.WrongCount) = record { number = 72; count = 0 }
read_paper (Err read.WrongSides) = record { number = 74; count = 0 }
read_paper (Err read.NoRoom) = record { number = 73; count = 0 }

abbrev pub read_result : Answer ℕ ReadError → List ℕ → Result Restored
read_result answer table = record { told = read_paper answer; dest = table }

-- what is left of a file that passes them: the entries in front, and the rest of the table unchanged
unfoldable pub restores : List ℕ → List ℕ → Result Restored
restores file table =
    pick (ltb (entries_in table) (count_said file)) (read_result (Err read.NoRoom) table)
    (read_result (Ok (count_said file)) (found file ++ drop (size * count_said file) table))

-- what `read_table` leaves
unfoldable pub reads : List ℕ → List ℕ → Result Restored
reads file table =
    pick (is_other_length file) (read_result (Err read.WrongLength) table)
    (pick (is_other_version file) (read_result (Err read.WrongVersion) table)
    (pick (is_other_count file) (read_result (Err read.WrongCount) table)
    (pick (has_other_sides file) (read_result (Err read.WrongSides) table)
    (restores file table))))
