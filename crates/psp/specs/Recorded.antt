-- What listing into records leaves: C may lend records instead of reading a table's numbers (document 01, "The table").
use Rattle.std.specs.Prelude.{◌≡◌, List, ◌++◌, ℕ, zero, suc, ◌*◌, length, set, drop}
use Rattle.answer.specs.declared.Told.{Told}
use Rattle.entry.specs.declared.Entry.{Entry}
use Rattle.entry.specs.Entry.{size, entry_at}
use Rattle.listing.specs.Listing.{listed, room_up_to, lists_up_to}

-- records in which the first entries of a table are stored, as many as are asked, each at its own index
unfoldable pub records_of : List ℕ → ℕ → List Entry → List Entry
records_of t zero old = old
records_of t (suc k) old = set (records_of t k old) k (entry_at t (k * size))

-- the records hold the entries of the listing in the smaller room; their rest is untouched
abbrev pub Stores : List ℕ → List ℕ → List Entry → List Entry → Type 0
Stores s table records records' = let es = (listed s (room_up_to (length records) table)).entries in records' ≡ es ++ drop (length es) records

-- what `list_records` leaves: the listing in the smaller room, in the table and in the records; both rests are untouched
pub record ListedRecords (s table : List ℕ) (records : List Entry) (r : Told) (table' : List ℕ) (records' : List Entry) : Type 0 where
  pub lists : record { told = r; dest = table' } ≡ lists_up_to s (length records) table
  pub stores : Stores s table records records'
