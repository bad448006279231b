-- A listing checked by another (document 02, request x), of what calls give: an entry that is asked for, beside the table that is left.
use Rattle.std.specs.Prelude.{◌≡◌, List, ℕ, ◌*◌, ◌/◌, ◌≤◌, ◌<◌, length, Ok}
use Rattle.laws.specs.Results.{Result}
use Rattle.answer.specs.declared.Told.{Told}
use Rattle.entry.specs.Entry.{size, nowhere, entry_at}
use Rattle.asking.specs.declared.numbers.Asked.{Asked}
use Rattle.asking.specs.Told.{told}

-- of an input and a table, what listing leaves; of an input, a room and k, what asking gives
pub record Checks (Lists : List ℕ → List ℕ → Result Told → Type 0) (Asks : List ℕ → ℕ → ℕ → Asked → Type 0) : Type 0 where
  -- below the count, the k-th entry of the table, number by number
  pub entry :
      (s table : List ℕ) (k : ℕ) (l : Result Told) (a : Asked) → Lists s table l → Asks s (length table / size) k a → k < l.told.count
      → a ≡ told (Ok (entry_at l.dest (k * size)))
  -- from there on, the listing's answer, and no entry
  pub answer :
      (s table : List ℕ) (k : ℕ) (l : Result Told) (a : Asked) → Lists s table l → Asks s (length table / size) k a → l.told.count ≤ k
      → a ≡ record { found = 0; listed = l.told; entry = nowhere }
