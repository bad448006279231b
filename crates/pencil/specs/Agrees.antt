-- What holds between the pencil and the table (document 02, request x).
use Rattle.std.specs.Prelude.{ℕ, ◌*◌, ◌/◌, ◌≤◌, ◌<◌, ◌≡◌, List, ltb, length, get_or, Ok, Err}
use Rattle.laws.specs.Choice.{pick}
use Rattle.answer.specs.declared.Outcome.{Outcome}
use Rattle.answer.specs.Answers.{paper}
use Rattle.entry.specs.Entry.{size, nowhere, entry_at}
use Rattle.walk.specs.Room.{Listed}
use Rattle.listing.specs.Listing.{listed, lists}
use Rattle.pencil.specs.Pencil.{Reply, Pencil}

-- ### A listing, asked for its k-th entry

abbrev pub answer_of : Listed → Outcome
answer_of a = record { answer = a.answer; place = a.place; count = length a.entries }

-- the entry, or the answer where there are not so many
unfoldable pub asked : Listed → ℕ → Reply
asked a k = pick (ltb k (length a.entries)) (Ok (get_or a.entries k nowhere)) (Err (answer_of a))

-- ### The two listings agree

pub record Agrees (s : List ℕ) (room : ℕ) : Type 0 where
  -- the pencil gives what the listing has, and nothing else
  pub gives : (k : ℕ) → Pencil s room k (asked (listed s room) k)
  pub only : (k : ℕ) (r : Reply) → Pencil s room k r → r ≡ asked (listed s room) k
  -- and the listing is what the pencil gives for k = 0, 1, 2, and so on
  pub back : (a : Listed) → ((k : ℕ) → Pencil s room k (asked a k)) → a ≡ listed s room

-- the same of what `list` leaves in a table: below its count the k-th entry, number by number; from there on its answer
pub record AgreesWith (s table : List ℕ) : Type 0 where
  pub entry :
      (k : ℕ) (r : Reply) → k < (lists s table).told.count → Pencil s (length table / size) k r
      → r ≡ Ok (entry_at (lists s table).dest (k * size))
  pub answer :
      (k : ℕ) (r : Reply) → (lists s table).told.count ≤ k → Pencil s (length table / size) k r
      → (o : Outcome) × ((r ≡ Err o) × (paper o ≡ (lists s table).told))
