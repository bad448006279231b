-- What the one walk of an input leaves, with any room, any table and any question.
use Rattle.std.specs.Prelude.{ℕ, ◌≡◌, List}
use Rattle.answer.specs.Answers.{paper}
use Rattle.entry.specs.Entry.{write}
use Rattle.listing.specs.declared.question.Question.{Question}
use Rattle.listing.specs.declared.walker.Out.{Out}
use Rattle.listing.specs.Question.{found_in}
use Rattle.listing.specs.Listing.{listed, told}

-- the answer; the entries stored where the table reaches; and what was asked of them
pub record Walks (s : List ℕ) (room : ℕ) (table : List ℕ) (q : Question) (r : Out) (after : List ℕ) : Type 0 where
  pub answer : paper r.outcome ≡ told (listed s room)
  pub stores : after ≡ write table 0 (listed s room).entries
  pub finds : r.found ≡ found_in q (listed s room).entries
