-- The program's listing: that of the input, under a limit of its own (document 01, "Worked values").
use Rattle.std.specs.Prelude.{ℕ, List, ltb, length, Err}
use Rattle.laws.specs.Choice.{pick}
use Rattle.laws.specs.Results.{Result}
use Rattle.answer.specs.declared.Stopped.TheVariants.{OverLimit}
use Rattle.answer.specs.declared.Told.{Told}
use Rattle.listing.specs.Listing.{head_answer, lists, left_by}

-- bytes of the program's input
abbrev pub program_limit : ℕ
program_limit = 65536

-- a longer input is refused with 1 at 0, and the table is as it was
unfoldable pub program_lists : List ℕ → List ℕ → Result Told
program_lists s table = pick (ltb program_limit (length s)) (left_by (head_answer (Err OverLimit) 0) table) (lists s table)
