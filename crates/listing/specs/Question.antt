-- What a view asks of the entries that are listed: the index-th of those that have an id and are skipped, or not.
use Rattle.std.specs.Prelude.{ℕ, ◌+◌, Bool, ◌&&◌, List, eqb, length, get_or}
use Rattle.laws.specs.Choice.{pick}
use Rattle.laws.specs.Lists.{filter}
use Rattle.entry.specs.declared.Entry.{Entry}
use Rattle.entry.specs.Entry.{nowhere, stored}
use Rattle.listing.specs.declared.question.Question.{Question}
use Rattle.listing.specs.declared.question.Found.{Found}

abbrev pub question : ℕ → ℕ → ℕ → Question
question id skipped index = record { id = id; skipped = skipped; index = index }

abbrev pub is_asked : Question → Entry → Bool
is_asked q e = eqb e.block.id q.id && eqb e.block.skipped q.skipped

-- the answer: how many there are, and the one that was asked for
unfoldable pub found_in : Question → List Entry → Found
found_in q es = record { count = length (filter (is_asked q) es); entry = get_or (filter (is_asked q) es) q.index nowhere }

-- ### As the walk goes by

abbrev pub nothing : Found
nothing = record { count = 0; entry = nowhere }

-- one entry more (`noted_all`: after all entries this is `found_in`)
unfoldable pub noted : Question → Found → Entry → Found
noted q x e = pick (is_asked q e) (record { count = x.count + 1; entry = pick (eqb x.count q.index) e x.entry }) x

-- what is kept of the entries: the table, and what was asked
pub record Kept : Type 0 where
  pub table : List ℕ
  pub found : Found

abbrev pub kept : List ℕ → Found → Kept
kept t x = record { table = t; found = x }

abbrev pub put : Question → Kept → ℕ → Entry → Kept
put q k i e = kept (stored k.table i e) (noted q k.found e)
