-- Where the code's pencil may stand: inside an input within the limit, not behind the end of the block that it is inside of, and with no more
-- entries passed than there is room for.
use Rattle.std.specs.Prelude.{ℕ, ◌≤◌, ◌<◌, ◌^◌, List, length}
use Rattle.limits.specs.Limits.{input_limit}
use Rattle.pencil.specs.declared.paper.Paper.{Paper}
use Rattle.pencil.specs.Pencil.{end_of}

pub record Standing (s : List ℕ) (room : ℕ) (p : Paper) : Type 0 where
  pub small : length s ≤ input_limit
  pub order : p.place ≤ end_of p.inside
  pub near : end_of p.inside < 2 ^ 40
  pub few : p.count ≤ room
