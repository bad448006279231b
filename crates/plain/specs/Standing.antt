-- What is left where plain blocks were passed.
use Rattle.std.specs.Prelude.{ℕ, ◌+◌, ◌≤◌, ◌≡◌, List, [], length}
use Rattle.entry.specs.declared.Entry.{Entry}
use Rattle.entry.specs.Entry.{write}
use Rattle.walk.specs.Course.{stand, Course}
use Rattle.memory.specs.declared.state.State.{State}
use Rattle.block.specs.Step.{step_at}

-- In one parent the walk goes, by the rule, from a state and a place to a state and a place, and lists these entries on the way.
abbrev pub Goes : List ℕ → ℕ → ℕ → State → ℕ → List Entry → State → ℕ → Type 0
Goes s end levels st at es st' at' = Course (step_at s) levels (stand at end [] st) es (stand at' end [] st')

-- The entries stand in the table behind those that were there; none is without room, and the place lies between the first one and the end.
pub record Stores (first end room from : ℕ) (t : List ℕ) (es : List Entry) (at count : ℕ) (t' : List ℕ) : Type 0 where
  pub counted : count ≡ from + length es
  pub table : t' ≡ write t from es
  pub onward : first ≤ at
  pub within : at ≤ end
  pub fits : count ≤ room
