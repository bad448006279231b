-- The walk meets its contract: what is left to walk from a turn on is what is left from the start. Levels fall from call to call, and
-- bytes left in the parent from turn to turn.
use mathlib.Core.Path.{◌≡◌}
use mathlib.Core.List.{List}
use Prim.Native.Nat.{ℕ, ◌+◌, ◌-◌, ◌*◌, ◌≤◌}
use lib.ListN.{length}
use Rattle.walk.specs.Walk.{run}
use Rattle.walk.proofs.LoopTurn.{Continues}
use Rattle.memory.specs.declared.state.State.{State}
use Rattle.block.specs.Step.{step_at}
use Rattle.listing.specs.declared.question.Question.{Question}
use Rattle.listing.specs.declared.question.Found.{Found}
use Rattle.listing.specs.Question.{kept, put}
use Rattle.listing.proofs.walker.+enter_siblings.Given as goal

abbrev pub decreases-enter : goal.decreases-enter
decreases-enter l = l.levels * 2

abbrev pub decreases-siblings : goal.decreases-siblings
decreases-siblings l = l.levels * 2 + 1

-- whatever is left from here is what is left from the start
pub record Going (q : Question) (s : List ℕ) (end levels room : ℕ) (t₀ : List ℕ) (st₀ : State) (at₀ from₀ : ℕ) (x₀ : Found)
    (t : List ℕ) (st : State) (at from : ℕ) (x : Found) : Type 0 where
  pub order : at ≤ end
  pub fits : from ≤ room
  pub few : x.count ≤ from
  pub same : length t ≡ length t₀
  pub on :
      Continues (put q) (run (step_at s) (length s) st₀ at₀ end levels) room from₀ (kept t₀ x₀) (run (step_at s) (length s) st at end levels) from (kept t x)

abbrev pub invariant-siblings-loop-p : goal.invariant-siblings-loop-p
invariant-siblings-loop-p l =
    Going l.question l.s l.end l.levels l.room l.initial.table l.initial.state l.initial.at l.initial.count l.initial.found
    l.table l.state l.at l.count l.found

abbrev pub decreases-siblings-loop-p : goal.decreases-siblings-loop-p
decreases-siblings-loop-p l = l.end - l.at
