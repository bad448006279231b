-- Channels that are plain are passed one by one, each by a step of the rule.
use mathlib.Core.Path.{◌≡◌}
use mathlib.Core.List.{List}
use Prim.Native.Nat.{ℕ, ◌-◌, ◌≤◌}
use lib.ListN.{length}
use Rattle.memory.specs.declared.codes.Codes.{Codes}
use Rattle.memory.specs.declared.state.State.{State}
use Rattle.plain.specs.Channels.{Channels}
use Rattle.plain.proofs.channels.channels.Given as goal

-- so far the contract holds of what was passed; `stop` stays where both input and layer go on
pub record Going (s : List ℕ) (st : State) (first end room : ℕ) (t₀ : List ℕ) (from stop : ℕ) (t : List ℕ) (at count left : ℕ) (codes : Codes) : Type 0 where
  pub here : stop ≤ length s
  pub near : stop ≤ end
  pub same : length t ≡ length t₀
  pub passed : Channels s st first end room from t₀ (record { passed = record { at = at; count = count }; left = left; codes = codes }) t

abbrev pub invariant-loop-c : goal.invariant-loop-c
invariant-loop-c l = Going l.s l.st l.stretch.at l.stretch.end l.stretch.room l.initial.table l.stretch.count l.stop l.table l.at l.count l.left l.codes

abbrev pub decreases-loop-c : goal.decreases-loop-c
decreases-loop-c l = l.stretch.end - l.at
