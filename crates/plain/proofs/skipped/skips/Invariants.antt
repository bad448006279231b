-- Skipped blocks that are plain are passed one by one, each by a step of the rule.
use mathlib.Core.Path.{◌≡◌}
use mathlib.Core.List.{List}
use Prim.Native.Nat.{ℕ, ◌-◌, ◌≤◌}
use lib.ListN.{length}
use Rattle.plain.specs.Skips.{Skips}
use Rattle.plain.proofs.skipped.skips.Given as goal

-- so far the contract holds of what was passed; `stop` stays where both input and parent go on
pub record Going (s : List ℕ) (first end levels asked room : ℕ) (t₀ : List ℕ) (from stop : ℕ) (t : List ℕ) (at count : ℕ) : Type 0 where
  pub here : stop ≤ length s
  pub near : stop ≤ end
  pub same : length t ≡ length t₀
  pub passed : Skips s first end levels asked room from t₀ (record { at = at; count = count }) t

abbrev pub invariant-loop-at : goal.invariant-loop-at
invariant-loop-at l = Going l.s l.stretch.at l.stretch.end l.levels l.asked l.stretch.room l.initial.table l.stretch.count l.stop l.table l.at l.count

abbrev pub decreases-loop-at : goal.decreases-loop-at
decreases-loop-at l = l.stretch.end - l.at
