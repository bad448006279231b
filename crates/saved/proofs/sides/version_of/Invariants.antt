-- `saved::sides::version_of` meets its contract. The loop's invariant: `large` tells of the first i entries.
use mathlib.Core.Path.{◌≡◌}
use Rattle.saved.specs.Saved.{any_large}
use Rattle.saved.proofs.sides.version_of.Given as goal

abbrev pub invariant-loop-i : goal.invariant-loop-i
invariant-loop-i g l = l.large ≡ any_large l.i (g.N.Numbers.numbers l.table)
