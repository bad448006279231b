use Rattle.laws.proofs.Stored.{Stored}
use Rattle.entry.proofs.put.Given as goal

abbrev pub invariant-loop-i : goal.invariant-loop-i
invariant-loop-i l = Stored l.initial.table l.used l.number-items l.i l.table
