-- The first i entries of the table are stored, and the rest of the records is as it was.
use Rattle.std.proofs.Common.{◌≡◌}
use Rattle.psp.specs.Recorded.{records_of}
use Rattle.psp.proofs.recorded.fill.Given as goal

abbrev pub invariant-loop-i : goal.invariant-loop-i
invariant-loop-i l = l.records ≡ records_of l.table l.i l.initial.records
