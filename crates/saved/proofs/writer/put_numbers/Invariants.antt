-- `saved::writer::put_numbers` meets its contract. The loop's invariant: i numbers are written.
use Rattle.saved.proofs.Form.{Put}
use Rattle.saved.proofs.writer.put_numbers.Given as goal

abbrev pub invariant-loop-i : goal.invariant-loop-i
invariant-loop-i l = Put l.numbers l.initial.dest l.i l.dest
