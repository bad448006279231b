-- `saved::reader::get_numbers` meets its contract. The loop's invariant: i numbers are stored.
use lib.ListN.{length}
use Rattle.laws.proofs.Stored.{Stored}
use Rattle.saved.specs.Saved.{numbers_at}
use Rattle.saved.proofs.reader.get_numbers.Given as goal

abbrev pub invariant-loop-i : goal.invariant-loop-i
invariant-loop-i l = Stored l.initial.numbers 0 (numbers_at (length l.initial.numbers) l.bytes 0) l.i l.numbers
