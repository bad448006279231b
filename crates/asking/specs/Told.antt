-- A reply in numbers: which of the two it is, and zeros for the other.
use Rattle.std.specs.Prelude.{Ok, Err}
use Rattle.answer.specs.Answers.{paper}
use Rattle.entry.specs.Entry.{nowhere}
use Rattle.pencil.specs.Pencil.{Reply}
use Rattle.asking.specs.declared.numbers.Asked.{Asked}

abbrev pub told : Reply → Asked
told (Ok e) = record { found = 1; listed = record { number = 0; place = 0; count = 0 }; entry = e }
told (Err o) = record { found = 0; listed = paper o; entry = nowhere }
