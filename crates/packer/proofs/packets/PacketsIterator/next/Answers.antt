-- Each packet takes a byte at least.
use Rattle.packer.proofs.Packing.{takes_shorter}
use Rattle.packer.proofs.packets.PacketsIterator.next.Goals as goal

pub returns-then-self-gt0-clause-goes : goal.returns-then-self-gt0-clause-goes
returns-then-self-gt0-clause-goes c = record { on = λ finite. (tt, tt, takes_shorter c.literals.ensures); keeps = tt; rests = λ finite. tt }

pub returns-clause-goes : goal.returns-clause-goes
returns-clause-goes c = record { on = λ finite. (tt, tt, takes_shorter c.run.ensures); keeps = tt; rests = λ finite. tt }
