-- The loop's invariant: what is stored stands in front of the packed form of the rest.
use Rattle.packer.proofs.Packing.{Storing}
use Rattle.packer.proofs.form.store_all.Given as goal

abbrev pub invariant-loop-piece : goal.invariant-loop-piece
invariant-loop-piece l = Storing l.fn.packets.rest.now l.initial.dest l.piece-iterator.rest.now l.done l.dest
