-- Less is left from turn to turn, and what the paper leads to stays what it led to at the first place.
use Rattle.pencil.proofs.Turns.{left}
use Rattle.pencil.proofs.Follows.{Follows}
use Rattle.asking.proofs.entry_at.Given as goal

abbrev pub invariant-loop-reply : goal.invariant-loop-reply
invariant-loop-reply l = Follows l.input l.room l.k l.paper

abbrev pub decreases-loop-reply : goal.decreases-loop-reply
decreases-loop-reply l = left l.input l.paper
