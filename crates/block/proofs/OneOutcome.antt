-- Any two outcomes that a contract admits are equal: the code's step is known by the walk's.
use mathlib.Core.Path.{◌≡◌, refl}
use Rattle.std.specs.Prelude.{Result, Ok, Err}
use Rattle.laws.specs.Outcomes.{OneResult}
use Rattle.laws.proofs.OneOutcome.{one, answer_one}
use Rattle.walk.specs.Walk as walk
use Rattle.walk.specs.Walk.{End, Stop, Leaf, Nest}
use Rattle.memory.specs.declared.state.State.{State}
use Rattle.kinds.specs.declared.answers.Stop as stop
use Rattle.kinds.specs.declared.answers.Step.{Step}
use Rattle.kinds.specs.declared.answers.Step.TheVariants as code
use Rattle.kinds.specs.Blocks.{told}
use Rattle.block.proofs.header.block.Reads as block
use Rattle.block.proofs.header.lengths.Reads as lengths
use Rattle.block.proofs.looking.edge_at.Reads as edge_at
use Rattle.block.proofs.looking.look.Reads as look

back : walk.Step State → Result Step stop.Stop
back End = Ok code.End
back (Stop n p) = Err (record { refusal = n; place = p })
back (Leaf e next st) = Ok (code.Leaf e next st)
back (Nest e inside st after) = Ok (code.Nest e inside st after)

told_back : (k : Result Step stop.Stop) → back (told k) ≡ k
unfolding back
told_back (Ok code.End) = refl
told_back (Ok (code.Leaf e next st)) = refl
told_back (Ok (code.Nest e inside st after)) = refl
told_back (Err s) = refl

pub look_one : OneResult look.Learnt
look_one l a y z e f p q = answer_one told back told_back y z (one p q)

pub block_one : OneResult block.Learnt
block_one l a y z e f p q = answer_one told back told_back y z (one p q)

pub lengths_one : OneResult lengths.Learnt
lengths_one l a y z e f = one

pub edge_at_one : OneResult edge_at.Learnt
edge_at_one l a y z e f = one
