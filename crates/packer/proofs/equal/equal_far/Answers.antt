-- Behind whole blocks.
use Rattle.packer.specs.Packing.{other_than}
use Rattle.packer.proofs.Places.{to_end}
use Rattle.packer.proofs.Reach.{counted_within}
use Rattle.packer.proofs.Counted.{far_counted}
use Rattle.packer.proofs.equal.equal_far.Goals as goal

pub returns : goal.returns
returns c =
    let p = c.args.rest.now in
    let blocks = c.equal_blocks-far in
    let last = c.before_other in
    let counted = far_counted c.args.byte p blocks.result last.result blocks.ensures.within blocks.ensures.before (to_end p blocks.result) last.ensures.within last.ensures.before last.ensures.ended in
    record { within = counted_within (other_than c.args.byte) p _ counted; counted = counted }
