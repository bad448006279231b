-- Near, or far.
use native.Mathlib.Omega.{arith}
use Rattle.packer.specs.Packing.{other_than}
use Rattle.packer.proofs.Places.{to_end}
use Rattle.packer.proofs.Reach.{counted_on, counted_within}
use Rattle.packer.proofs.Counted.{few_counted, few_clear}
use Rattle.packer.proofs.equal.equal_beyond.Goals as goal

pub returns-then-first-near : goal.returns-then-first-near
returns-then-first-near c =
    let first = c.before_other-first in
    let counted = few_counted c.args.byte c.args.rest.now c.min-near.result first.result (omega arith) c.if-first-near.true first.ensures.before first.ensures.ended in
    record { within = counted_within (other_than c.args.byte) c.args.rest.now _ counted; counted = counted }

pub returns : goal.returns
returns c =
    let p = c.args.rest.now in
    let n = c.min-near.result in
    let other = other_than c.args.byte in
    let near = c.before_other-first.ensures.before in
    let counted = counted_on other p n c.equal_far.result (omega arith) (few_clear c.args.byte p n (λ k h. near k (omega arith))) (to_end p n) c.equal_far.ensures.counted in
    record { within = counted_within other p _ counted; counted = counted }
