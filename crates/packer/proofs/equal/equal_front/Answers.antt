-- At once, or beyond the first byte.
use mathlib.Core.Path.{sym, refl}
use native.Mathlib.Omega.{arith}
use Rattle.packer.specs.Packing.{other_than}
use Rattle.packer.proofs.Places.{other_yes, other_no, to_end}
use Rattle.packer.proofs.Until.{until_none, until_on}
use Rattle.packer.proofs.Reach.{counted_within}
use Rattle.packer.proofs.equal.equal_front.Goals as goal

pub returns-in-len1-up : goal.returns-in-len1-up
returns-in-len1-up c =
    let p = c.args.rest.now in
    let other = other_than c.args.byte in
    let counted = until_on other p _ (to_end p 1) (omega arith) (other_no c.args.byte p 0 c.if-first-byte.true) c.equal_beyond.ensures.counted in
    record { within = counted_within other p _ counted; counted = counted }

pub returns-in_default : goal.returns-in_default
returns-in_default c = let e = counted_within (other_than c.args.byte) c.args.rest.now _ refl in record { within = omega arith; counted = omega arith }

pub returns-in_default-2 : goal.returns-in_default-2
returns-in_default-2 c =
    let p = c.args.rest.now in
    record { within = omega arith; counted = sym (until_none (other_than c.args.byte) _ p (other_yes c.args.byte p 0 c.if-first-byte.false)) }
