-- Nothing more ahead, or three equal bytes, behind which the count goes on.
use Prim.Native.Nat.{◌+◌}
use native.Mathlib.Omega.{arith}
use Rattle.packer.proofs.Places.{to_end}
use Rattle.packer.proofs.Ahead.{known_none, known_some, three_inside}
use Rattle.packer.proofs.packets.ahead_of.Goals as goal

pub returns-then-plain-rest : goal.returns-then-plain-rest
returns-then-plain-rest c =
    let ahead = known_none c.args.rest.now _ c.three_start-plain.ensures.counted c.if-plain-rest.true in
    record { plain_is = ahead.0; same_is = ahead.1 }

-- it is no end, so three bytes stand there
pub overflow_add-plain : goal.overflow_add-plain
overflow_add-plain c = omega (arith, three_inside c.args.rest.now _ c.three_start-plain.ensures.counted c.if-plain-rest.false)

pub slice_bounds-equal_front-count : goal.slice_bounds-equal_front-count
slice_bounds-equal_front-count c = three_inside c.args.rest.now _ c.three_start-plain.ensures.counted c.if-plain-rest.false

pub slice_bounds-equal_front-start : goal.slice_bounds-equal_front-start
slice_bounds-equal_front-start c = three_inside c.args.rest.now _ c.three_start-plain.ensures.counted c.if-plain-rest.false

pub returns : goal.returns
returns c =
    let p = c.args.rest.now in
    let plain = c.three_start-plain.result in
    let ahead = known_some p plain c.three_start-plain.ensures.counted c.equal_front-same.result c.if-plain-rest.false (to_end p (plain + 3)) c.equal_front-same.ensures.counted in
    record { plain_is = ahead.0; same_is = ahead.1 }
