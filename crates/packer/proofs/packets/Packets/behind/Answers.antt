-- What is ahead behind a few bytes is ahead of all.
use mathlib.Core.Path.{ap}
use native.Mathlib.Omega.{arith}
use lib.ListN.{length, length-drop}
use Rattle.packer.specs.Packing.{three}
use Rattle.packer.proofs.Places.{to_end}
use Rattle.packer.proofs.Reach.{counted_within}
use Rattle.packer.proofs.Ahead.{known_behind}
use Rattle.packer.proofs.packets.Packets.behind.Goals as goal

pub overflow_add-result : goal.overflow_add-result
overflow_add-result c =
    let p = c.args.rest.now in
    omega (arith, counted_within three _ _ c.ahead_of-plain.ensures.plain_is, ap length (to_end p c.args.few), length-drop c.args.few p)

pub invariant_of-result : goal.invariant_of-result
invariant_of-result c =
    let p = c.args.rest.now in
    let found = c.ahead_of-plain in
    let ahead = known_behind p c.args.few found.result.plain found.result.same c.requires.few_in_bounds c.requires.none_before (to_end p c.args.few) (found.ensures.plain_is, found.ensures.same_is) in
    record { plain_is = ahead.0; same_is = ahead.1 }
