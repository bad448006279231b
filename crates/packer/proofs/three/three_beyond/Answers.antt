-- Near, or far.
use mathlib.Core.Path.{◌≡◌, sym, ◌∙◌}
use mathlib.Core.Bool.{false}
use mathlib.Core.List.{List}
use Prim.Native.Nat.{ℕ, ◌-◌, ◌<◌, ◌≤◌}
use native.Mathlib.Omega.{arith}
use lib.ListN.{length, take, drop}
use lib.Seq.{length-take-le}
use Rattle.packer.specs.Packing.{three}
use Rattle.packer.proofs.Places.{three_front, to_end}
use Rattle.packer.proofs.Reach.{Clear, counted_on, counted_within}
use Rattle.packer.proofs.Passing.{found_here}
use Rattle.packer.proofs.three.three_beyond.Goals as goal

-- three equal bytes start in a part where they start in the plane, unless the part ends within them
near_clear :
    (p : List ℕ) (near first : ℕ) → near ≤ length p → first ≤ near - 2 → ((k : ℕ) → k < first → three (drop k (take near p)) ≡ false)
    → Clear three p 0 first
near_clear p near first inside few before k above below = sym (three_front p near k (omega arith) inside) ∙ before k below

pub returns-then-near-first-ge3 : goal.returns-then-near-first-ge3
returns-then-near-first-ge3 c =
    let p = c.args.rest.now in
    let near = c.min-near.result in
    let first = c.three_before-first in
    let len : length (take near p) ≡ near = length-take-le near p (omega arith) in
    let clear = near_clear p near first.result (omega arith) (omega arith) first.ensures.before in
    let here = sym (three_front p near first.result (omega arith) (omega arith)) ∙ first.ensures.found (omega arith) in
    let counted = found_here p first.result clear (omega arith) here in
    record { within = counted_within three p _ counted; counted = counted }

pub returns : goal.returns
returns c =
    let p = c.args.rest.now in
    let near = c.min-near.result in
    let first = c.three_before-first in
    let len : length (take near p) ≡ near = length-take-le near p (omega arith) in
    let clear = near_clear p near first.result (omega arith) (omega arith) first.ensures.before in
    let counted = counted_on three p first.result c.three_far.result (omega arith) clear (to_end p first.result) c.three_far.ensures.counted in
    record { within = counted_within three p _ counted; counted = counted }
